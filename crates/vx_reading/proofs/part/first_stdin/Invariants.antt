use Rattle.std.proofs.Common.{◌≡◌, find, drop}
use Rattle.vx_reading.specs.Components.{reads_stdin}
use Rattle.vx_reading.specs.Views.{parts_view}
use Rattle.vx_reading.proofs.part.first_stdin.Given as goal

-- the components that are left say what all say
abbrev pub invariant-loop-part : goal.invariant-loop-part
invariant-loop-part l = find reads_stdin (parts_view (drop l.part-index l.parts)) ≡ find reads_stdin (parts_view l.parts)
