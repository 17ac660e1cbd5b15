use Rattle.std.proofs.Common.{◌≡◌, ◌+◌, drop}
use Rattle.vx_reading.specs.Stages.{capacity_of_all}
use Rattle.vx_reading.specs.Views.{parts_view}
use Rattle.vx_reading.proofs.stages.capacity_of_all.Given as goal

-- what is left to add makes the sum whole
abbrev pub invariant-loop-part : goal.invariant-loop-part
invariant-loop-part l = l.room + capacity_of_all (parts_view (drop l.part-index l.all)) ≡ capacity_of_all (parts_view l.all)
