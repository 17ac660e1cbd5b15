use Rattle.std.proofs.Common.{◌≤◌, ◌-◌, length}
use Rattle.vx_json.specs.ModeViews.{mode_view, stack_view}
use Rattle.vx_json.proofs.Readings.{HasRead}
use Rattle.vx_json.proofs.reader.value.Given as goal

abbrev pub invariant-loop-i : goal.invariant-loop-i
invariant-loop-i l = record { read : HasRead l.bytes l.i (mode_view l.mode) (stack_view l.stack.items); within : l.i ≤ length l.bytes }

abbrev pub decreases-loop-i : goal.decreases-loop-i
decreases-loop-i l = length l.bytes - l.i
