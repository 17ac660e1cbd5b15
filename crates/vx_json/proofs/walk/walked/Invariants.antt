use Rattle.std.proofs.Common.{◌≤◌, ◌-◌, length, take}
use Rattle.vx_json.specs.ModeViews.{stack_view}
use Rattle.vx_json.specs.Walks.{LeadsOn, held_view}
use Rattle.vx_json.proofs.walk.walked.Given as goal

abbrev pub invariant-loop-n : goal.invariant-loop-n
invariant-loop-n l = record {
  within : l.i ≤ length l.bytes;
  leads : LeadsOn (held_view l.fn.held) (stack_view l.fn.stack.items) (take l.i l.bytes) l.held (stack_view l.stack.items);
}

abbrev pub decreases-loop-n : goal.decreases-loop-n
decreases-loop-n l = length l.bytes - l.i
