use Rattle.std.proofs.Common.{◌≤◌, ◌-◌, length}
use Rattle.vx_hub.specs.Leases.{NoneFilled, class_test}
use Rattle.vx_hub.proofs.ready.filled_of.Given as goal

abbrev pub invariant-loop-i : goal.invariant-loop-i
invariant-loop-i g l = record {
  within : l.from ≤ length l.engine.places;
  asked : NoneFilled (class_test l.class) l.engine l.now l.from;
}

abbrev pub decreases-loop-i : goal.decreases-loop-i
decreases-loop-i g l = length l.engine.places - l.from
