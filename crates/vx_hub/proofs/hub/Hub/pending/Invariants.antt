use Rattle.std.proofs.Common.{◌≡◌, ◌≤◌, ◌-◌, length, false}
use Rattle.vx_record.specs.Abandoning.{abandoned}
use Rattle.vx_hub.specs.Pushing.{NoneMovesBelow}
use Rattle.vx_hub.proofs.hub.Hub.pending.Given as goal

abbrev pub invariant-loop-i : goal.invariant-loop-i
invariant-loop-i g l = record {
  within : l.from ≤ length l.self.engine.places;
  none : abandoned l.self.engine.log ≡ false → NoneMovesBelow l.from l.self.engine;
}

abbrev pub decreases-loop-i : goal.decreases-loop-i
decreases-loop-i g l = length l.self.engine.places - l.from
