use Rattle.std.proofs.Common.{◌<◌}
use Rattle.vx_hub.specs.Pushing.{CanPass}
use Rattle.vx_hub.proofs.pushing.find_pushable.Given as goal

abbrev pub invariant-loop-k : goal.invariant-loop-k
invariant-loop-k g l = (pass : CanPass l.engine l.i) → pass.child < l.k → ⊥
