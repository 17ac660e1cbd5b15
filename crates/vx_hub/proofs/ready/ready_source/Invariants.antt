use Rattle.std.proofs.Common.{◌<◌, ℕ}
use Rattle.std.specs.Prelude.{IfSome, slice_get}
use Rattle.vx_hub.specs.Leases.{NoneFoundAt}
use Rattle.vx_hub.proofs.ready.ready_source.Given as goal

abbrev pub invariant-loop-k : goal.invariant-loop-k
invariant-loop-k g l = (j : ℕ) → j < l.k → IfSome (slice_get l.sources j) (NoneFoundAt l.engine l.now)
