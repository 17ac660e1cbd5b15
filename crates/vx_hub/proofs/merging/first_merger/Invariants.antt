use Rattle.std.proofs.Common.{◌<◌, ℕ}
use Rattle.std.specs.Prelude.{IfSome, slice_get}
use Rattle.vx_hub.specs.Merges.{NoneMergesAt}
use Rattle.vx_hub.proofs.merging.first_merger.Given as goal

abbrev pub invariant-loop-k : goal.invariant-loop-k
invariant-loop-k g l = (j : ℕ) → j < l.k → IfSome (slice_get l.mergers j) (NoneMergesAt l.engine l.now)
