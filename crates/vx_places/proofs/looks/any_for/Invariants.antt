use Rattle.std.proofs.Common.{ℕ, ◌<◌}
use Rattle.vx_places.proofs.Looking.{IsFor}
use Rattle.vx_places.proofs.looks.any_for.Given as goal

-- none of the children so far is for the target
abbrev pub invariant-loop-k : goal.invariant-loop-k
invariant-loop-k l = (j : ℕ) → j < l.k → IsFor l.target l.waiting.items j → ⊥
