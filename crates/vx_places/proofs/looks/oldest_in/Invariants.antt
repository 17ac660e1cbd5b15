use Rattle.std.proofs.Common.{ℕ, ◌<◌}
use Rattle.vx_places.proofs.Looking.{IsFor}
use Rattle.vx_places.proofs.looks.oldest_in.Given as goal

-- none of the children so far is for the target
abbrev pub invariant-loop-j : goal.invariant-loop-j
invariant-loop-j l = (i : ℕ) → i < l.j → IsFor l.target l.waiting.items i → ⊥
