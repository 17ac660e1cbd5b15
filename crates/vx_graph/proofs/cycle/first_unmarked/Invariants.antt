use Rattle.std.proofs.Common.{◌≡◌, ◌<◌, ℕ, true}
use Rattle.vx_graph.specs.Rounds.{marked}
use Rattle.vx_graph.proofs.cycle.first_unmarked.Given as goal

abbrev pub invariant-loop-i : goal.invariant-loop-i
invariant-loop-i l = (k : ℕ) → k < l.i → marked l.marks k ≡ true
