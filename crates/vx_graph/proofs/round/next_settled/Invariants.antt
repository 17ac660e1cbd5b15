use Rattle.std.proofs.Common.{◌≡◌, ◌<◌, ℕ, false}
use Rattle.vx_graph.specs.Rounds.{marked, HasOpenReader}
use Rattle.vx_graph.proofs.round.next_settled.Given as goal

abbrev pub invariant-loop-i : goal.invariant-loop-i
invariant-loop-i l = (k : ℕ) → k < l.i → marked l.marks k ≡ false → HasOpenReader l.rows l.marks k
