use Rattle.std.proofs.Common.{◌≡◌, ◌<◌, ℕ, true}
use Rattle.vx_graph.specs.Rounds.{marked}
use Rattle.vx_graph.proofs.round.open_reader.Given as goal

abbrev pub invariant-loop-j : goal.invariant-loop-j
invariant-loop-j l = (k : ℕ) → k < l.j → marked l.row k ≡ true → marked l.marks k ≡ true
