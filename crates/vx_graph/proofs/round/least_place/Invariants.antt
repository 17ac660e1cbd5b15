use Rattle.std.proofs.Common.{◌≤◌, ◌<◌, ℕ, length, get_or}
use Rattle.vx_graph.proofs.round.least_place.Given as goal

abbrev pub invariant-loop-i : goal.invariant-loop-i
invariant-loop-i l = (l.least < length l.places) × ((j : ℕ) → j < l.i → get_or l.places l.least 0 ≤ get_or l.places j 0)
