use Rattle.std.proofs.Common.{◌≡◌, ◌<◌, ◌∷◌, ◌++◌, [], ℕ, true, false, not, length, count_by, All, Contains}
use Rattle.vx_graph.specs.Rounds.{marked, Linked, AreApart}
use Rattle.vx_graph.proofs.round.find_round.Given as goal

abbrev pub invariant-walk : goal.invariant-walk
invariant-walk l = record {
  in_rows : l.at < length l.rows;
  unmarked : marked l.marks l.at ≡ false;
  same_len : length l.seen.items ≡ length l.rows;
  linked : Linked l.rows (l.path.items ++ l.at ∷ []);
  apart : AreApart l.path.items;
  on_path : (k : ℕ) → marked l.seen.items k ≡ true → Contains l.path.items k;
  path_seen : All (λ k. marked l.seen.items k ≡ true) l.path.items;
}

abbrev pub decreases-walk : goal.decreases-walk
decreases-walk l = count_by not l.seen.items
