-- A graph in which each component has a higher rank than those that read it has no cycle.
use Rattle.std.proofs.Common.{◌≡◌, ◌<◌, ◌++◌, ℕ, zero, suc, Bool, true, false, not, ◌&&◌, ◌||◌, List, [], ◌∷◌, nat_lt, arith, refl}
use Rattle.std.specs.Prelude.{slice_index_or}
use Rattle.std.proofs.lemmas.Bool.Decides.{nat_tests}
use Rattle.vx_value.specs.Texts.{ByteString}
use Rattle.vx_graph.specs.declared.node.Node.{Node}
use Rattle.vx_graph.specs.Cycles.{IsCycle}
use Rattle.vx_graph.specs.Outputs.{rows_of}
use Rattle.vx_graph.specs.Rounds.{edge, Linked, IsRound}

-- whether each that reads one of some rank has a lower rank
abbrev pub row_falls : ℕ → List ℕ → List Bool → Bool
row_falls rank others [] = true
row_falls rank [] (read ∷ row) = not read && row_falls rank [] row
row_falls rank (other ∷ others) (read ∷ row) = (not read || nat_lt other rank) && row_falls rank others row

-- the same of each of some
abbrev pub rows_fall : List ℕ → List ℕ → List (List Bool) → Bool
rows_fall all ranks [] = true
rows_fall all [] (row ∷ rows) = row_falls 0 all row && rows_fall all [] rows
rows_fall all (rank ∷ ranks) (row ∷ rows) = row_falls rank all row && rows_fall all ranks rows

-- whether ranks fall from each component to those that read it
abbrev pub ranks_fall : List ℕ → List (List Bool) → Bool
ranks_fall ranks rows = rows_fall ranks ranks rows

both : (a b : Bool) → (a && b) ≡ true → (a ≡ true) × (b ≡ true)
both true b e = (refl, e)
both false b e = cc

-- a reader's rank
row_lower : (rank : ℕ) (others : List ℕ) (row : List Bool) (j : ℕ) → row_falls rank others row ≡ true → slice_index_or row j false ≡ true → slice_index_or others j 0 < rank
row_lower rank others [] j falls read = cc
row_lower rank [] (r ∷ row) zero falls read = let (unread, rest) = both (not r) (row_falls rank [] row) falls in grind arith
row_lower rank [] (r ∷ row) (suc j) falls read = row_lower rank [] row j (both (not r) (row_falls rank [] row) falls).1 read
row_lower rank (other ∷ others) (r ∷ row) zero falls read = let (lower, rest) = both (not r || nat_lt other rank) (row_falls rank others row) falls in grind (arith, nat_tests)
row_lower rank (other ∷ others) (r ∷ row) (suc j) falls read = row_lower rank others row j (both (not r || nat_lt other rank) (row_falls rank others row) falls).1 read

rows_lower : (all ranks : List ℕ) (rows : List (List Bool)) (i j : ℕ) → rows_fall all ranks rows ≡ true → edge rows i j ≡ true → slice_index_or all j 0 < slice_index_or ranks i 0
rows_lower all ranks [] i j falls read = cc
rows_lower all [] (row ∷ rows) zero j falls read = row_lower 0 all row j (both (row_falls 0 all row) (rows_fall all [] rows) falls).0 read
rows_lower all [] (row ∷ rows) (suc i) j falls read = rows_lower all [] rows i j (both (row_falls 0 all row) (rows_fall all [] rows) falls).1 read
rows_lower all (rank ∷ ranks) (row ∷ rows) zero j falls read = row_lower rank all row j (both (row_falls rank all row) (rows_fall all ranks rows) falls).0 read
rows_lower all (rank ∷ ranks) (row ∷ rows) (suc i) j falls read = rows_lower all ranks rows i j (both (row_falls rank all row) (rows_fall all ranks rows) falls).1 read

-- along a list ranks fall
falls_along : (ranks : List ℕ) (rows : List (List Bool)) → ranks_fall ranks rows ≡ true → (i last : ℕ) (rest : List ℕ) → Linked rows ((i ∷ rest) ++ last ∷ []) →
    slice_index_or ranks last 0 < slice_index_or ranks i 0
falls_along ranks rows falls i last [] linked = rows_lower ranks ranks rows i last falls linked.0
falls_along ranks rows falls i last (j ∷ rest) linked =
    let step = rows_lower ranks ranks rows i j falls linked.0 in
    let later = falls_along ranks rows falls j last rest linked.1 in
    omega (arith, step, later)

no_round : (ranks : List ℕ) (rows : List (List Bool)) → ranks_fall ranks rows ≡ true → (places : List ℕ) → IsRound rows places → ⊥
unfolding IsRound
no_round ranks rows falls [] round = round
no_round ranks rows falls (i ∷ rest) round = let less = falls_along ranks rows falls i i rest round in omega (arith, less)

-- so there is no cycle
pub no_cycle : (ranks : List ℕ) (nodes : List Node) → ranks_fall ranks (rows_of nodes) ≡ true → (texts : List ByteString) → IsCycle nodes texts → ⊥
no_cycle ranks nodes falls texts cycle = no_round ranks (rows_of nodes) falls cycle.places cycle.round
