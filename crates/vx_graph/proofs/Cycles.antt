-- What rounds of rows are for components.
use Rattle.std.proofs.Common.{◌≡◌, ℕ, ◌<◌, ◌≤◌, Bool, true, false, List, [], ◌∷◌, ◌++◌, length, get_or, sym, ap, ◌∙◌, subst, inl, inr, arith, All}
use Rattle.std.proofs.lemmas.Bool.{cases_lt, false≢true}
use Rattle.std.proofs.lemmas.List.{length-map, get_or_past}
use Rattle.std.proofs.lemmas.List.Elements.{All-map, All-nil, All-cons}
use Rattle.vx_value.specs.Texts.{ByteString}
use Rattle.vx_graph.specs.declared.node.Node.{Node}
use Rattle.vx_graph.specs.Outputs.{row_of, rows_of}
use Rattle.vx_graph.specs.Rounds.{edge, marked, Linked, IsRound, Settled, AllSettled, IsSquare}
use Rattle.vx_graph.specs.Cycles.{IsCycle}
use Rattle.vx_graph.proofs.Rounds.{no_round_from}

-- each row has a place for each component
pub square_rows : (nodes : List Node) → IsSquare (rows_of nodes)
square_rows nodes =
    All-map (λ row. length row ≤ length (rows_of nodes)) (row_of nodes) nodes
    (λ k d lt. omega (arith, length-map nodes (row_of nodes), row_length nodes (get_or nodes k d)))
  where
    row_length : (nodes : List Node) (node : Node) → length (row_of nodes node) ≡ length nodes
    row_length nodes node = length-map nodes _

pub rows_length : (nodes : List Node) → length (rows_of nodes) ≡ length nodes
rows_length nodes = length-map nodes (row_of nodes)

-- what is read has a place
edge_within : (rows : List (List Bool)) (i j : ℕ) → edge rows i j ≡ true → i < length rows
edge_within rows i j h =
    elim (cases_lt i (length rows)) [
      | inl lt ↦ lt
      | inr past ↦ absurd (false≢true (sym (ap (λ r. get_or r j false) (get_or_past rows i [] past)) ∙ h))
    ]

linked_within : (rows : List (List Bool)) (a : List ℕ) (x : ℕ) → Linked rows (a ++ x ∷ []) → All (λ i. i < length rows) a
linked_within rows [] x h = All-nil (λ i. i < length rows)
linked_within rows (i ∷ []) x h = All-cons (λ i. i < length rows) i [] (edge_within rows i x h.0) (All-nil (λ i. i < length rows))
linked_within rows (i ∷ j ∷ a) x h =
    All-cons (λ i. i < length rows) i (j ∷ a) (edge_within rows i j h.0) (linked_within rows (j ∷ a) x h.1)

pub round_within : (rows : List (List Bool)) (places : List ℕ) → IsRound rows places → All (λ i. i < length rows) places
unfolding IsRound
round_within rows [] h = absurd h
round_within rows (i ∷ rest) h = linked_within rows (i ∷ rest) i h

pub round_nonempty : (rows : List (List Bool)) (places : List ℕ) → IsRound rows places → 0 < length places
unfolding IsRound
round_nonempty rows [] h = absurd h
round_nonempty rows (i ∷ rest) h = omega arith

-- where each place is settled there is no cycle
no_round : (rows : List (List Bool)) (places : List ℕ) → ((i : ℕ) → i < length rows → Settled rows i) → IsRound rows places → ⊥
unfolding IsRound
no_round rows [] all h = h
no_round rows (i ∷ rest) all h =
    no_round_from rows i (all i (linked_within rows (i ∷ rest) i h 0 0 (omega arith))) rest h

pub no_cycle : (nodes : List Node) (rows : List (List Bool)) (marks : List Bool) → rows ≡ rows_of nodes → length marks ≡ length rows
    → AllSettled rows marks → ((i : ℕ) → i < length marks → marked marks i ≡ true) → (texts : List ByteString) → IsCycle nodes texts → ⊥
no_cycle nodes rows marks is same settled all texts cycle =
    no_round rows cycle.places (λ i lt. settled i (all i (omega arith))) (subst (λ r. IsRound r cycle.places) (sym is) cycle.round)
