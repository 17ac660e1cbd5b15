-- Components put in order are the same ones, and each name comes no later than the next by its bytes.
use Rattle.std.proofs.Common.{◌≡◌, ◌≢◌, ◌<◌, ℕ, true, false, nat_lt, List, [], ◌∷◌, refl, sym, ap, ◌∙◌, subst, inl, inr, arith, if◌then◌else◌, All}
use Rattle.std.proofs.lemmas.Bool.{false≢true}
use Rattle.std.proofs.lemmas.Bool.Decides.{eqb_tells, nat_tests}
use Rattle.std.proofs.lemmas.List.Elements.{All-cons, All-nil, All-weaker}
use Rattle.std.proofs.lemmas.List.Kept.{AllPairs-cons}
use Rattle.std.proofs.lemmas.List.Sorted.{IsPermutation-refl, IsPermutation-cons, IsPermutation-insert, IsPermutation-trans, All-permutation}
use Rattle.std.specs.List.{position_or_len}
use Rattle.std.specs.List.Sorted.{IsPermutation}
use Rattle.vx_value.specs.Texts.{ByteString, text_le}
use Rattle.vx_graph.specs.Order.{node_le, enter, in_order, IsInOrder}
use Rattle.vx_graph.specs.declared.node.Node.{Node}
use Rattle.vx_graph.proofs.Likeness.{which}
use Rattle.vx_graph.proofs.Names.{enter_is, le_alike, le_apart}

-- of two texts one comes no later than the other
pub le_total : (s t : ByteString) → text_le s t ≡ false → text_le t s ≡ true
le_total [] t h = absurd (false≢true (sym h))
le_total (a ∷ s) [] h = refl
le_total (a ∷ s) (b ∷ t) h = elim (eqb_tells a b) [
  | inl e ↦ le_alike b a t s (sym e.1) ∙ le_total s t (sym (le_alike a b s t e.1) ∙ h)
  | inr n ↦ le_apart b a t s (λ q. n.1 (sym q)) ∙ above a b n.1 (sym (le_apart a b s t n.1) ∙ h)
]
  where
    above : (a b : ℕ) → a ≢ b → nat_lt a b ≡ false → nat_lt b a ≡ true
    above a b n h = grind (arith, nat_tests)

-- a text that comes no later than one, which comes no later than a third, comes no later than the third
pub le_trans : (s t u : ByteString) → text_le s t ≡ true → text_le t u ≡ true → text_le s u ≡ true
le_trans [] t u h g = refl
le_trans (a ∷ s) [] u h g = absurd (false≢true h)
le_trans (a ∷ s) (b ∷ t) [] h g = absurd (false≢true g)
le_trans (a ∷ s) (b ∷ t) (c ∷ u) h g = elim (eqb_tells a b) [
  | inl e ↦ elim (eqb_tells b c) [
    | inl f ↦ le_alike a c s u (e.1 ∙ f.1) ∙ le_trans s t u (sym (le_alike a b s t e.1) ∙ h) (sym (le_alike b c t u f.1) ∙ g)
    | inr m ↦ le_apart a c s u (λ q. m.1 (sym e.1 ∙ q)) ∙ ap (λ x. nat_lt x c) e.1 ∙ sym (le_apart b c t u m.1) ∙ g
  ]
  | inr n ↦ elim (eqb_tells b c) [
    | inl f ↦ le_apart a c s u (λ q. n.1 (q ∙ sym f.1)) ∙ ap (nat_lt a) (sym f.1) ∙ sym (le_apart a b s t n.1) ∙ h
    | inr m ↦ le_apart a c s u (apart a b c (sym (le_apart a b s t n.1) ∙ h) (sym (le_apart b c t u m.1) ∙ g))
        ∙ below a b c (sym (le_apart a b s t n.1) ∙ h) (sym (le_apart b c t u m.1) ∙ g)
  ]
]
  where
    apart : (a b c : ℕ) → nat_lt a b ≡ true → nat_lt b c ≡ true → a ≢ c
    apart a b c h g = λ e. grind (arith, nat_tests)

    below : (a b c : ℕ) → nat_lt a b ≡ true → nat_lt b c ≡ true → nat_lt a c ≡ true
    below a b c h g = grind (arith, nat_tests)

-- each component comes no later than those behind it
abbrev pub Ascending : List Node → Type 0
Ascending [] = Unit {0}
Ascending (node ∷ rest) = All (λ later. node_le node later ≡ true) rest × Ascending rest

-- the component that is put in is there, and the others are
enter_same : (node : Node) (xs : List Node) → IsPermutation (node ∷ xs) (enter node xs)
enter_same node xs =
    subst (IsPermutation (node ∷ xs)) (sym (enter_is node xs)) (IsPermutation-insert xs (position_or_len (node_le node) xs) node)

enter_ascends : (node : Node) (xs : List Node) → Ascending xs → Ascending (enter node xs)
unfolding enter
enter_ascends node [] h = (All-nil (λ later. node_le node later ≡ true), tt)
enter_ascends node (first ∷ rest) h = elim (which (node_le node first)) [
  | inl e ↦ subst Ascending (sym (ap (λ b. if b then node ∷ first ∷ rest else first ∷ enter node rest) e)) (
    All-cons (λ later. node_le node later ≡ true) first rest e
        (All-weaker (λ later. node_le first later ≡ true) (λ later. node_le node later ≡ true)
        (λ later g. le_trans node.name first.name later.name e g) rest h.0),
    h,
  )
  | inr e ↦ subst Ascending (sym (ap (λ b. if b then node ∷ first ∷ rest else first ∷ enter node rest) e)) (
    All-permutation (λ later. node_le first later ≡ true) (node ∷ rest) (enter node rest) (enter_same node rest)
        (All-cons (λ later. node_le first later ≡ true) node rest (le_total node.name first.name e) h.0),
    enter_ascends node rest h.1,
  )
]

pub order_ascends : (xs : List Node) → Ascending (in_order xs)
unfolding in_order
order_ascends [] = tt
order_ascends (x ∷ xs) = enter_ascends x (in_order xs) (order_ascends xs)

ascending_pairs : (xs : List Node) → Ascending xs → IsInOrder xs
ascending_pairs [] h = λ i j d lt within. absurd (none j within)
  where
    none : (j : ℕ) → j < 0 → ⊥
    none j h = omega arith
ascending_pairs (x ∷ xs) h = AllPairs-cons (λ a b. node_le a b ≡ true) x xs h.0 (ascending_pairs xs h.1)

-- components put in order are in order
pub order_is_order : (xs : List Node) → IsInOrder (in_order xs)
order_is_order xs = ascending_pairs (in_order xs) (order_ascends xs)

-- and they are the same components
pub order_is_same : (xs : List Node) → IsPermutation xs (in_order xs)
unfolding in_order
order_is_same [] = IsPermutation-refl []
order_is_same (x ∷ xs) =
    IsPermutation-trans (x ∷ xs) (x ∷ in_order xs) (enter x (in_order xs)) (IsPermutation-cons x xs (in_order xs) (order_is_same xs))
    (enter_same x (in_order xs))
