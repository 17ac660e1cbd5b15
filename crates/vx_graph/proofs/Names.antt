-- How names are compared, and how a component is put among sorted ones.
use Rattle.std.proofs.Common.{◌≡◌, ◌≢◌, ℕ, ◌+◌, ◌<◌, ◌≤◌, suc, Bool, true, false, not, nat_eq, nat_lt, ◌==◌, ◌&&◌, ◌||◌, List, [], ◌∷◌, ◌++◌, length, drop, get_or, refl, sym, ap, ◌∙◌, inl, inr, arith, if◌then◌else◌, cond, insert}
use lib.Pointwise.{pointwise}
use Rattle.std.proofs.lemmas.Bool.Decides.{eqb_tells, nat_tests}
use Rattle.std.proofs.lemmas.List.{drop_more, drop_all}
use Rattle.std.specs.List.{position_or_len}
use Rattle.vx_value.specs.Texts.{ByteString, same_text, text_le}
use Rattle.vx_graph.specs.Order.{node_le, enter, in_order, enter_all}
use Rattle.vx_graph.specs.declared.node.Node.{Node}
use Rattle.vx_graph.proofs.Likeness.{which}

-- std compares texts in the same way
pub same_text_is : (s t : ByteString) → pointwise nat_eq s t ≡ same_text s t
same_text_is [] [] = refl
same_text_is [] (b ∷ t) = refl
same_text_is (a ∷ s) [] = refl
same_text_is (a ∷ s) (b ∷ t) = ap (λ z. (a == b) && z) (same_text_is s t)

-- texts that begin alike are compared by their rests, others by their first bytes
pub le_alike : (x y : ℕ) (s t : ByteString) → x ≡ y → text_le (x ∷ s) (y ∷ t) ≡ text_le s t
le_alike x y s t e = elim (eqb_tells x y) [
  | inl h ↦ ap (λ z. z || ((x == y) && text_le s t)) (not_below x y e) ∙ ap (λ z. z && text_le s t) h.0
  | inr h ↦ absurd (h.1 e)
]
  where
    not_below : (x y : ℕ) → x ≡ y → nat_lt x y ≡ false
    not_below x y e = grind (arith, nat_tests)

pub le_apart : (x y : ℕ) (s t : ByteString) → x ≢ y → text_le (x ∷ s) (y ∷ t) ≡ nat_lt x y
le_apart x y s t n = elim (eqb_tells x y) [
  | inl h ↦ absurd (n h.1)
  | inr h ↦ ap (λ z. nat_lt x y || (z && text_le s t)) h.0 ∙ or_false (nat_lt x y)
]
  where
    or_false : (b : Bool) → (b || false) ≡ b
    or_false true = refl
    or_false false = refl

pub le_more : (s t : ByteString) (i : ℕ) → i < length s → i < length t → get_or s i 0 ≡ get_or t i 0
    → text_le (drop i s) (drop i t) ≡ text_le (drop (i + 1) s) (drop (i + 1) t)
le_more s t i hs ht e =
    ap (λ z. text_le z (drop i t)) (drop_more s i 0 hs)
    ∙ ap (text_le (get_or s i 0 ∷ drop (i + 1) s)) (drop_more t i 0 ht)
    ∙ le_alike (get_or s i 0) (get_or t i 0) (drop (i + 1) s) (drop (i + 1) t) e

pub le_stops : (s t : ByteString) (i : ℕ) → i < length s → i < length t → get_or s i 0 ≢ get_or t i 0
    → text_le (drop i s) (drop i t) ≡ nat_lt (get_or s i 0) (get_or t i 0)
le_stops s t i hs ht n =
    ap (λ z. text_le z (drop i t)) (drop_more s i 0 hs)
    ∙ ap (text_le (get_or s i 0 ∷ drop (i + 1) s)) (drop_more t i 0 ht)
    ∙ le_apart (get_or s i 0) (get_or t i 0) (drop (i + 1) s) (drop (i + 1) t) n

pub le_end : (s t : ByteString) (i : ℕ) → length s ≤ i → text_le (drop i s) (drop i t) ≡ true
le_end s t i h = ap (λ z. text_le z (drop i t)) (drop_all i s h)

pub le_past : (s t : ByteString) (i : ℕ) → i < length s → length t ≤ i → text_le (drop i s) (drop i t) ≡ false
le_past s t i hs ht =
    ap (λ z. text_le z (drop i t)) (drop_more s i 0 hs) ∙ ap (text_le (get_or s i 0 ∷ drop (i + 1) s)) (drop_all i t ht)

-- a component goes before the first that is no less
pub enter_is : (node : Node) (xs : List Node) → enter node xs ≡ insert xs (position_or_len (node_le node) xs) node
unfolding enter
enter_is node [] = refl
enter_is node (first ∷ rest) = elim (which (node_le node first)) [
  | inl h ↦ ap (λ b. if b then node ∷ first ∷ rest else first ∷ enter node rest) h
      ∙ sym (ap (λ b. insert (first ∷ rest) (cond (not b) (1 + position_or_len (node_le node) rest) 0) node) h)
  | inr h ↦ ap (λ b. if b then node ∷ first ∷ rest else first ∷ enter node rest) h
      ∙ ap (λ xs. first ∷ xs) (enter_is node rest)
      ∙ ap (λ k. insert (first ∷ rest) k node) (one_more (position_or_len (node_le node) rest))
      ∙ sym (ap (λ b. insert (first ∷ rest) (cond (not b) (1 + position_or_len (node_le node) rest) 0) node) h)
]
  where
    one_more : (k : ℕ) → suc k ≡ 1 + k
    one_more k = omega arith

-- the last component goes in first
pub enter_all_last : (xs : List Node) (x : Node) (sorted : List Node) → enter_all (xs ++ x ∷ []) sorted ≡ enter_all xs (enter x sorted)
unfolding enter_all
enter_all_last [] x sorted = refl
enter_all_last (y ∷ xs) x sorted = ap (enter y) (enter_all_last xs x sorted)

pub enter_all_none : (sorted : List Node) → enter_all [] sorted ≡ sorted
unfolding enter_all
enter_all_none sorted = refl

pub enter_all_is : (xs : List Node) → in_order xs ≡ enter_all xs []
unfolding in_order enter_all
enter_all_is [] = refl
enter_all_is (x ∷ xs) = ap (enter x) (enter_all_is xs)

pub ruleset byte_order = (le_more, le_stops, le_end, le_past)

pub ruleset entering = (enter_all_last, enter_all_none, enter_all_is, enter_is)
