-- Which fault is tried first: the order has no rounds.
use Rattle.std.proofs.Common.{◌≡◌, ◌<◌, ℕ, ◌==◌, ◌+◌, Bool, true, false, ◌&&◌, ◌||◌, nat_lt, List, length, refl, sym, ◌∙◌, subst, arith, get_or, ◌⊎◌, inl, inr}
use Rattle.std.proofs.lemmas.Bool.Decides.{nat_tests}
use Rattle.std.proofs.lemmas.List.{get_or_default}
use Rattle.vx_value.specs.Texts.{ByteString, same_text, text_lt}
use Rattle.vx_value.proofs.Order.{text_lt-trans, same_text-true, same_text-refl, less_not_same}
use Rattle.vx_reading.specs.declared.diagnostic.Diagnostic.{Diagnostic}
use Rattle.vx_reading.specs.Diagnostics.{rank, precedes}

-- one level of the order, on numbers
number-step : (a b c : ℕ) (p q r : Bool) → (p ≡ true → q ≡ true → r ≡ true) → (nat_lt a b || ((a == b) && p)) ≡ true
    → (nat_lt b c || ((b == c) && q)) ≡ true → (nat_lt a c || ((a == c) && r)) ≡ true
number-step a b c p q r rest h k = grind (arith, nat_tests)

-- one level of the order, on texts
text-step : (s t u : ByteString) (p q r : Bool) → (p ≡ true → q ≡ true → r ≡ true) → (text_lt s t || (same_text s t && p)) ≡ true
    → (text_lt t u || (same_text t u && q)) ≡ true → (text_lt s u || (same_text s u && r)) ≡ true
text-step s t u p q r rest h k =
    grind (arith, text_lt-trans s t u, same_text-true s t, same_text-true t u, same_text-refl s)

-- what is tried before a fault that is tried before another is tried before that one
precedes-trans : (f g h : Diagnostic) → precedes f g ≡ true → precedes g h ≡ true → precedes f h ≡ true
precedes-trans f g h =
    number-step (rank f.trouble) (rank g.trouble) (rank h.trouble) _ _ _
    (number-step f.section g.section h.section _ _ _
    (text-step f.name g.name h.name _ _ _ (text_lt-trans f.path g.path h.path)))

never-less : (s : ByteString) → text_lt s s ≡ false
never-less s = grind (arith, less_not_same s s, same_text-refl s)

-- no fault is tried before itself
precedes-itself : (f : Diagnostic) → precedes f f ≡ false
precedes-itself f = grind (arith, nat_tests, never-less f.name, never-less f.path)

-- none of the first so many faults is tried before that at a place
abbrev pub NoneBefore : List Diagnostic → ℕ → ℕ → Type 0
NoneBefore all n best = (k : ℕ) (d e : Diagnostic) → k < n → precedes (get_or all k d) (get_or all best e) ≡ false

not-both : (b : Bool) → (b ≡ true → true ≡ false) → b ≡ false
not-both true h = h refl
not-both false h = refl

-- below a number are those below the one before it, and that one
below-next : (k i : ℕ) → k < i + 1 → (k < i) ⊎ (k ≡ i)
below-next k i h = grind arith

-- x, at a place, is tried before y, at the best place so far: then none so far is tried before x
pub none_before_new : (all : List Diagnostic) (i best : ℕ) (x y : Diagnostic) → i < length all → best < length all → x ≡ get_or all i x
    → y ≡ get_or all best y → precedes x y ≡ true → NoneBefore all i best → NoneBefore all (i + 1) i
none_before_new all i best x y within room isx isy new old k d e h = elim (below-next k i h) [
  | inl lt ↦ not-both _ (λ t. sym (precedes-trans (get_or all k d) (get_or all i e) (get_or all best y) t (at-places e y)) ∙ old k d y lt)
  | inr is ↦ subst (λ (n : ℕ). precedes (get_or all n d) (get_or all i e) ≡ false) (sym is)
      (subst (λ (z : Diagnostic). precedes z (get_or all i e) ≡ false) (get_or_default all i e d within) (precedes-itself (get_or all i e)))
]
  where
    at-places : (d' e' : Diagnostic) → precedes (get_or all i d') (get_or all best e') ≡ true
    at-places d' e' =
        subst (λ (z : Diagnostic). precedes z (get_or all best e') ≡ true) (isx ∙ get_or_default all i x d' within)
        (subst (λ (z : Diagnostic). precedes x z ≡ true) (isy ∙ get_or_default all best y e' room) new)

-- x isn't tried before y: then none so far is tried before the best so far
pub none_before_old : (all : List Diagnostic) (i best : ℕ) (x y : Diagnostic) → i < length all → best < length all → x ≡ get_or all i x
    → y ≡ get_or all best y → precedes x y ≡ false → NoneBefore all i best → NoneBefore all (i + 1) best
none_before_old all i best x y within room isx isy new old k d e h = elim (below-next k i h) [
  | inl lt ↦ old k d e lt
  | inr is ↦ subst (λ (n : ℕ). precedes (get_or all n d) (get_or all best e) ≡ false) (sym is) (at-places d e)
]
  where
    at-places : (d' e' : Diagnostic) → precedes (get_or all i d') (get_or all best e') ≡ false
    at-places d' e' =
        subst (λ (z : Diagnostic). precedes z (get_or all best e') ≡ false) (isx ∙ get_or_default all i x d' within)
        (subst (λ (z : Diagnostic). precedes x z ≡ false) (isy ∙ get_or_default all best y e' room) new)
