-- What the comparison of two texts tells.
use Rattle.std.proofs.Common.{◌≡◌, ◌≢◌, ◌⊎◌, ℕ, true, false, ◌==◌, ◌&&◌, List, [], ◌∷◌, refl, ap, sym, ◌∙◌, inl, inr, nat_eq, ◌+◌, ◌<◌, length, drop, get_or, Some, if◌then◌else◌}
use lib.Pointwise.{pointwise}
use Rattle.std.proofs.lemmas.List.{at_drop_more}
use Rattle.vx_value.specs.declared.variable.Variable.{Variable}
use Rattle.vx_subst.specs.Environment.{value_of}
use Rattle.std.proofs.lemmas.Bool.Decides.{eqb_tells}
use Rattle.vx_value.specs.Texts.{ByteString, same_text}

-- it says whether they are equal
pub same_text_reports : (s t : ByteString) → ((same_text s t ≡ true) × (s ≡ t)) ⊎ ((same_text s t ≡ false) × (s ≢ t))
same_text_reports [] [] = inl (refl, refl)
same_text_reports [] (b ∷ t) = inr (refl, λ e. cc)
same_text_reports (a ∷ s) [] = inr (refl, λ e. cc)
same_text_reports (a ∷ s) (b ∷ t) =
    elim (eqb_tells a b) [
      | inl x ↦ elim (same_text_reports s t) [
        | inl y ↦ inl (ap (λ z. z && same_text s t) x.0 ∙ y.0, cc (x.1, y.1))
        | inr y ↦ inr (ap (λ z. z && same_text s t) x.0 ∙ y.0, λ e. y.1 (cc))
      ]
      | inr x ↦ inr (ap (λ z. z && same_text s t) x.0, λ e. x.1 (cc))
    ]

pub same_text-refl : (s : ByteString) → same_text s s ≡ true
same_text-refl s = elim (same_text_reports s s) [ inl y ↦ y.0 | inr y ↦ absurd (y.1 refl) ]

-- std compares in the same way
pub same_text_is : (s t : ByteString) → same_text s t ≡ pointwise nat_eq s t
same_text_is [] [] = refl
same_text_is [] (b ∷ t) = refl
same_text_is (a ∷ s) [] = refl
same_text_is (a ∷ s) (b ∷ t) = ap (λ z. (a == b) && z) (same_text_is s t)

-- one variable on: it has the name, or it has another
pub value_of_here : (environment : List Variable) (name : ByteString) (i : ℕ) (item : Variable) → i < length environment
    → item ≡ get_or environment i item → pointwise nat_eq item.name name ≡ true
    → value_of (drop i environment) name ≡ Some item.value
value_of_here environment name i item lt is eq =
    at_drop_more (λ vs. value_of vs name) environment i item lt
    ∙ ap (λ (v : Variable). if same_text v.name name then Some v.value else value_of (drop (i + 1) environment) name) (sym is)
    ∙ ap (λ z. if z then Some item.value else value_of (drop (i + 1) environment) name) (same_text_is item.name name ∙ eq)

pub value_of_later : (environment : List Variable) (name : ByteString) (i : ℕ) (item : Variable) → i < length environment
    → item ≡ get_or environment i item → pointwise nat_eq item.name name ≡ false
    → value_of (drop i environment) name ≡ value_of (drop (i + 1) environment) name
value_of_later environment name i item lt is eq =
    at_drop_more (λ vs. value_of vs name) environment i item lt
    ∙ ap (λ (v : Variable). if same_text v.name name then Some v.value else value_of (drop (i + 1) environment) name) (sym is)
    ∙ ap (λ z. if z then Some item.value else value_of (drop (i + 1) environment) name) (same_text_is item.name name ∙ eq)
