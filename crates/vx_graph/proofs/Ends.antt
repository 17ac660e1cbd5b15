-- A pattern and a text that end apart.
use Rattle.std.proofs.Common.{◌≡◌, ◌≢◌, ℕ, Bool, true, false, not, ◌==◌, ◌||◌, [], ◌∷◌, ◌++◌, refl, sym, ap, ap₂, ◌∙◌, inl, inr, if◌then◌else◌}
use Rattle.std.proofs.lemmas.Bool.{false≢true}
use Rattle.std.proofs.lemmas.Bool.Decides.{eqb_tells}
use Rattle.std.specs.List.{list_any}
use Rattle.vx_value.specs.Texts.{ByteString, is_empty}
use Rattle.vx_graph.specs.Patterns.{star, ends, behind, is_like}
use Rattle.vx_graph.proofs.Likeness.{which}

-- what a first byte of a pattern leaves to compare
abbrev leaves : ℕ → ByteString → ByteString → Bool → Bool
leaves c p t starred = list_any (is_like p) (if starred then ends t else behind c t)

-- where a first byte of a text is that of the pattern
abbrev goes_on : ByteString → ByteString → Bool → Bool
goes_on p t same = list_any (is_like p) (if same then t ∷ [] else [])

or_none : (b : Bool) → b ≡ false → (b || false) ≡ false
or_none b h = ap (λ z. z || false) h

not_star : (a : ℕ) → a ≢ star → (a == star) ≡ false
not_star a n = elim (eqb_tells a star) [
  | inl e ↦ absurd (n e.1)
  | inr e ↦ e.0
]

not_same : (a b : ℕ) → a ≢ b → (a == b) ≡ false
not_same a b n = elim (eqb_tells a b) [
  | inl e ↦ absurd (n e.1)
  | inr e ↦ e.0
]

-- a form that ends in a byte is unlike nothing at all
unlike_none : (q : ByteString) (a : ℕ) → a ≢ star → is_like (q ++ a ∷ []) [] ≡ false
unlike_none [] a n = ap (leaves a [] []) (not_star a n)
unlike_none (c ∷ q) a n = elim (which (c == star)) [
  | inl e ↦ ap (leaves c (q ++ a ∷ []) []) e ∙ or_none (is_like (q ++ a ∷ []) []) (unlike_none q a n)
  | inr e ↦ ap (leaves c (q ++ a ∷ []) []) e
]

-- what holds of no end that has the last byte, and not of nothing, holds of no end
no_end : (f : ByteString → Bool) (b : ℕ) → ((v : ByteString) → f (v ++ b ∷ []) ≡ false) → f [] ≡ false → (u : ByteString)
    → list_any f (ends (u ++ b ∷ [])) ≡ false
no_end f b each none [] = ap₂ (λ x y. x || y) (each []) (or_none (f []) none)
no_end f b each none (x ∷ u) = ap₂ (λ x y. x || y) (each (x ∷ u)) (no_end f b each none u)

-- a pattern and a text that end in two bytes, of which the first is no `*`
pub unlike_ends : (q : ByteString) (a b : ℕ) → a ≢ star → a ≢ b → (u : ByteString) → is_like (q ++ a ∷ []) (u ++ b ∷ []) ≡ false
unlike_ends [] a b n m [] =
    ap (leaves a [] (b ∷ [])) (not_star a n) ∙ ap (goes_on [] []) (not_same a b m)
unlike_ends [] a b n m (x ∷ u) =
    ap (leaves a [] (x ∷ (u ++ b ∷ []))) (not_star a n)
    ∙ elim (which (a == x)) [
      | inl e ↦ ap (goes_on [] (u ++ b ∷ [])) e ∙ or_none (is_empty (u ++ b ∷ [])) (more u b)
      | inr e ↦ ap (goes_on [] (u ++ b ∷ [])) e
    ]
  where
    more : (u : ByteString) (b : ℕ) → is_empty (u ++ b ∷ []) ≡ false
    more [] b = refl
    more (x ∷ u) b = refl
unlike_ends (c ∷ q) a b n m [] = elim (which (c == star)) [
  | inl e ↦ ap (leaves c (q ++ a ∷ []) (b ∷ [])) e
      ∙ no_end (is_like (q ++ a ∷ [])) b (unlike_ends q a b n m) (unlike_none q a n) []
  | inr e ↦ ap (leaves c (q ++ a ∷ []) (b ∷ [])) e ∙ elim (which (c == b)) [
    | inl s ↦ ap (goes_on (q ++ a ∷ []) []) s ∙ or_none (is_like (q ++ a ∷ []) []) (unlike_none q a n)
    | inr s ↦ ap (goes_on (q ++ a ∷ []) []) s
  ]
]
unlike_ends (c ∷ q) a b n m (x ∷ u) = elim (which (c == star)) [
  | inl e ↦ ap (leaves c (q ++ a ∷ []) (x ∷ (u ++ b ∷ []))) e
      ∙ no_end (is_like (q ++ a ∷ [])) b (unlike_ends q a b n m) (unlike_none q a n) (x ∷ u)
  | inr e ↦ ap (leaves c (q ++ a ∷ []) (x ∷ (u ++ b ∷ []))) e ∙ elim (which (c == x)) [
    | inl s ↦ ap (goes_on (q ++ a ∷ []) (u ++ b ∷ [])) s ∙ or_none (is_like (q ++ a ∷ []) (u ++ b ∷ [])) (unlike_ends q a b n m u)
    | inr s ↦ ap (goes_on (q ++ a ∷ []) (u ++ b ∷ [])) s
  ]
]

differ : (a b : ℕ) → not (a == b) ≡ true → a ≢ b
differ a b h = elim (eqb_tells a b) [
  | inl e ↦ absurd (false≢true (sym (ap not e.0) ∙ h))
  | inr e ↦ e.1
]

pub apart : (p t : ByteString) (a b : ℕ) → (q : ByteString) × (p ≡ q ++ a ∷ []) → (u : ByteString) × (t ≡ u ++ b ∷ []) → a ≢ star → not (a == b) ≡ true
    → is_like p t ≡ false
apart p t a b (q, e) (u, f) n h = ap₂ is_like e f ∙ unlike_ends q a b n (differ a b h) u
