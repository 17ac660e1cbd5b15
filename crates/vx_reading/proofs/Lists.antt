-- How long lists are.
use Rattle.std.proofs.Common.{◌≡◌, ◌<◌, ◌≤◌, ◌+◌, ◌-◌, ℕ, suc, false, nat_eq, List, [], ◌∷◌, length, drop, refl, ap, ◌∙◌, arith}
use Rattle.std.proofs.lemmas.Bool.Decides.{nat_tests}
use Rattle.std.proofs.lemmas.List.{length-drop}
use Rattle.toml.specs.View.{items_view}
use Rattle.toml.specs.declared.value.Value.{Value}
use Rattle.vx_value.specs.Texts.{is_empty}
use Rattle.vx_reading.specs.Judging.{items_in, is_single}

-- the items of an array number its values
pub items_in_length : (vs : List Value) → length (items_in (items_view vs)) ≡ length vs
items_in_length [] = refl
items_in_length (v ∷ vs) = ap suc (items_in_length vs)

-- two or more are not one
pub not_single : (vs : List Value) → 2 ≤ length vs → is_single (items_in (items_view vs)) ≡ false
not_single [] two = absurd (omega (arith, two))
not_single (v ∷ []) two = absurd (omega (arith, two))
not_single (v ∷ w ∷ vs) two = refl

some_more : (n : ℕ) → false ≡ nat_eq (suc n) 0
some_more n = grind (arith, nat_tests)

-- so there are none exactly where it has none
pub no_items : (vs : List Value) → is_empty (items_in (items_view vs)) ≡ nat_eq (length vs) 0
no_items [] = refl
no_items (v ∷ vs) = some_more (length vs)

-- nothing is behind a place exactly where it is the last
pub is_last : (vs : List Value) (i : ℕ) → i < length vs → is_empty (items_in (items_view (drop (i + 1) vs))) ≡ nat_eq (i + 1) (length vs)
is_last vs i within = no_items (drop (i + 1) vs) ∙ same (length (drop (i + 1) vs)) (length-drop (i + 1) vs)
  where
    same : (n : ℕ) → n ≡ length vs - (i + 1) → nat_eq n 0 ≡ nat_eq (i + 1) (length vs)
    same n left = grind (arith, nat_tests)
