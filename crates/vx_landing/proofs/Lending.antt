-- What is lent has its room lent, and the other way round; and what is here stays so with its room.
use Rattle.std.proofs.Common.{zero, suc, ◌≡◌, ◌∙◌, ℕ, ◌<◌, List, [], ◌∷◌, length, Option, Some, None, IsSome, refl, sym, arith}
use Rattle.std.specs.Prelude.{◌↔◌}
use Rattle.vx_value.specs.Filled.{Filled}
use Rattle.vx_ledger.specs.declared.parcel.Parcel.{Parcel}
use Rattle.vx_record.specs.Places.Place.{Held}
use Rattle.vx_places.specs.declared.row.Row.{Row}
use Rattle.vx_places.specs.Capacities.{SameCapacities, held_capacity, line_capacity}
use Rattle.vx_places.specs.Views.{held_items, parcels_here}

line_lent : (o : Option (Filled Parcel)) → (held_items o ≡ None) ↔ (line_capacity o ≡ None)
line_lent None = (λ lent. refl, λ none. refl)
line_lent (Some line) = (λ lent. cc, λ none. cc)

-- what is lent has its room lent
pub lent_capacity : (rows : List Row) (j : ℕ) → parcels_here rows (Held j) ≡ None → held_capacity rows j ≡ None
lent_capacity [] j lent = refl
lent_capacity (row ∷ rows) zero lent = (line_lent row.held).0 lent
lent_capacity (row ∷ rows) (suc j) lent = lent_capacity rows j lent

-- and where there is such an instance, the other way round
pub capacity_lent : (rows : List Row) (j : ℕ) → j < length rows → held_capacity rows j ≡ None → parcels_here rows (Held j) ≡ None
capacity_lent [] j within none = absurd (omega (arith, within))
capacity_lent (row ∷ rows) zero within none = (line_lent row.held).1 none
capacity_lent (row ∷ rows) (suc j) within none = capacity_lent rows j (omega (arith, within)) none

-- so what is here stays so where the capacities are the same
pub kept_on : (old new : List Row) (i : ℕ) → i < length old → SameCapacities old new → IsSome (parcels_here old (Held i)) → IsSome (parcels_here new (Held i))
kept_on old new i below same kept = go (parcels_here new (Held i)) refl
  where
    go : (o : Option (List Parcel)) → parcels_here new (Held i) ≡ o → IsSome o
    go None lent = rw (capacity_lent old i below (sym (same i).1 ∙ lent_capacity new i lent)) at kept
    go (Some parcels) lent = refl
