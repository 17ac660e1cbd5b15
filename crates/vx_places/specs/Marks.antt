-- Which instances are marked, as they may have something.
use Rattle.std.specs.Prelude.{◌≡◌, ◌≢◌, ◌<◌, ◌≤◌, ℕ, List, [], Option, Some, None, IfSome, length, slice_get}
use Rattle.vx_record.specs.Places.Place.{Held}
use Rattle.vx_places.specs.declared.row.Row.{Row}
use Rattle.vx_places.specs.declared.marks.Marks.{Marks}
use Rattle.vx_places.specs.Views.{parcels_here}
use Rattle.vx_places.specs.Looks.{HasSent, HasEmptyBuffer}

-- nothing stands in the buffer of an instance, it holds nothing, and nothing that it holds is lent
abbrev pub IsUnfilled : List Row → ℕ → Type 0
IsUnfilled rows i = HasEmptyBuffer rows i × (parcels_here rows (Held i) ≡ Some [])

-- a fact of an instance that isn't marked
abbrev pub UnlessMarked : (ℕ → Type 0) → List ℕ → ℕ → Type 0
UnlessMarked F marks i = IfSome (slice_get marks i) (λ mark. mark ≢ 1 → F i)

-- there is a mark for each instance, and of those that are not marked it is so, as far as these are meant
pub record AreMarkedFor (Meant : ℕ → Type 0) (rows : List Row) (marks : Marks) : Type 0 where
  pub unsent_size : length marks.unsent.items ≡ length rows
  pub filled_size : length marks.filled.items ≡ length rows
  pub sent : (i : ℕ) → Meant i → UnlessMarked (HasSent rows) marks.unsent.items i
  pub unfilled : (i : ℕ) → Meant i → UnlessMarked (IsUnfilled rows) marks.filled.items i

-- so it is of all
abbrev pub AreMarked : List Row → Marks → Type 0
AreMarked = AreMarkedFor (λ i. Unit {0})

-- of all but one
abbrev pub AreMarkedBut : ℕ → List Row → Marks → Type 0
AreMarkedBut k = AreMarkedFor (λ i. i ≢ k)

-- the next place from one on at which a mark stands
abbrev pub IsNextMark : List ℕ → ℕ → Option ℕ → Type 0
IsNextMark marks from None = (i : ℕ) → from ≤ i → IfSome (slice_get marks i) (λ mark. mark ≢ 1)
IsNextMark marks from (Some i) =
    (from ≤ i) × (slice_get marks i ≡ Some 1) × ((j : ℕ) → from ≤ j → j < i → IfSome (slice_get marks j) (λ mark. mark ≢ 1))

-- a number stands before one that may be there
abbrev pub IsBefore : ℕ → Option ℕ → Type 0
IsBefore j None = Unit {0}
IsBefore j (Some i) = j < i
