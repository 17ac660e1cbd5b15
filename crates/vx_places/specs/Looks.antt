-- What can be asked of the parcels of an instance.
use Rattle.std.specs.Prelude.{◌≡◌, ◌<◌, ℕ, false, List, [], Option, Some, None, IsSomeAnd, IfSome, length}
use Rattle.vx_record.specs.Places.{Place, owner, same_place}
use Rattle.vx_record.specs.Places.Place.{Outputs, Waiting, Contents, Held}
use Rattle.vx_places.specs.declared.row.Row.{Row}
use Rattle.vx_places.specs.Views.{parcels_here}
use Rattle.vx_places.specs.Capacities.{held_capacity}
use Rattle.vx_places.specs.Calls.{IsThere, IsRow, HasRoom, HasSome}

-- an instance has an output
abbrev pub HasOutput : List Row → ℕ → Type 0
HasOutput rows i = IsSomeAnd (parcels_here rows (Outputs i)) (λ parcels. 0 < length parcels)

-- a child of it waits for a target
abbrev pub HasWaiting : List Row → ℕ → ℕ → Type 0
HasWaiting rows i t = IsSomeAnd (parcels_here rows (Waiting i t)) (λ parcels. 0 < length parcels)

-- it has neither an output nor a child that waits for a target
abbrev pub HasSent : List Row → ℕ → Type 0
HasSent rows i = (parcels_here rows (Outputs i) ≡ Some []) × ((t : ℕ) → parcels_here rows (Waiting i t) ≡ Some [])

-- no stage of its buffer has a parcel
abbrev pub HasEmptyBuffer : List Row → ℕ → Type 0
HasEmptyBuffer rows i = (s : ℕ) → parcels_here rows (Contents i s) ≡ Some []

-- so many of its children wait
abbrev pub ManyWait : List Row → ℕ → ℕ → Type 0
ManyWait rows i n = IsRow (λ row. n ≡ length row.waiting.items) rows i

-- it holds so many parcels, which are not lent
abbrev pub HoldsMany : List Row → ℕ → ℕ → Type 0
HoldsMany rows i n = IsSomeAnd (parcels_here rows (Held i)) (λ parcels. n ≡ length parcels)

-- it holds as many as there is room for
abbrev pub IsHeldFull : List Row → ℕ → Type 0
IsHeldFull rows i = IsSomeAnd (parcels_here rows (Held i)) (λ parcels. held_capacity rows i ≡ Some (length parcels))

-- nothing stands at any of its places, and nothing is lent
abbrev pub IsBare : List Row → ℕ → Type 0
IsBare rows i = (p : Place) → owner p ≡ i → parcels_here rows p ≡ Some []

-- each instance is bare
abbrev pub AreBare : List Row → Type 0
AreBare rows = (i : ℕ) → IsThere rows i → IsBare rows i

-- nothing stands at any of its places but that of what it holds, be that lent or not
abbrev pub IsClear : List Row → ℕ → Type 0
IsClear rows i = (p : Place) → owner p ≡ i → same_place p (Held i) ≡ false → parcels_here rows p ≡ Some []

-- nothing stands at any of its places that isn't lent
abbrev pub IsEnded : List Row → ℕ → Type 0
IsEnded rows i = (p : Place) → owner p ≡ i → IfSome (parcels_here rows p) (λ parcels. parcels ≡ [])

-- so it is of each instance
abbrev pub AreEnded : List Row → Type 0
AreEnded rows = (i : ℕ) → IsThere rows i → IsEnded rows i

-- the first number of which something holds; it holds of none where there is none
abbrev pub IsFirst : (ℕ → Type 0) → Option ℕ → Type 0
IsFirst F None = (s : ℕ) → F s → ⊥
IsFirst F (Some s) = F s × ((r : ℕ) → r < s → F r → ⊥)

-- the first stage of its buffer that has room
abbrev pub IsFirstRoom : List Row → ℕ → Option ℕ → Type 0
IsFirstRoom rows t = IsFirst (λ s. HasRoom rows t s)

-- the first that has a parcel
abbrev pub IsFirstFilled : List Row → ℕ → Option ℕ → Type 0
IsFirstFilled rows i = IsFirst (λ s. HasSome rows i s)
