-- The capacities that were made: of each stage of a buffer, and of what an instance holds.
use Rattle.std.specs.Prelude.{◌≡◌, ◌≢◌, ◌<◌, ℕ, List, [], ◌∷◌, length, Option, Some, None}
use Rattle.vx_value.specs.Filled.{Filled}
use Rattle.vx_ledger.specs.declared.parcel.Parcel.{Parcel}
use Rattle.vx_places.specs.declared.row.Row.{Row}
use Rattle.vx_places.specs.Views.{row_at}

-- the capacity of each of some stages
abbrev pub stage_capacities : List (Filled Parcel) → List ℕ
stage_capacities [] = []
stage_capacities (stage ∷ stages) = stage.room ∷ stage_capacities stages

-- the capacity of what is held, unless it is lent
abbrev pub line_capacity : Option (Filled Parcel) → Option ℕ
line_capacity None = None
line_capacity (Some held) = Some held.room

abbrev pub capacities_if : Option Row → List ℕ
capacities_if None = []
capacities_if (Some row) = stage_capacities row.stages.items

abbrev pub held_capacity_if : Option Row → Option ℕ
held_capacity_if None = None
held_capacity_if (Some row) = line_capacity row.held

-- the capacity of each stage of an instance's buffer, in parcels; none past the end
abbrev pub capacities_at : List Row → ℕ → List ℕ
capacities_at rows i = capacities_if (row_at rows i)

-- the room for what an instance holds, in parcels; none while that is lent, for ever or not, or past the end
abbrev pub held_capacity : List Row → ℕ → Option ℕ
held_capacity rows i = held_capacity_if (row_at rows i)

-- the capacity of each stage is what it was
abbrev pub SameStageCapacities : List Row → List Row → Type 0
SameStageCapacities old new = (i : ℕ) → capacities_at new i ≡ capacities_at old i

-- and so is that for what each instance holds
abbrev pub SameCapacities : List Row → List Row → Type 0
SameCapacities old new = (i : ℕ) → (capacities_at new i ≡ capacities_at old i) × (held_capacity new i ≡ held_capacity old i)

-- with what an instance holds its room is lent, and every other room is what it was
pub record LendsCapacity (i room : ℕ) (old new : List Row) : Type 0 where
  pub was : held_capacity old i ≡ Some room
  pub now : held_capacity new i ≡ None
  pub others : (j : ℕ) → j ≢ i → held_capacity new j ≡ held_capacity old j
  pub stages : SameStageCapacities old new

-- there is an instance more, whose stages have these capacities, and so much room for what it holds; the others have what they had
pub record AddsCapacities (capacities : List ℕ) (room : ℕ) (old new : List Row) : Type 0 where
  pub stages : capacities_at new (length old) ≡ capacities
  pub held : held_capacity new (length old) ≡ Some room
  pub others : (i : ℕ) → i < length old → (capacities_at new i ≡ capacities_at old i) × (held_capacity new i ≡ held_capacity old i)

-- there is an instance more, whose stages have these capacities, and no room for what it holds; the others have what they had
pub record AddsKeeperCapacities (capacities : List ℕ) (old new : List Row) : Type 0 where
  pub stages : capacities_at new (length old) ≡ capacities
  pub held : held_capacity new (length old) ≡ None
  pub others : (i : ℕ) → i < length old → (capacities_at new i ≡ capacities_at old i) × (held_capacity new i ≡ held_capacity old i)
