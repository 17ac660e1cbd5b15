-- The parcels at each place, as contracts see the places.
use Rattle.std.specs.Prelude.{◌≡◌, ◌⊎◌, ℕ, zero, suc, false, List, [], ◌∷◌, Option, Some, None, length}
use Rattle.std.specs.Option.{option_map}
use Rattle.vx_value.specs.Filled.{Filled}
use Rattle.vx_value.specs.declared.event.Event.{Event}
use Rattle.vx_ledger.specs.Copies.{Copy}
use Rattle.vx_ledger.specs.declared.parcel.Parcel.{Parcel}
use Rattle.vx_transform.specs.declared.output.Output.{Output}
use Rattle.vx_record.specs.Places.{Place, owner, same_place}
use Rattle.vx_record.specs.Places.Place.{Outputs, Waiting, Contents, Held}
use Rattle.vx_places.specs.declared.row.Row.{Row}
use Rattle.vx_places.specs.Numbers.{numbers, parcels_out, for_target, IsCopyIn}

-- the row of an instance; none past the end
abbrev pub row_at : List Row → ℕ → Option Row
row_at [] i = None
row_at (row ∷ rows) zero = Some row
row_at (row ∷ rows) (suc i) = row_at rows i

-- a stage of a buffer; none past the end
abbrev pub stage_at : List (Filled Parcel) → ℕ → Option (Filled Parcel)
stage_at [] s = None
stage_at (stage ∷ stages) zero = Some stage
stage_at (stage ∷ stages) (suc s) = stage_at stages s

-- what is in it
abbrev pub stage_items : Option (Filled Parcel) → List Parcel
stage_items None = []
stage_items (Some stage) = stage.items

-- what is held, unless it is lent
abbrev pub held_items : Option (Filled Parcel) → Option (List Parcel)
held_items None = None
held_items (Some held) = Some held.items

-- the parcels at a place of an instance, the oldest first
abbrev pub here : Place → Row → Option (List Parcel)
here (Outputs i) row = Some (parcels_out row.outputs.items)
here (Waiting i t) row = Some (for_target t row.waiting.items)
here (Contents i s) row = Some (stage_items (stage_at row.stages.items s))
here (Held i) row = held_items row.held

abbrev pub here_if : Place → Option Row → Option (List Parcel)
here_if p None = Some []
here_if p (Some row) = here p row

-- the parcels at a place, the oldest first; none where they are lent
abbrev pub parcels_here : List Row → Place → Option (List Parcel)
parcels_here rows p = here_if p (row_at rows (owner p))

-- the same by the numbers of their copies
abbrev pub numbers_here : List Row → Place → Option (List (List ℕ))
numbers_here rows p = option_map numbers (parcels_here rows p)

abbrev pub outputs_if : Option Row → List Output
outputs_if None = []
outputs_if (Some row) = row.outputs.items

-- the outputs of an instance, the oldest first; none past the end
abbrev pub outputs_here : List Row → ℕ → List Output
outputs_here rows i = outputs_if (row_at rows i)

-- every other place has what it had
abbrev pub Others : Place → List Row → List Row → Type 0
Others q old new = (p : Place) → same_place q p ≡ false → parcels_here new p ≡ parcels_here old p

-- each instance has the outputs that it had, on the same ports
abbrev pub SameOutputs : List Row → List Row → Type 0
SameOutputs old new = (i : ℕ) → outputs_here new i ≡ outputs_here old i

-- each place has what it had, and each output is on the same ports
pub record Same (old new : List Row) : Type 0 where
  pub here : (p : Place) → parcels_here new p ≡ parcels_here old p
  pub outputs : SameOutputs old new

-- there is an instance more, of which what it holds can't be seen; every other place has what it had, and each output is on the
-- same ports
pub record AddsKeeper (old new : List Row) : Type 0 where
  pub held : parcels_here new (Held (length old)) ≡ None
  pub others : Others (Held (length old)) old new
  pub outputs : SameOutputs old new

-- a copy is in a parcel of some, with the parcel's event
abbrev pub IsAmong : List Parcel → Event → Copy → Type 0
IsAmong [] event copy = ⊥
IsAmong (parcel ∷ rest) event copy = ((parcel.event ≡ event) × IsCopyIn parcel.finalizers copy) ⊎ IsAmong rest event copy

-- a copy is in a parcel at a place
abbrev pub IsIn : Option (List Parcel) → Event → Copy → Type 0
IsIn None event copy = ⊥
IsIn (Some parcels) event copy = IsAmong parcels event copy

abbrev pub IsAt : List Row → Place → Event → Copy → Type 0
IsAt rows p event copy = IsIn (parcels_here rows p) event copy

-- a copy is in an output of some, which is on these ports
abbrev pub IsOnAmong : List Output → ℕ → Copy → Type 0
IsOnAmong [] ports copy = ⊥
IsOnAmong (output ∷ rest) ports copy =
    ((output.ports ≡ ports) × IsCopyIn output.parcel.finalizers copy) ⊎ IsOnAmong rest ports copy

-- so it is at an instance
abbrev pub IsOn : List Row → ℕ → ℕ → Copy → Type 0
IsOn rows i ports copy = IsOnAmong (outputs_here rows i) ports copy

-- each copy in an output was in one before, on the same ports
abbrev pub KeepsOn : List Output → List Output → Type 0
KeepsOn old new = (ports : ℕ) (copy : Copy) → IsOnAmong new ports copy → IsOnAmong old ports copy

-- so it is at each instance
abbrev pub KeepsPorts : List Row → List Row → Type 0
KeepsPorts old new = (i : ℕ) → KeepsOn (outputs_here old i) (outputs_here new i)
