-- What reduce is given, and what it holds and puts out by that. What it was given is told with the latest first.
use Rattle.std.specs.Prelude.{ℕ, List, [], ◌∷◌, ◌++◌, Some, map, length, ◌==◌, if◌then◌else◌}
use Rattle.vx_value.specs.Datum.{Datum, Items, no_data}
use Rattle.vx_ledger.specs.Copies.{Copy, joined}
use Rattle.vx_ledger.specs.declared.parcel.Parcel.{Parcel}
use Rattle.vx_condition.specs.Steps.{Step, comes, ticks, ends}
use Rattle.vx_condition.specs.Reducing.{Settings, Arrival, put_out, group_event}
use Rattle.vx_transform.specs.declared.output.Output.{Output}
use Rattle.vx_reduce.specs.declared.group.Group.{Group}
use Rattle.vx_reduce.specs.Keys.{key_datum}
use Rattle.vx_reduce.specs.Groups.{passed}

-- a step, and the copies of the parcel that came, if one did
pub record Input : Type 0 where
  pub step : Step
  pub copies : List Copy

-- a parcel that came at a moment
abbrev pub arrived : Parcel → ℕ → Input
arrived parcel now = record { step = comes parcel.event now; copies = parcel.finalizers }

-- a tick at a moment
abbrev pub ticked : ℕ → Input
ticked now = record { step = ticks now; copies = [] }

-- the flush at the end
abbrev pub at_end : Input
at_end = record { step = ends; copies = [] }

-- the steps of some inputs
abbrev pub steps_of : List Input → List Step
steps_of given = map (λ (x : Input). x.step) given

-- the copies of the input that has so many before it
abbrev pub copies_at : List Input → ℕ → List Copy
copies_at [] place = []
copies_at (x ∷ before) place = if length before == place then x.copies else copies_at before place

-- the copies of some events, in order
abbrev pub group_copies : List Input → List Arrival → List Copy
group_copies given group = joined (map (λ (a : Arrival). copies_at given a.place) group)

-- the parcel that some events make: their copies in order, and the one event that they are merged to
abbrev pub group_parcel : Settings → List Input → List Arrival → Parcel
group_parcel s given group = record { event = group_event s group; finalizers = group_copies given group }

-- the key of some events: that of the first
abbrev pub first_key : Settings → List Arrival → Datum
first_key s [] = Items no_data
first_key s (a ∷ rest) = key_datum s.group_by a.event

-- the moment of the last of some events
abbrev pub last_moment : List Arrival → ℕ
last_moment [] = 0
last_moment (a ∷ []) = a.moment
last_moment (a ∷ b ∷ rest) = last_moment (b ∷ rest)

-- the group that holds some events
abbrev pub group_with : Settings → List Input → List Arrival → Group
group_with s given group = record { key = first_key s group; moment = last_moment group; parcel = Some (group_parcel s given group) }

-- the output that some events are put out as
abbrev pub output_with : Settings → List Input → List Arrival → Output
output_with s given group = passed (group_parcel s given group)

-- what an input has reduce put out, behind those before it
abbrev pub outputs_at : Settings → List Input → Input → List Output
outputs_at s before x = map (output_with s (x ∷ before)) (put_out s (steps_of before) x.step)

-- what some inputs have it put out, in their order, behind those before them
abbrev pub outputs_over : Settings → List Input → List Input → List Output
outputs_over s before [] = []
outputs_over s before (x ∷ rest) = outputs_at s before x ++ outputs_over s (x ∷ before) rest
