-- What a maker makes of what it is given.
use Rattle.std.specs.Prelude.{◌≡◌, ◌≢◌, ◌<◌, ◌^◌, ◌⊎◌, ℕ, Bool, Option, Some, None, List, [], ◌++◌, map, reverse, All, count_by, ◌==◌}
use Rattle.std.specs.List.{sum_by, list_any}
use Rattle.vx_ledger.specs.Copies.{Copy, joined, numbers_of}
use Rattle.vx_ledger.specs.declared.parcel.Parcel.{Parcel}
use Rattle.vx_transform.specs.declared.output.Output.{Output}
use Rattle.vx_transform.specs.Shelves.{Shelved, copies_dropped, copies_on}
use Rattle.vx_condition.specs.Reducing.{Settings}
use Rattle.vx_record.specs.Parcels.{first_copy}
use Rattle.vx_reduce.specs.declared.reduce.Reduce.{Reduce}
use Rattle.vx_reduce.specs.Groups.{copies_held, put_all}
use Rattle.vx_reduce.specs.Inputs.{Input, arrived, outputs_over}
use Rattle.vx_reduce.specs.Standing.{settings_of, IsAt, IsMeant}

-- parcels that came at a moment
abbrev pub arrived_all : ℕ → List Parcel → List Input
arrived_all now parcels = map (λ (parcel : Parcel). arrived parcel now) parcels

-- the copies of some inputs, in order
abbrev pub copies_in : List Input → List Copy
copies_in given = joined (map (λ (x : Input). x.copies) given)

-- two lists have the same copies, each as often: however copies are weighed, they weigh the same
abbrev pub SameCopies : List Copy → List Copy → Type 0
SameCopies old new = (weight : Copy → ℕ) → sum_by weight old ≡ sum_by weight new

-- A REDUCE
-- a reduce without a group stays so, and puts nothing out
abbrev pub StaysBare : Reduce → Reduce → Shelved → Shelved → Type 0
StaysBare old new before after = old.groups ≡ [] → (new.groups ≡ []) × (after ≡ before)

-- a reduce was given some inputs, in order: whatever it stood for, it stands for that and for them, and what they have it put out
-- stands on the shelf behind what stood there, and nothing is discarded. It is set as it was, no copy is lost or doubled, and its
-- conditions mean something, or it had no group and has none
pub record IsGiven (given : List Input) (old new : Reduce) (before after : Shelved) : Type 0 where
  pub stands : (s : Settings) (earlier : List Input) → IsAt s earlier old → IsAt s (reverse given ++ earlier) new
  pub shelf : (s : Settings) (earlier : List Input) → IsAt s earlier old → after ≡ put_all before (outputs_over s earlier given)
  pub dropped : after.dropped ≡ before.dropped
  pub set : settings_of new ≡ settings_of old
  pub meant : IsMeant new ⊎ StaysBare old new before after
  pub same : SameCopies (copies_held old.groups ++ (copies_in given ++ copies_on before)) (copies_held new.groups ++ copies_on after)

-- A HOST
-- an output of a host: it has a copy, and ports, below the 65th
pub record IsSound (output : Output) : Type 0 where
  pub filled : output.parcel.finalizers ≢ []
  pub some : 0 < output.ports
  pub below : output.ports < 2 ^ 65

-- a host was given some parcels: what it puts out is sound, and no copy is lost or doubled, each of these and of those that stood on
-- the shelf or were discarded before
pub record IsHosted (parcels : List Parcel) (before after : Shelved) (was discarded : List Copy) : Type 0 where
  pub sound : All IsSound before.outputs → All IsSound after.outputs
  pub dropped : after.dropped ≡ []
  pub same : SameCopies (copies_dropped parcels ++ (copies_on before ++ was)) (copies_on after ++ discarded)

-- EITHER
-- a maker was given some inputs, of which the parcels are these: a reduce discards none
abbrev pub Makes : List Input → List Parcel → Option Reduce → Option Reduce → Shelved → Shelved → List Copy → List Copy → Type 0
Makes given parcels (Some old) (Some new) before after was discarded = IsGiven given old new before after × (discarded ≡ was)
Makes given parcels None None before after was discarded = IsHosted parcels before after was discarded
Makes given parcels old new before after was discarded = ⊥

-- the numbers of the copies that came first in some parcels
abbrev pub firsts_of : List Parcel → List ℕ
firsts_of parcels = map (λ (parcel : Parcel). first_copy (numbers_of parcel.finalizers)) parcels

-- whether a number is among some
abbrev pub is_among : List ℕ → ℕ → Bool
is_among numbers c = list_any (λ d. d == c) numbers

-- how many of the copies that a host discards came first in these parcels; of a reduce it stays
abbrev pub Drops : Option Reduce → List Parcel → List Copy → ℕ → ℕ → Type 0
Drops (Some r) parcels discarded was dropped = dropped ≡ was
Drops None parcels discarded was dropped = dropped ≡ count_by (is_among (firsts_of parcels)) (numbers_of discarded)
