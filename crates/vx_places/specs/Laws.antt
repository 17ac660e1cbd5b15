-- What holds of the places of a record.
use Rattle.std.specs.Prelude.{◌≡◌, ◌≢◌, ◌<◌, ◌↔◌, ℕ, Bool, true, List, [], ◌∷◌, length, map, Option, Some, None}
use Rattle.vx_plan.specs.declared.stage.Stage.{Stage}
use Rattle.vx_status.specs.declared.outcome.Outcome.{Outcome}
use Rattle.vx_ledger.specs.Copies.{Copy, numbers_of}
use Rattle.vx_ledger.specs.declared.parcel.Parcel.{Parcel}
use Rattle.vx_transform.specs.declared.output.Output.{Output}
use Rattle.vx_record.specs.declared.entry.Entry.{Entry}
use Rattle.vx_record.specs.declared.entry.Entry.TheVariants.{Spent}
use Rattle.vx_record.specs.Records.{Record}
use Rattle.vx_record.specs.Copies.{count, joined, IsLive}
use Rattle.vx_record.specs.Places.{Place, owner}
use Rattle.vx_record.specs.Parcels.{parcel_ports}
use Rattle.vx_record.specs.Places.Place.{Outputs, Held}
use Rattle.vx_record.specs.Lists.{stands, parcels_at, outputs, waiting, contents, held, all_waiting, buffered, is_bare, places}
use Rattle.vx_record.specs.Moving.{IsStill}
use Rattle.vx_record.specs.Routing.{is_sent}
use Rattle.vx_record.specs.Sending.{IsOldest}
use Rattle.vx_record.specs.Stages.{stages_of, first_room, first_filled}
use Rattle.vx_record.specs.Shifts.{at}
use Rattle.vx_record.specs.Legal.{IsLegal}
use Rattle.vx_places.specs.declared.row.Row.{Row}
use Rattle.vx_places.specs.Numbers.{numbers, EachFilled}
use Rattle.vx_places.specs.Views.{Same, AddsKeeper, parcels_here, outputs_here}
use Rattle.vx_places.specs.Capacities.{capacities_at}
use Rattle.vx_places.specs.Holding.{Holds, Shifts, AreKnown}
use Rattle.vx_places.specs.Calls.{Takes, TakesOutput, Lends, Loses, IsThere, IsKept, IsLent, NoneWaits, HasSome}
use Rattle.vx_places.specs.Looks.{HasOutput, HasWaiting, HasSent, HasEmptyBuffer, HoldsMany, IsBare, IsClear, IsEnded, IsFirstRoom, IsFirstFilled}

-- places that are a record's are those of the record with one entry more, where they shift as that entry says, and it knows what is
-- put
abbrev pub HoldsStep : Type 0
HoldsStep =
    (h : Record) (e : Entry) (put : List Parcel) (old new : List Row) → IsLegal (e ∷ h) → Shifts e put old new → AreKnown (e ∷ h) put → Holds old h →
    Holds new (e ∷ h)

-- an entry that moves nothing shifts nothing
abbrev pub StillShifts : Type 0
StillShifts = (e : Entry) (rows : List Row) → IsStill e → Shifts e [] rows rows

-- whatever changes of the places beside what stands there, they stay a record's
abbrev pub SameHolds : Type 0
SameHolds = (h : Record) (old new : List Row) → Same old new → Holds old h → Holds new h

-- and so they do with an instance more, of which what it holds can't be seen
abbrev pub KeeperHolds : Type 0
KeeperHolds = (h : Record) (old new : List Row) → AddsKeeper old new → Holds old h → Holds new h

-- what is taken from a place is known
abbrev pub TakenKnown : Type 0
TakenKnown =
    (h : Record) (p : Place) (parcel : Parcel) (old new : List Row) → Takes p parcel old new → Holds old h → AreKnown h (parcel ∷ [])

-- what stands first at a place is the record's oldest there
abbrev pub OldestThere : Type 0
OldestThere =
    (h : Record) (rows : List Row) (p : Place) (parcel : Parcel) (rest : List Parcel) → IsLegal h → Holds rows h →
    parcels_here rows p ≡ Some (parcel ∷ rest) → IsOldest (numbers_of parcel.finalizers) (parcels_at p (stands h))

-- the oldest output of an instance is on the ports on which the record has it put out
abbrev pub PortsThere : Type 0
PortsThere =
    (h : Record) (rows : List Row) (i : ℕ) (output : Output) (rest : List Output) → Holds rows h →
    outputs_here rows i ≡ output ∷ rest → output.parcel.finalizers ≢ [] →
    parcel_ports h (numbers_of output.parcel.finalizers) ≡ output.ports

-- an output that is taken and put back leaves the places as they were
abbrev pub BackSame : Type 0
BackSame =
    (i : ℕ) (output : Output) (old mid new : List Row) → Takes (Outputs i) output.parcel old mid → TakesOutput i output old mid →
    Takes (Outputs i) output.parcel new mid → TakesOutput i output new mid → Same old new

-- where the last copy of a place's oldest parcel is gone, the places shift as the spend of that copy
abbrev pub SpentShifts : Type 0
SpentShifts =
    (h : Record) (i : ℕ) (outcome : Outcome) (q : Place) (copy : Copy) (last : Bool) (old new : List Row) → owner q ≡ i → IsLegal (Spent i copy.number outcome ∷ h) →
    Holds old h → Loses q copy last old new → Shifts (Spent i copy.number outcome) [] old new

-- where a copy is spent that stands among what an instance holds, which is lent, they shift so and stay as they are
abbrev pub LentSpentShifts : Type 0
LentSpentShifts =
    (h : Record) (i c : ℕ) (outcome : Outcome) (rows : List Row) → parcels_here rows (Held i) ≡ None → 0 < count c (joined (at h (Held i))) →
    IsLegal (Spent i c outcome ∷ h) → Holds rows h → Shifts (Spent i c outcome) [] rows rows

-- what is lent is what the record has there, and it knows it
abbrev pub LentIs : Type 0
LentIs =
    (h : Record) (i : ℕ) (parcels : List Parcel) (old new : List Row) → Lends i parcels old new → Holds old h →
    Holds new h × ((numbers parcels ≡ at h (Held i)) × AreKnown h parcels)

-- and what the record has there by now may come back
abbrev pub LentComesBack : Type 0
LentComesBack =
    (h : Record) (i : ℕ) (parcels : List Parcel) (old new : List Row) → Lends i parcels new old → numbers parcels ≡ at h (Held i) → AreKnown h parcels →
    Holds old h → Holds new h

-- no instance is there at the beginning of a record
abbrev pub NoneHolds : Type 0
NoneHolds = Holds [] []

-- where what an instance holds can be seen, it is not lent; where it can't, it is
abbrev pub HeldSays : Type 0
HeldSays =
    (rows : List Row) (i : ℕ) → IsThere rows i →
    ((parcels : List Parcel) → parcels_here rows (Held i) ≡ Some parcels → IsKept rows i) × (parcels_here rows (Held i) ≡ None → IsLent rows i)

-- what is asked of the places is what the record has there: an output,
abbrev pub OutputIs : Type 0
OutputIs = (h : Record) (rows : List Row) (i : ℕ) → IsLegal h → Holds rows h → HasOutput rows i ↔ (0 < length (outputs h i))

-- a waiting child,
abbrev pub NoneWaitsIs : Type 0
NoneWaitsIs = (h : Record) (rows : List Row) (i : ℕ) → IsThere rows i → IsLegal h → Holds rows h → NoneWaits rows i ↔ (all_waiting h i ≡ [])

-- one that waits for a target,
abbrev pub AwaitsIs : Type 0
AwaitsIs = (h : Record) (rows : List Row) (i t : ℕ) → IsLegal h → Holds rows h → HasWaiting rows i t ↔ (0 < length (waiting h i t))

-- neither of the two,
abbrev pub SentIs : Type 0
SentIs = (h : Record) (rows : List Row) (i : ℕ) → IsLegal h → Holds rows h → HasSent rows i ↔ (is_sent h i ≡ true)

-- a parcel in a stage,
abbrev pub SomeIs : Type 0
SomeIs = (h : Record) (rows : List Row) (i s : ℕ) → IsLegal h → Holds rows h → HasSome rows i s ↔ (0 < length (contents h i s))

-- and in no stage,
abbrev pub BufferIs : Type 0
BufferIs = (h : Record) (rows : List Row) (i : ℕ) → IsLegal h → Holds rows h → HasEmptyBuffer rows i ↔ (buffered h i ≡ [])

-- how many parcels are held,
abbrev pub HoldsIs : Type 0
HoldsIs = (h : Record) (rows : List Row) (i n : ℕ) → IsLegal h → Holds rows h → HoldsMany rows i n → n ≡ length (held h i)

-- and nothing at all; what is lent can't be seen
abbrev pub BareIs : Type 0
BareIs =
    (h : Record) (rows : List Row) (i : ℕ) → IsLegal h → Holds rows h →
    (IsBare rows i → is_bare h i ≡ true) × (IsKept rows i → is_bare h i ≡ true → IsBare rows i)

-- nothing but what is held, be that lent or not,
abbrev pub ClearIs : Type 0
ClearIs =
    (h : Record) (rows : List Row) (i : ℕ) → IsLegal h → Holds rows h → IsClear rows i ↔ ((is_sent h i ≡ true) × (buffered h i ≡ []))

-- and so nothing at all where nothing is held either
abbrev pub ClearBareIs : Type 0
ClearBareIs = (h : Record) (rows : List Row) (i : ℕ) → IsLegal h → Holds rows h → (IsClear rows i × (held h i ≡ [])) ↔ (is_bare h i ≡ true)

-- the places of an instance may be ended where nothing at all stands there, or nothing but what it holds, which is lent
abbrev pub EndedWhere : Type 0
EndedWhere = (rows : List Row) (i : ℕ) → (IsBare rows i → IsEnded rows i) × (IsClear rows i → IsLent rows i → IsEnded rows i)

-- the first stage with room is the record's where their capacities are those that the plan gives them,
abbrev pub FirstRoomIs : Type 0
FirstRoomIs =
    (h : Record) (rows : List Row) (t : ℕ) (answer : Option ℕ) → IsLegal h → Holds rows h → capacities_at rows t ≡ map (λ (stage : Stage). stage.max_events) (stages_of h t) →
    IsFirstRoom rows t answer → first_room h t ≡ answer

-- and the first with a parcel where there are as many
abbrev pub FirstFilledIs : Type 0
FirstFilledIs =
    (h : Record) (rows : List Row) (i : ℕ) (answer : Option ℕ) → IsLegal h → Holds rows h → length (capacities_at rows i) ≡ length (stages_of h i) →
    IsFirstFilled rows i answer → first_filled h i ≡ answer

-- no parcel at a place of a legal record is empty
abbrev pub FilledThere : Type 0
FilledThere =
    (h : Record) (rows : List Row) (p : Place) (parcels : List Parcel) → IsLegal h → Holds rows h → parcels_here rows p ≡ Some parcels → EachFilled parcels

-- nor one that is lent
abbrev pub LentFilled : Type 0
LentFilled = (h : Record) (i : ℕ) (parcels : List Parcel) (old new : List Row) → IsLegal h → Lends i parcels old new → Holds old h → EachFilled parcels

-- a copy that a legal record has at a place is live, and stands at the place's owner
abbrev pub StandsThere : Type 0
StandsThere =
    (h : Record) (c : ℕ) (p : Place) → IsLegal h → 0 < count c (joined (at h p)) → IsLive h c × (0 < count (owner p) (map owner (places h c)))
