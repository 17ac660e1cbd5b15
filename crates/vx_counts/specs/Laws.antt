-- The laws by which kept counts stay those of the record.
use Rattle.std.specs.Prelude.{Bool, ℕ, ◌<◌, ◌≡◌, true, false, Some, List, [], ◌∷◌, ◌++◌, length, count_by, ◌⊎◌}
use Rattle.vx_value.specs.Texts.{is_empty}
use Rattle.vx_ends.specs.declared.position.Position.{Position}
use Rattle.vx_status.specs.declared.outcome.Outcome.{Outcome}
use Rattle.vx_plan.specs.declared.class.Class.TheVariants.{Source, Transform, Sink}
use Rattle.vx_record.specs.declared.tally.Tally.{Tally}
use Rattle.vx_record.specs.declared.entry.Entry.{Entry}
use Rattle.vx_record.specs.declared.entry.Entry.TheVariants.{Spent, Confirm}
use Rattle.vx_record.specs.Records.{Record}
use Rattle.vx_record.specs.Copies.{count, joined}
use Rattle.vx_record.specs.Places.{Place, Put, puts}
use Rattle.vx_record.specs.Places.Place.{Held}
use Rattle.vx_record.specs.Legal.{IsLegal}
use Rattle.vx_record.specs.Installs.{source_at, transform_at, sink_at}
use Rattle.vx_record.specs.Confirms.{confirmed, last_of_each}
use Rattle.vx_record.specs.Tallies.{tally, is_batch_of, is_first}
use Rattle.vx_record.specs.Tasks.{is_of}
use Rattle.vx_record.specs.TallyLists.{tallies_of}
use Rattle.vx_counts.specs.Classes.{class_at}
use Rattle.vx_counts.specs.Meets.{LeavesBe, CountsFor, ComesFromOthers, EachMeets}
use Rattle.vx_counts.specs.Spends.{StandsAt, WasPut, WasPutIn, HasPlace}
use Rattle.vx_counts.specs.Answers.{WereTaken}
use Rattle.vx_counts.specs.Begun.{IsBegun, AreBegun, EachBegun, LeavesBegun, WasPutAs}

-- an entry that counts for others alone leaves an instance's tally
abbrev pub OthersStay : Type 0
OthersStay = (e : Entry) (h : Record) (i : ℕ) → IsLegal (e ∷ h) → LeavesBe h i e → tally (e ∷ h) i ≡ tally h i

-- and each entry counts for the instance or leaves it
abbrev pub EachCounted : Type 0
EachCounted = (e : Entry) (h : Record) (i : ℕ) → IsLegal (e ∷ h) → CountsFor h i e ⊎ LeavesBe h i e

-- an entry of another task counts for the instance in two ways alone
abbrev pub CountedByOwn : Type 0
CountedByOwn = (e : Entry) (h : Record) (i : ℕ) → IsLegal (e ∷ h) → is_of i e ≡ false → CountsFor h i e → ComesFromOthers e

-- the positions of a Confirm have each stream that was confirmed before
abbrev pub ConfirmsAll : Type 0
ConfirmsAll =
    (h : Record) (i : ℕ) (positions : List Position) → IsLegal (Confirm i positions true ∷ h) →
    last_of_each [] (confirmed (Confirm i positions true ∷ h) i) ≡ positions

-- the class of sources, transforms and sinks
abbrev pub SourceIs : Type 0
SourceIs = (h : Record) (i : ℕ) → source_at h i ≡ true → class_at h i ≡ Some Source

abbrev pub TransformIs : Type 0
TransformIs = (h : Record) (i : ℕ) → transform_at h i ≡ true → class_at h i ≡ Some Transform

abbrev pub SinkIs : Type 0
SinkIs = (h : Record) (i : ℕ) → sink_at h i ≡ true → class_at h i ≡ Some Sink

-- a batch is of one instance
abbrev pub OneOwner : Type 0
OneOwner = (h : Record) (i j b : ℕ) → IsLegal h → is_batch_of h i b ≡ true → is_batch_of h j b ≡ true → i ≡ j

-- a copy that is spent stands where its outcome says
abbrev pub LegalPlace : Type 0
LegalPlace = (h : Record) (i c : ℕ) (outcome : Outcome) → IsLegal (Spent i c outcome ∷ h) → HasPlace h i c outcome

-- what stands at a place was put there, in a whole parcel
abbrev pub StandsPut : Type 0
StandsPut = (h : Record) (p : Place) (c : ℕ) → StandsAt h p c → (copies : List ℕ) × WasPutIn h p copies c

-- a parcel that was put somewhere was so ever after
abbrev pub PutStays : Type 0
PutStays = (e : Entry) (h : Record) (p : Place) (copies : List ℕ) → WasPut h p copies → WasPut (e ∷ h) p copies

-- what an entry puts was put
abbrev pub PutNow : Type 0
PutNow =
    (e : Entry) (h : Record) (p : Place) (copies : List ℕ) (before after : List Put) → puts e ≡ before ++ record { place = p; copies = copies } ∷ after →
    WasPut (e ∷ h) p copies

-- of a parcel that an instance took its first copy came first, and no other did
abbrev pub FirstOfTaken : Type 0
FirstOfTaken =
    (h : Record) (i c : ℕ) (rest : List ℕ) → IsLegal h → WasPut h (Held i) (c ∷ rest) →
    (is_first h i c ≡ true) × ((d : ℕ) → 0 < count d rest → is_first h i d ≡ false)

-- in the empty record each parcel that stands is a first part of one that was put there
abbrev pub BegunFirst : Type 0
BegunFirst = (some : ℕ → Bool) → EachBegun some []

-- and behind each entry that leaves first parts
abbrev pub BegunStays : Type 0
BegunStays =
    (some : ℕ → Bool) (e : Entry) (h : Record) → IsLegal (e ∷ h) → LeavesBegun some h e → EachBegun some h → EachBegun some (e ∷ h)

-- so the last copy of what is left of a parcel came first in it exactly where no other is left
abbrev pub LastIsFirst : Type 0
LastIsFirst =
    (h : Record) (p : Place) (left : List ℕ) (c : ℕ) → IsLegal h → IsBegun h p (left ++ c ∷ []) → WasPutAs h p c (is_empty left)

-- so it is of what an instance took
abbrev pub LastTakenFirst : Type 0
LastTakenFirst =
    (h : Record) (i : ℕ) (left : List ℕ) (c : ℕ) → IsLegal h → IsBegun h (Held i) (left ++ c ∷ []) → is_empty left ≡ is_first h i c

-- where what is discarded is parcels that the instance took, each whole, it counts once for each
abbrev pub DroppedComplete : Type 0
DroppedComplete =
    (h : Record) (i : ℕ) (parcels : List (List ℕ)) → IsLegal h → WereTaken h i parcels → count_by (is_first h i) (joined parcels) ≡ length parcels

-- and where it is first parts of them
abbrev pub DroppedBegun : Type 0
DroppedBegun =
    (h : Record) (i : ℕ) (parcels : List (List ℕ)) → IsLegal h → AreBegun h (Held i) parcels → count_by (is_first h i) (joined parcels) ≡ length parcels

-- counts that are kept for each instance are the tallies of all
abbrev pub AllMet : Type 0
AllMet = (h : Record) (kept : List Tally) → EachMeets h 0 kept → kept ≡ tallies_of h (length kept)
