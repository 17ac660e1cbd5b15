-- When the places are those of a record, and what an entry makes of them.
use Rattle.std.specs.Prelude.{◌≡◌, ◌⊎◌, ◌<◌, ℕ, List, [], ◌∷◌, IfSome}
use Rattle.std.specs.Option.{option_map}
use Rattle.vx_value.specs.declared.event.Event.{Event}
use Rattle.vx_ledger.specs.Copies.{Copy}
use Rattle.vx_ledger.specs.declared.parcel.Parcel.{Parcel}
use Rattle.vx_record.specs.declared.entry.Entry.{Entry}
use Rattle.vx_record.specs.declared.output.Output.{Output as NotedOutput}
use Rattle.vx_record.specs.declared.entry.Entry.TheVariants.{Born, Answer}
use Rattle.vx_record.specs.Records.{Record}
use Rattle.vx_record.specs.Copies.{count, next_copy}
use Rattle.vx_record.specs.Batches.{batch_of}
use Rattle.vx_record.specs.Parcels.{event_of, ports_of}
use Rattle.vx_record.specs.Places.{Place}
use Rattle.vx_record.specs.Shifts.{shift, at}
use Rattle.vx_places.specs.declared.row.Row.{Row}
use Rattle.vx_places.specs.Numbers.{numbers}
use Rattle.vx_places.specs.Views.{parcels_here, numbers_here, IsAmong, IsAt, IsOn}

-- a copy was made, the record has its parcel's event for it, and it comes from the batch that it carries
pub record IsKnown (h : Record) (event : Event) (copy : Copy) : Type 0 where
  pub made : copy.number < next_copy h
  pub said : event_of h copy.number ≡ event
  pub batch : batch_of h copy.number ≡ copy.batch
  pub place : copy.place ≡ copy.batch

-- each copy of some parcels
abbrev pub AreKnown : Record → List Parcel → Type 0
AreKnown h parcels = (event : Event) (copy : Copy) → IsAmong parcels event copy → IsKnown h event copy

-- at each place whose parcels are not lent stand those that the record has there, the oldest first; it knows their copies, and on
-- which ports each output was put out
pub record Holds (rows : List Row) (h : Record) : Type 0 where
  pub stand : (p : Place) → IfSome (parcels_here rows p) (λ parcels. numbers parcels ≡ at h p)
  pub known : (p : Place) (event : Event) (copy : Copy) → IsAt rows p event copy → IsKnown h event copy
  pub on : (i ports : ℕ) (copy : Copy) → IsOn rows i ports copy → ports_of h copy.number ≡ ports

-- an entry that gives no copy another event
abbrev pub IsNoAnswer : Entry → Type 0
IsNoAnswer (Answer i outputs discarded kept) = ⊥
IsNoAnswer other = Unit {0}

-- a copy stood at some place
abbrev pub WasSomewhere : List Row → Event → Copy → Type 0
WasSomewhere rows event copy = (p : Place) × IsAt rows p event copy

-- a copy is in an output of an entry's, which is on these ports
abbrev pub IsPutOn : List NotedOutput → ℕ → ℕ → Type 0
IsPutOn [] ports c = ⊥
IsPutOn (output ∷ rest) ports c = ((output.ports ≡ ports) × (0 < count c output.copies)) ⊎ IsPutOn rest ports c

-- an entry puts a copy out on these ports; a Born on port 0 alone
abbrev pub PutsOn : Entry → ℕ → ℕ → Type 0
PutsOn (Born i b place copies events waits stream end) ports c = (ports ≡ 1) × (0 < count c copies)
PutsOn (Answer i outputs discarded kept) ports c = IsPutOn outputs ports c
PutsOn other ports c = ⊥

-- the entry makes at each place what it makes of it in a record, where parcels are put that were not there; what is lent stays
-- lent; each copy has the event that it had, or comes with what is put; and an output is on the ports on which it was, or the
-- entry puts it out on them
pub record Shifts (e : Entry) (put : List Parcel) (old new : List Row) : Type 0 where
  pub each : (p : Place) → numbers_here new p ≡ option_map (shift e p) (numbers_here old p)
  pub comes : (p : Place) (event : Event) (copy : Copy) → IsAt new p event copy →
      IsAt old p event copy ⊎ ((IsNoAnswer e × WasSomewhere old event copy) ⊎ IsAmong put event copy)
  pub on : (i ports : ℕ) (copy : Copy) → IsOn new i ports copy → IsOn old i ports copy ⊎ PutsOn e ports copy.number
