-- What each call does to the parcels at the places.
use Rattle.std.specs.Prelude.{◌≡◌, ◌≢◌, ◌<◌, ◌≤◌, ◌+◌, ℕ, zero, suc, Bool, false, List, [], ◌∷◌, ◌++◌, Option, Some, None, IsSome, IsSomeAnd, IfSome, length, slice_get}
use Rattle.vx_value.specs.Filled.{Filled}
use Rattle.vx_value.specs.Texts.{is_empty}
use Rattle.vx_value.specs.declared.event.Event.{Event}
use Rattle.vx_ledger.specs.Copies.{Copy, numbers_of}
use Rattle.vx_ledger.specs.declared.parcel.Parcel.{Parcel}
use Rattle.vx_ledger.specs.declared.child.Child.{Child}
use Rattle.vx_transform.specs.declared.output.Output.{Output}
use Rattle.vx_record.specs.declared.output.Output.{Output as NotedOutput}
use Rattle.vx_record.specs.declared.entry.Entry.{Entry}
use Rattle.vx_record.specs.declared.entry.Entry.TheVariants.{Born, Split, Answer}
use Rattle.vx_record.specs.Moving.{singles}
use Rattle.vx_record.specs.Places.{Place, same_place}
use Rattle.vx_record.specs.Places.Place.{Outputs, Waiting, Held}
use Rattle.vx_record.specs.Lists.{is_child_of}
use Rattle.vx_places.specs.declared.row.Row.{Row}
use Rattle.vx_places.specs.Numbers.{for_target, numbers, noted, parcels_in, parcels_out, AreNoted, AreOn, EachFilled}
use Rattle.vx_places.specs.Views.{row_at, stage_at, parcels_here, outputs_here, Others, SameOutputs, KeepsPorts}
use Rattle.vx_places.specs.Capacities.{held_capacity}
use Rattle.vx_places.specs.Holding.{Shifts}

-- the oldest parcel of a place is taken from it
pub record Takes (q : Place) (parcel : Parcel) (old new : List Row) : Type 0 where
  pub rest : List Parcel
  pub was : parcels_here old q ≡ Some (parcel ∷ rest)
  pub now : parcels_here new q ≡ Some rest
  pub others : Others q old new
  pub on : KeepsPorts old new

-- the oldest output of an instance is taken from it, with its ports, and every other has the outputs that it had
pub record TakesOutput (i : ℕ) (output : Output) (old new : List Row) : Type 0 where
  pub oldest : outputs_here old i ≡ output ∷ outputs_here new i
  pub others : (j : ℕ) → j ≢ i → outputs_here new j ≡ outputs_here old j

-- parcels are put behind those of a place
pub record Puts (q : Place) (more : List Parcel) (old new : List Row) : Type 0 where
  pub before : List Parcel
  pub was : parcels_here old q ≡ Some before
  pub now : parcels_here new q ≡ Some (before ++ more)
  pub others : Others q old new
  pub outputs : (i : ℕ) → same_place q (Outputs i) ≡ false → outputs_here new i ≡ outputs_here old i

-- the children of an instance of which none waited wait
pub record Waits (i : ℕ) (children : List Child) (old new : List Row) : Type 0 where
  pub was : (t : ℕ) → parcels_here old (Waiting i t) ≡ Some []
  pub now : (t : ℕ) → parcels_here new (Waiting i t) ≡ Some (for_target t children)
  pub others : (p : Place) → is_child_of i p ≡ false → parcels_here new p ≡ parcels_here old p
  pub outputs : SameOutputs old new

-- the parcels that an instance holds are lent
pub record Lends (i : ℕ) (parcels : List Parcel) (old new : List Row) : Type 0 where
  pub was : parcels_here old (Held i) ≡ Some parcels
  pub now : parcels_here new (Held i) ≡ None
  pub others : Others (Held i) old new
  pub outputs : SameOutputs old new

-- a parcel without its last copy, before others; nothing of it where that was its only one
abbrev pub left_of : Event → List Copy → List Parcel → List Parcel
left_of event [] rest = rest
left_of event (c ∷ cs) rest = record { event = event; finalizers = c ∷ cs } ∷ rest

-- the oldest of some parcels loses its last copy, and this says whether no other is left of it
pub record LosesCopy (copy : Copy) (last : Bool) (old new : List Parcel) : Type 0 where
  pub event : Event
  pub left : List Copy
  pub rest : List Parcel
  pub was : old ≡ record { event = event; finalizers = left ++ copy ∷ [] } ∷ rest
  pub now : new ≡ left_of event left rest
  pub alone : last ≡ is_empty left

-- so it is at a place
pub record Loses (q : Place) (copy : Copy) (last : Bool) (old new : List Row) : Type 0 where
  pub before : List Parcel
  pub after : List Parcel
  pub was : parcels_here old q ≡ Some before
  pub now : parcels_here new q ≡ Some after
  pub loses : LosesCopy copy last before after
  pub others : Others q old new
  pub on : KeepsPorts old new

-- what is left of a parcel; none where it has no copy
abbrev pub unless_bare : Event → List Copy → Option Parcel
unless_bare event [] = None
unless_bare event (c ∷ cs) = Some (record { event = event; finalizers = c ∷ cs })

-- a parcel loses its last copy, and this is left of it
pub record LosesLast (copy : Copy) (parcel : Parcel) (rest : Option Parcel) : Type 0 where
  pub left : List Copy
  pub was : parcel.finalizers ≡ left ++ copy ∷ []
  pub now : rest ≡ unless_bare parcel.event left

-- there is no parcel of which a copy could be lost, or the oldest has none
abbrev pub NothingToLose : List Parcel → Type 0
NothingToLose [] = Unit {0}
NothingToLose (parcel ∷ rest) = parcel.finalizers ≡ []

-- so it is at a place, whose parcels are not lent
abbrev pub NothingToSpend : Place → List Row → Type 0
NothingToSpend q rows = IsSomeAnd (parcels_here rows q) NothingToLose

-- the oldest parcel of a place goes behind those of another, as an entry with its copies says
pub record Moves (entry : List ℕ → Entry) (from to : Place) (old new : List Row) : Type 0 where
  pub parcel : Parcel
  pub mid : List Row
  pub taken : Takes from parcel old mid
  pub put : Puts to (parcel ∷ []) mid new
  pub shifts : Shifts (entry (numbers_of parcel.finalizers)) [] old new

-- outputs are put out: those of a batch, all on port 0 alone, or those of an answer while what was held is lent, which then comes
-- back without them
pub record PutsOut (i : ℕ) (outputs : List Output) (old new : List Row) : Type 0 where
  pub put : Puts (Outputs i) (parcels_out outputs) old new
  pub born : (b place : ℕ) (copies : List ℕ) (events : List Event) (waits : Bool) (stream end : ℕ) →
      numbers (parcels_out outputs) ≡ singles copies → AreOn 1 outputs →
      Shifts (Born i b place copies events waits stream end) (parcels_out outputs) old new
  pub answered : (notes : List NotedOutput) (discarded kept : List ℕ) → AreNoted outputs notes →
      EachFilled (parcels_out outputs) → parcels_here old (Held i) ≡ None →
      Shifts (Answer i notes discarded kept) (parcels_out outputs) old new

-- what an instance's oldest output was split into waits
pub record Divides (i : ℕ) (children : List Child) (mid new : List Row) : Type 0 where
  pub wait : Waits i children mid new
  pub split : (old : List Row) (parcel : Parcel) (ports : ℕ) (event : Event) → Takes (Outputs i) parcel old mid → EachFilled (parcels_in children) →
      Shifts (Split i ports (numbers_of parcel.finalizers) event (noted children)) (parcels_in children) old new

-- there is such an instance
abbrev pub IsThere : List Row → ℕ → Type 0
IsThere rows i = i < length rows

-- a fact on the row of an instance
abbrev pub IsRow : (Row → Type 0) → List Row → ℕ → Type 0
IsRow F rows i = IsSomeAnd (row_at rows i) F

-- an instance has room for one more output
abbrev pub HasOutputRoom : List Row → ℕ → Type 0
HasOutputRoom rows i = IsRow (λ row. length row.outputs.items < row.outputs.room) rows i

-- and for so many more
abbrev pub HasOutputRoomFor : List Row → ℕ → ℕ → Type 0
HasOutputRoomFor rows i n = IsRow (λ row. length row.outputs.items + n ≤ row.outputs.room) rows i

-- no child of it waits
abbrev pub NoneWaits : List Row → ℕ → Type 0
NoneWaits rows i = IsRow (λ row. row.waiting.items ≡ []) rows i

-- the child at that place is for the target, and none before it is
abbrev pub NoneBefore : ℕ → ℕ → List Child → Type 0
NoneBefore t k [] = ⊥
NoneBefore t zero (c ∷ cs) = c.target ≡ t
NoneBefore t (suc k) (c ∷ cs) = (c.target ≢ t) × NoneBefore t k cs

-- its waiting child at that place is the oldest for the target
abbrev pub IsOldestFor : List Row → ℕ → ℕ → ℕ → Type 0
IsOldestFor rows i t k = IsRow (λ row. NoneBefore t k row.waiting.items) rows i

-- the target of its waiting child at that place, if there is such a child
abbrev pub waiting_target : List Row → ℕ → ℕ → Option ℕ
waiting_target rows i k =
    elim (row_at rows i) [ None ↦ None | Some row ↦ elim (slice_get row.waiting.items k) [ None ↦ None | Some c ↦ Some c.target ] ]

-- a stage has room for one more parcel
abbrev pub HasRoom : List Row → ℕ → ℕ → Type 0
HasRoom rows t s = IsRow (λ row. IsSomeAnd (stage_at row.stages.items s) (λ stage. length stage.items < stage.room)) rows t

-- a stage has a parcel
abbrev pub HasSome : List Row → ℕ → ℕ → Type 0
HasSome rows i s = IsRow (λ row. IsSomeAnd (stage_at row.stages.items s) (λ stage. 0 < length stage.items)) rows i

-- what an instance holds is not lent
abbrev pub IsKept : List Row → ℕ → Type 0
IsKept rows i = IsRow (λ row. IsSome row.held) rows i

-- it is lent
abbrev pub IsLent : List Row → ℕ → Type 0
IsLent rows i = IsRow (λ row. row.held ≡ None) rows i

-- it is not lent, and there is room for one more parcel
abbrev pub HasHeldRoom : List Row → ℕ → Type 0
HasHeldRoom rows i = IsSomeAnd (parcels_here rows (Held i)) (λ parcels. IsSomeAnd (held_capacity rows i) (λ room. length parcels < room))

-- empty stages of these capacities
abbrev pub empty_stages : List ℕ → List (Filled Parcel)
empty_stages [] = []
empty_stages (room ∷ capacities) = record { items = []; room = room } ∷ empty_stages capacities

-- each stage is empty
abbrev pub AreEmpty : List (Filled Parcel) → Type 0
AreEmpty [] = Unit {0}
AreEmpty (stage ∷ stages) = (stage.items ≡ []) × AreEmpty stages

-- nothing stands at an instance that isn't lent
pub record IsVacant (row : Row) : Type 0 where
  pub outputs : row.outputs.items ≡ []
  pub waiting : row.waiting.items ≡ []
  pub stages : AreEmpty row.stages.items
  pub held : IfSome row.held (λ held. held.items ≡ [])

-- so it is at each of some instances
abbrev pub EachVacant : List Row → Type 0
EachVacant [] = Unit {0}
EachVacant (row ∷ rows) = IsVacant row × EachVacant rows

-- nothing stands at an instance, its stages have these capacities, and there is so much room for what it holds
pub record IsNew (capacities : List ℕ) (room : ℕ) (row : Row) : Type 0 where
  pub outputs : row.outputs.items ≡ []
  pub waiting : row.waiting.items ≡ []
  pub stages : row.stages.items ≡ empty_stages capacities
  pub held : IsSomeAnd row.held (λ held. (held.items ≡ []) × (held.room ≡ room))

-- nothing stands at an instance, its stages have these capacities, and what it holds is lent from the beginning
pub record IsNewKeeper (capacities : List ℕ) (row : Row) : Type 0 where
  pub outputs : row.outputs.items ≡ []
  pub waiting : row.waiting.items ≡ []
  pub stages : row.stages.items ≡ empty_stages capacities
  pub held : row.held ≡ None
