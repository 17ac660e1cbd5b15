-- When the keepers are those of a record.
use Rattle.std.specs.Prelude.{◌≡◌, ◌≢◌, ℕ, true, false, is_some, List, [], ◌∷◌, ◌++◌, Option, Some, None, IfSome, IsSomeAnd, length, slice_get}
use Rattle.vx_ledger.specs.Copies.{Copy, numbers_of}
use Rattle.vx_ledger.specs.declared.parcel.Parcel.{Parcel}
use Rattle.vx_transform.specs.declared.output.Output.{Output}
use Rattle.vx_condition.specs.Steps.{ticks}
use Rattle.vx_record.specs.declared.entry.Entry.{Entry}
use Rattle.vx_record.specs.declared.entry.Entry.TheVariants.{Take, Tick, Answer}
use Rattle.vx_record.specs.Records.{Record}
use Rattle.vx_record.specs.Inputs.{Input as NotedInput, flush, to_answer, ticks_wait}
use Rattle.vx_record.specs.Installs.{transform_at}
use Rattle.vx_record.specs.Judges.{judge_at}
use Rattle.vx_record.specs.Legal.{IsLegal}
use Rattle.vx_record.specs.Places.Place.{Held}
use Rattle.vx_record.specs.Turns.{lease_now}
use Rattle.vx_places.specs.declared.row.Row.{Row}
use Rattle.vx_places.specs.Views.{parcels_here}
use Rattle.vx_places.specs.Holding.{AreKnown}
use Rattle.vx_tasks.specs.Joining.{joins_at}
use Rattle.vx_keeping.specs.Answers.{notes_of, GivesUp, IsDueBehind, TakesOut}
use Rattle.vx_keeping.specs.Kept.{Kept, copies_kept}
use Rattle.vx_keeping.specs.Keeping.{taken_in, Accounts, Keeps, HasMade}
use Rattle.vx_keeping.specs.Laws.{LeavesKept}

-- what an instance keeps, if it merges; none past the end
abbrev pub keeper_at : List (Option Kept) → ℕ → Option Kept
keeper_at slots i = elim (slice_get slots i) [ None ↦ None | Some slot ↦ slot ]

-- those that merge have a keeper, and no other
abbrev pub AreWhose : List (Option Kept) → Record → Type 0
AreWhose slots h = (i : ℕ) → is_some (keeper_at slots i) ≡ joins_at h i

-- each transform that doesn't merge judges event by event
abbrev pub OthersJudge : Record → Type 0
OthersJudge h = (i : ℕ) → transform_at h i ≡ true → joins_at h i ≡ false → judge_at h i ≡ true

-- a keeper is that of the record, all that its last answer discarded was taken out of it if it is fit, and no tick waits for its answer
pub record IsKept (k : Kept) (h : Record) (i : ℕ) : Type 0 where
  pub keeps : Keeps k h i
  pub cleared : k.fit ≡ true → k.discarded ≡ []
  pub unticked : ticks_wait h i ≡ false

-- so is each
abbrev pub AreKept : List (Option Kept) → Record → Type 0
AreKept slots h = (i : ℕ) → IfSome (keeper_at slots i) (λ k. IsKept k h i)

-- what such an instance holds stands with its keeper, and at no place
abbrev pub StandApart : List Row → Record → Type 0
StandApart rows h = (i : ℕ) → joins_at h i ≡ true → parcels_here rows (Held i) ≡ None

-- there is a slot for each instance, and a keeper in those of the instances that merge
pub record AreKeepers (slots : List (Option Kept)) (rows : List Row) (h : Record) : Type 0 where
  pub many : length slots ≡ length rows
  pub whose : AreWhose slots h
  pub apart : StandApart rows h

-- an entry leaves what an instance keeps, and is no tick of it
abbrev pub SparesKeeper : Record → ℕ → Entry → Type 0
SparesKeeper h i (Tick j now) = j ≢ i
SparesKeeper h i e = LeavesKept h i e

-- so it does what each keeps that merges
abbrev pub SparesKept : Record → Entry → Type 0
SparesKept h e = (i : ℕ) → joins_at h i ≡ true → SparesKeeper h i e

-- ONE KEEPER
-- a fact of an instance's keeper, which it has
abbrev pub IsKeeper : (Kept → Type 0) → List (Option Kept) → ℕ → Type 0
IsKeeper F slots i = IsSomeAnd (keeper_at slots i) F

-- one keeper is changed so, and the others are as they were
pub record OneKeeper (F : Kept → Kept → Type 0) (i : ℕ) (old new : List (Option Kept)) : Type 0 where
  pub one : IsSomeAnd (keeper_at old i) (λ was. IsSomeAnd (keeper_at new i) (λ is. F was is))
  pub others : (j : ℕ) → j ≢ i → keeper_at new j ≡ keeper_at old j
  pub many : length new ≡ length old

-- it is as fit as it was, and has as much room
pub record StaysFit (was is : Kept) : Type 0 where
  pub fit : is.fit ≡ was.fit
  pub room : is.taken.room ≡ was.taken.room

-- it isn't fit any more, and has as much room
pub record GetsUnfit (was is : Kept) : Type 0 where
  pub unfit : is.fit ≡ false
  pub room : is.taken.room ≡ was.taken.room

-- it takes a parcel, as a Take says
pub record TakesIn (parcel : Parcel) (was is : Kept) : Type 0 where
  pub discarded : was.fit ≡ true → is.discarded ≡ was.discarded
  pub keeps : (h : Record) (i stage : ℕ) → Keeps was h i → IsLegal (Take i stage (numbers_of parcel.finalizers) ∷ h) → AreKnown h (parcel ∷ []) →
      Keeps is (Take i stage (numbers_of parcel.finalizers) ∷ h) i
  pub stays : StaysFit was is

-- it was fit, and makes of all that was taken what the next answer is
pub record AnswersTaken (now : ℕ) (was is : Kept) : Type 0 where
  pub had : was.fit ≡ true
  pub made : (h : Record) (i : ℕ) → now ≡ lease_now h i → Keeps was h i → was.discarded ≡ [] → HasMade is h i (taken_in h i)
  pub stays : StaysFit was is

-- it was fit, and acts by itself at a moment, behind what it was given
pub record Ticks (now : ℕ) (was is : Kept) : Type 0 where
  pub had : was.fit ≡ true
  pub made : (h : Record) (i : ℕ) (given : List NotedInput) → HasMade was h i given → HasMade is h i (given ++ record { step = ticks now; copies = [] } ∷ [])
  pub stays : StaysFit was is

-- it was fit, and puts out all that it holds, behind what it was given
pub record Flushes (was is : Kept) : Type 0 where
  pub had : was.fit ≡ true
  pub made : (h : Record) (i : ℕ) (given : List NotedInput) → HasMade was h i given → HasMade is h i (given ++ flush ∷ [])
  pub stays : StaysFit was is

-- no memory was found; its copies are those of the record still
pub record FailsShort (was is : Kept) : Type 0 where
  pub keeps : (h : Record) (i : ℕ) → Accounts was h i → Keeps is h i
  pub gets : GetsUnfit was is

-- what it has put out is taken off, as the Answer says that is to all that is to be answered
pub record PutsOut (outputs : List Output) (was is : Kept) : Type 0 where
  pub outputs_are : outputs ≡ was.shelf.outputs
  pub keeps : (h : Record) (i : ℕ) (kept : List ℕ) → HasMade was h i (to_answer h i) →
      IsLegal (Answer i (notes_of outputs) (numbers_of was.discarded) kept ∷ h) → Keeps is (Answer i (notes_of outputs) (numbers_of was.discarded) kept ∷ h) i
  pub discarded : is.discarded ≡ was.discarded
  pub stays : StaysFit was is

-- a copy that its last answer discarded is taken out, to be spent
pub record TakesOutOne (copy : Copy) (was is : Kept) : Type 0 where
  pub takes : TakesOut copy was is
  pub stays : StaysFit was is

-- a copy of it is taken out, to be spent
pub record Loses (copy : Copy) (was is : Kept) : Type 0 where
  pub gives : GivesUp copy was is
  pub gets : GetsUnfit was is

-- it has no copy, and none is left to it
pub record IsEmptied (was is : Kept) : Type 0 where
  pub had : copies_kept was ≡ []
  pub has : copies_kept is ≡ []
  pub gets : GetsUnfit was is

-- it is fit and took nothing since its last answer, whatever record it is of
pub record Rests (k : Kept) : Type 0 where
  pub fit : k.fit ≡ true
  pub none : (h : Record) (i : ℕ) → Keeps k h i → taken_in h i ≡ []

-- it isn't fit, or took something since its last answer
abbrev pub IsAtWork : Kept → Type 0
IsAtWork k = k.fit ≡ true → (h : Record) (i : ℕ) → Keeps k h i → taken_in h i ≢ []

-- it can answer: memory was never wanting for it, and its copies weren't given up
abbrev pub CanAnswer : Kept → Type 0
CanAnswer k = k.fit ≡ true

-- and this is the moment of its next check then
pub record ChecksAt (moment : ℕ) (k : Kept) : Type 0 where
  pub none : (h : Record) (i : ℕ) → Keeps k h i → taken_in h i ≡ []
  pub due : (h : Record) (i : ℕ) → Keeps k h i → IsDueBehind (Some moment) h i []

-- and there is no other, if any
abbrev pub ChecksOnly : Option ℕ → Kept → Type 0
ChecksOnly moment k = k.fit ≡ true → (h : Record) (i : ℕ) → Keeps k h i → taken_in h i ≡ [] → IsDueBehind moment h i []
