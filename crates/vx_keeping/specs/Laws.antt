-- What holds of keepers beside their calls.
use Rattle.std.specs.Prelude.{◌≡◌, ◌≢◌, ◌≤◌, ◌↔◌, ℕ, true, false, Option, Some, List, [], ◌∷◌, ◌++◌, IsSomeAnd}
use Rattle.vx_ledger.specs.Copies.{numbers_of}
use Rattle.vx_condition.specs.Steps.{ticks}
use Rattle.vx_condition.specs.Reducing.{Settings, due}
use Rattle.vx_record.specs.declared.entry.Entry.{Entry}
use Rattle.vx_record.specs.declared.entry.Entry.TheVariants.{Take, Tick, Answer, Spent}
use Rattle.vx_record.specs.Records.{Record}
use Rattle.vx_record.specs.Copies.{count, joined}
use Rattle.vx_record.specs.Turns.{is_out}
use Rattle.vx_record.specs.Places.Place.{Held}
use Rattle.vx_record.specs.Inputs.{Input as NotedInput, unanswered, ticks_wait, flush, to_answer, steps}
use Rattle.vx_record.specs.Transforms.{reduces, RunsBy, IsTickDue}
use Rattle.vx_record.specs.Answering.{MayFlush, MayAnswer}
use Rattle.vx_record.specs.Shifts.{at}
use Rattle.vx_record.specs.Legal.{IsLegal}
use Rattle.vx_record.specs.Makers.{Spares}
use Rattle.vx_record.specs.Additions.{OnlyAdds}
use Rattle.vx_places.specs.Numbers.{parcels_out}
use Rattle.vx_places.specs.Holding.{AreKnown}
use Rattle.vx_keeping.specs.Kept.{Kept, HoldsNone, copies_kept}
use Rattle.vx_keeping.specs.Keeping.{taken_in, RunsHost, Accounts, Keeps, HasMade}
use Rattle.vx_keeping.specs.Answers.{notes_of, kept_behind, MayBeNoted, IsDueBehind}

-- an entry leaves what the instance keeps: it is no Take or Answer of it, and spends nothing that it holds
abbrev pub LeavesKept : Record → ℕ → Entry → Type 0
LeavesKept h i (Take j stage copies) = j ≢ i
LeavesKept h i (Answer j outputs discarded kept) = j ≢ i
LeavesKept h i (Spent j c outcome) = j ≡ i → count c (joined (at h (Held i))) ≡ 0
LeavesKept h i other = Unit {0}

-- such an entry leaves a keeper that of the record
abbrev pub KeepsStays : Type 0
KeepsStays = (k : Kept) (h : Record) (i : ℕ) (e : Entry) → IsLegal (e ∷ h) → LeavesKept h i e → Keeps k h i → Keeps k (e ∷ h) i

-- also before an answer
abbrev pub MadeStays : Type 0
MadeStays =
    (k : Kept) (h : Record) (i : ℕ) (e : Entry) (given : List NotedInput) → IsLegal (e ∷ h) → LeavesKept h i e → HasMade k h i given → HasMade k (e ∷ h) i given

-- so it is while others go on
abbrev pub KeepsGoesOn : Type 0
KeepsGoesOn = (k : Kept) (old new : Record) (i : ℕ) → IsLegal old → OnlyAdds (Spares i) old new → Keeps k old i → Keeps k new i

-- and what it has made stays
abbrev pub MadeGoesOn : Type 0
MadeGoesOn = (k : Kept) (old new : Record) (i : ℕ) (given : List NotedInput) → IsLegal old → OnlyAdds (Spares i) old new → HasMade k old i given → HasMade k new i given

-- an entry is no Tick of the instance
abbrev pub IsNoTick : ℕ → Entry → Type 0
IsNoTick i (Tick j now) = j ≢ i
IsNoTick i other = Unit {0}

-- with any other entry still no tick waits
abbrev pub TicksStay : Type 0
TicksStay = (h : Record) (i : ℕ) (e : Entry) → IsNoTick i e → ticks_wait h i ≡ false → ticks_wait (e ∷ h) i ≡ false

-- where no parcel waits, and nothing is left of what was discarded, a keeper that is fit was given what is answered, and no more
abbrev pub NoneTaken : Type 0
NoneTaken = (k : Kept) (h : Record) (i : ℕ) → Keeps k h i → k.fit ≡ true → k.discarded ≡ [] → taken_in h i ≡ [] → HasMade k h i []

-- nothing is, where the instance runs no host
abbrev pub OnlyHostsDiscard : Type 0
OnlyHostsDiscard = (k : Kept) (h : Record) (i : ℕ) → Keeps k h i → k.fit ≡ true → (RunsHost h i → ⊥) → k.discarded ≡ []

-- and the other way round
abbrev pub NothingMade : Type 0
NothingMade = (k : Kept) (h : Record) (i : ℕ) → HasMade k h i [] → taken_in h i ≡ [] → Keeps k h i

-- where no tick waits either, nothing was given
abbrev pub NothingGiven : Type 0
NothingGiven = (h : Record) (i : ℕ) → ticks_wait h i ≡ false → taken_in h i ≡ [] → unanswered h i ≡ []

-- an instance holds nothing exactly where its keeper has no copy,
abbrev pub HoldsNothing : Type 0
HoldsNothing = (k : Kept) (h : Record) (i : ℕ) → IsLegal h → Accounts k h i → (copies_kept k ≡ []) ↔ (at h (Held i) ≡ [])

-- and then it took nothing
abbrev pub NothingTaken : Type 0
NothingTaken = (k : Kept) (h : Record) (i : ℕ) → IsLegal h → Keeps k h i → k.fit ≡ true → at h (Held i) ≡ [] → taken_in h i ≡ []

-- what the next answer is to: the parcels that were taken, and behind them a tick, where one was noted,
abbrev pub ToAnswerTaken : Type 0
ToAnswerTaken = (h : Record) (i : ℕ) → ticks_wait h i ≡ false → unanswered h i ≢ [] → to_answer h i ≡ taken_in h i

abbrev pub ToAnswerTick : Type 0
ToAnswerTick =
    (h : Record) (i now : ℕ) → ticks_wait h i ≡ false →
    to_answer (Tick i now ∷ h) i ≡ taken_in h i ++ record { step = ticks now; copies = [] } ∷ []

-- and the flush where there is nothing else
abbrev pub ToAnswerFlush : Type 0
ToAnswerFlush = (h : Record) (i : ℕ) → unanswered h i ≡ [] → (taken_in h i ≡ []) × (to_answer h i ≡ flush ∷ [])

-- the moment of the next check behind what was taken is the record's, where no tick waits,
abbrev pub DueIs : Type 0
DueIs =
    (h : Record) (i : ℕ) (soonest : Option ℕ) (s : Settings) → ticks_wait h i ≡ false → RunsBy h i (reduces s) → IsDueBehind soonest h i (taken_in h i) →
    soonest ≡ due s (steps h i)

-- and once it is reached, a tick is due
abbrev pub TickIsDue : Type 0
TickIsDue = (h : Record) (i moment now : ℕ) → ticks_wait h i ≡ false → IsDueBehind (Some moment) h i (taken_in h i) → moment ≤ now → IsTickDue h i now

-- and before that none is, of a keeper that can answer, where the instance runs no host
abbrev pub NoTickBefore : Type 0
NoTickBefore =
    (k : Kept) (h : Record) (i now : ℕ) (soonest : Option ℕ) → k.fit ≡ true → Keeps k h i → (RunsHost h i → ⊥) → ticks_wait h i ≡ false → IsDueBehind soonest h i (taken_in h i) →
    IsTickDue h i now → IsSomeAnd soonest (λ moment. moment ≤ now)

-- what a keeper made and discards of all that is to be answered may be noted
abbrev pub MadeMayBeNoted : Type 0
MadeMayBeNoted = (k : Kept) (h : Record) (i : ℕ) → IsLegal h → HasMade k h i (to_answer h i) → MayBeNoted h i k.shelf.outputs k.discarded

-- the record knows these outputs then, each with its event
abbrev pub OutputsKnown : Type 0
OutputsKnown =
    (k : Kept) (h : Record) (i : ℕ) (kept : List ℕ) → HasMade k h i (to_answer h i) → IsLegal (Answer i (notes_of k.shelf.outputs) (numbers_of k.discarded) kept ∷ h) →
    AreKnown (Answer i (notes_of k.shelf.outputs) (numbers_of k.discarded) kept ∷ h) (parcels_out k.shelf.outputs)

-- behind it the instance keeps nothing where the maker holds nothing
abbrev pub NoneKept : Type 0
NoneKept =
    (k : Kept) (h : Record) (i : ℕ) (given : List NotedInput) → IsLegal h → HasMade k h i given → HoldsNone k.maker → kept_behind h i k.shelf.outputs k.discarded ≡ []

-- so an instance that is out and holds something may answer; to the flush, where its end allows that
abbrev pub MayAnswerMade : Type 0
MayAnswerMade =
    (k : Kept) (h : Record) (i : ℕ) → IsLegal h → is_out h i ≡ true → HasMade k h i (to_answer h i) → at h (Held i) ≢ [] →
    (unanswered h i ≡ [] → MayFlush h i (kept_behind h i k.shelf.outputs k.discarded)) →
    MayAnswer h i (notes_of k.shelf.outputs) (numbers_of k.discarded) (kept_behind h i k.shelf.outputs k.discarded)
