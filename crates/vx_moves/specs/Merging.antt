-- What an instance that merges may note.
use Rattle.std.specs.Prelude.{◌≡◌, ◌≢◌, ◌<◌, ℕ, false, true, List, [], ◌∷◌, length, Option, Some, None, IfSome, IsSomeAnd}
use Rattle.vx_ends.specs.Observation.{Observation}
use Rattle.vx_status.specs.declared.outcome.Outcome.TheVariants.{Filtered}
use Rattle.vx_record.specs.declared.entry.Entry.{Entry}
use Rattle.vx_record.specs.declared.entry.Entry.TheVariants.{Tick, Answer, Spent, Notice}
use Rattle.vx_record.specs.declared.output.Output.{Output}
use Rattle.vx_record.specs.Records.{Record}
use Rattle.vx_record.specs.Abandoning.{abandoned}
use Rattle.vx_record.specs.Additions.{OnlyAdds}
use Rattle.vx_record.specs.Copies.{count}
use Rattle.vx_record.specs.Inputs.{Input, unanswered, ticks_wait}
use Rattle.vx_record.specs.Owing.{last_discarded}
use Rattle.vx_record.specs.Places.Place.{Held}
use Rattle.vx_record.specs.Shifts.{at}
use Rattle.vx_record.specs.Turns.{is_out, lease_now}
use Rattle.vx_tasks.specs.Joining.{joins_at}
use Rattle.vx_keeping.specs.Kept.{Kept}
use Rattle.vx_ledger.specs.Copies.{Copy, numbers_of}
use Rattle.vx_transform.specs.declared.output.Output.{Output as Made}
use Rattle.vx_keeping.specs.Keeping.{Keeps, HasMade, OwesOnly}
use Rattle.vx_keeping.specs.Answers.{Runs, notes_of, kept_behind}
use Rattle.vx_places.specs.Calls.{HasOutputRoomFor}
use Rattle.vx_record.specs.Answering.{MayFlush}
use Rattle.vx_moves.specs.Keepers.{keeper_at, IsKept, IsKeeper, OneKeeper, StaysFit}
use Rattle.vx_moves.specs.Leaving.{Leaves}
use Rattle.vx_moves.specs.Spends.{IsSpendOf}
use Rattle.vx_moves.specs.Stands.{StandsBy}
use Rattle.vx_moves.specs.declared.engine.EngineState.{EngineState}

-- each keeper but one is that of the record; that one made what these inputs have it put out, which waits for the Answer
pub record AreMade (i : ℕ) (given : List Input) (slots : List (Option Kept)) (h : Record) : Type 0 where
  pub others : (j : ℕ) → j ≢ i → IfSome (keeper_at slots j) (λ k. IsKept k h j)
  pub made : IsSomeAnd (keeper_at slots i) (λ k. HasMade k h i given)

abbrev pub StandsMade : {P : Type 0} → (P → Observation) → ℕ → List Input → EngineState P → Type 0
StandsMade observe i given engine = StandsBy (AreMade i given) observe engine engine.log

-- a keeper is that of the record and fit, but may still have some of what its last answer discarded
pub record IsDiscarding (k : Kept) (h : Record) (i : ℕ) : Type 0 where
  pub keeps : Keeps k h i
  pub fit : k.fit ≡ true
  pub among : (c : ℕ) → 0 < count c (numbers_of k.discarded) → 0 < count c (last_discarded h i)

-- so one is, and each other is that of the record, in a run that goes on
pub record AreDiscarding (i : ℕ) (slots : List (Option Kept)) (h : Record) : Type 0 where
  pub others : (j : ℕ) → j ≢ i → IfSome (keeper_at slots j) (λ k. IsKept k h j)
  pub one : IsSomeAnd (keeper_at slots i) (λ k. IsDiscarding k h i)
  pub unticked : ticks_wait h i ≡ false
  pub going : abandoned h ≡ false

abbrev pub StandsDiscarding : {P : Type 0} → (P → Observation) → ℕ → EngineState P → Type 0
StandsDiscarding observe i engine = StandsBy (AreDiscarding i) observe engine engine.log

-- an instance that merges is out, at that moment, in a run that goes on, and no tick waits for its Answer
pub record MayMerge (h : Record) (i now : ℕ) : Type 0 where
  pub joins : joins_at h i ≡ true
  pub going : abandoned h ≡ false
  pub out : is_out h i ≡ true
  pub moment : now ≡ lease_now h i
  pub unticked : ticks_wait h i ≡ false

-- there is room for the outputs of what its keeper made
abbrev pub HasRoomForMade : {P : Type 0} → ℕ → EngineState P → Type 0
HasRoomForMade i engine = IsKeeper (λ k. HasOutputRoomFor engine.places i (length k.shelf.outputs)) engine.keepers.items i

-- what it made may be noted as its answer: it answers by a rule; to the flush, where nothing can come any more and nothing is kept
pub record MayNoteMade {P : Type 0} (i : ℕ) (engine : EngineState P) : Type 0 where
  pub joins : joins_at engine.log i ≡ true
  pub going : abandoned engine.log ≡ false
  pub out : is_out engine.log i ≡ true
  pub runs : Runs engine.log i
  pub flush : unanswered engine.log i ≡ [] → IsKeeper (λ k. MayFlush engine.log i (kept_behind engine.log i k.shelf.outputs k.discarded)) engine.keepers.items i

-- a Tick of the instance, an Answer, or a spend of what that discarded; or a notice
abbrev pub IsMergeOf : ℕ → Record → Entry → Type 0
IsMergeOf i h (Tick j now) = j ≡ i
IsMergeOf i h (Answer j outputs discarded kept) = j ≡ i
IsMergeOf i h (Spent j c outcome) = (j ≡ i) × (outcome ≡ Filtered)
IsMergeOf i h (Notice b status) = Unit {0}
IsMergeOf i h other = ⊥

-- WHAT IT NOTED
-- the copies that a keeper's next answer discards, or its last one did
abbrev pub discarded_of : Option Kept → List Copy
discarded_of None = []
discarded_of (Some k) = k.discarded

-- the answer of some outputs and discarded copies
abbrev pub answer_of : Record → ℕ → List Made → List Copy → Entry
answer_of h i outputs gone = Answer i (notes_of outputs) (numbers_of gone) (kept_behind h i outputs gone)

-- what its keeper made was noted as its answer
abbrev pub HasNotedMade : ℕ → List (Option Kept) → Record → Record → Type 0
HasNotedMade i slots old new = IsKeeper (λ k. new ≡ answer_of old i k.shelf.outputs k.discarded ∷ old) slots i

-- of what its last answer discarded some was spent, and notices given, and nothing else was done
pub record SpendsDiscarded {P : Type 0} (observe : P → Observation) (i : ℕ) (old new : EngineState P) : Type 0 where
  pub stands : StandsDiscarding observe i new
  pub joins : joins_at new.log i ≡ true
  pub only : OnlyAdds (IsSpendOf i Filtered) old.log new.log
  pub fit : OneKeeper StaysFit i old.keepers.items new.keepers.items
  pub leaves : Leaves old new
  pub size : length new.states ≡ length old.states

-- it noted an answer, and spent all that this discards
pub record HasAnswered (i : ℕ) (old new : Record) : Type 0 where
  pub outputs : List Output
  pub discarded : List ℕ
  pub kept : List ℕ
  pub noted : OnlyAdds (IsSpendOf i Filtered) (Answer i outputs discarded kept ∷ old) new
  pub spent : OwesOnly new i []

-- it noted a tick of a moment, and such an answer behind that
abbrev pub HasTicked : ℕ → ℕ → Record → Record → Type 0
HasTicked i now old new = HasAnswered i (Tick i now ∷ old) new

-- it noted such an answer that keeps nothing, and holds nothing then
pub record HasFlushed (i : ℕ) (old new : Record) : Type 0 where
  pub outputs : List Output
  pub discarded : List ℕ
  pub noted : OnlyAdds (IsSpendOf i Filtered) (Answer i outputs discarded [] ∷ old) new
  pub spent : OwesOnly new i []
  pub none : at new (Held i) ≡ []
