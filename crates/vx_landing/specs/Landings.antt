-- What the notes of a landing leave.
use Rattle.std.specs.Prelude.{◌≡◌, ◌≢◌, ◌<◌, ◌+◌, ◌⊎◌, ◌∷◌, ◌++◌, ◌||◌, if◌then◌else◌, nat_le, take, ℕ, Bool, true, false, List, [], length, Option, Some, None, is_some, IfSome, IsSome, IsSomeAnd, slice_get}
use Rattle.std.specs.List.{list_any}
use Rattle.vx_status.specs.declared.outcome.Outcome.{Outcome}
use Rattle.vx_status.specs.declared.outcome.Outcome.TheVariants.{Delivered, Attempts, Refusal, Filtered}
use Rattle.vx_ends.specs.Observation.{Observation}
use Rattle.vx_ends.specs.declared.trouble.Reply.{Reply}
use Rattle.vx_ends.specs.declared.trouble.Reply.TheVariants.{Ok, Failed, Refused}
use Rattle.vx_record.specs.declared.entry.Entry.{Entry}
use Rattle.vx_record.specs.declared.entry.Entry.TheVariants as entry
use Rattle.vx_record.specs.Abandoning.{abandoned}
use Rattle.vx_record.specs.Additions.{OnlyAdds}
use Rattle.vx_record.specs.Makers.{IsFor}
use Rattle.vx_record.specs.Places.{Place, owner}
use Rattle.vx_record.specs.Places.Place.{Held}
use Rattle.vx_record.specs.Shifts.{at}
use Rattle.vx_places.specs.Views.{parcels_here}
use Rattle.vx_instances.specs.declared.facts.Batching.{Batching}
use Rattle.vx_instances.specs.declared.state.InstanceState.{InstanceState}
use Rattle.vx_ledger.specs.declared.parcel.Parcel.{Parcel}
use Rattle.vx_record.specs.Copies.{joined}
use Rattle.vx_tasks.specs.declared.landing.Landing.{Landing}
use Rattle.vx_record.specs.Confirms.{last_confirm, due}
use Rattle.vx_record.specs.Installs.{device_at, is_closed}
use Rattle.vx_record.specs.SinkBatches.{failures_with, attempts_allowed, oldest_held}
use Rattle.vx_record.specs.Owing.{is_decided, owes_birth, owes_spends_in, owes_discards, owes_answer}
use Rattle.vx_record.specs.Records.{Record}
use Rattle.vx_record.specs.Turns.{is_out, at_lease, since_lease, is_turn_of, is_attempt_of, is_confirm_of}
use Rattle.vx_places.specs.Capacities.{SameCapacities}
use Rattle.vx_sourcecore.specs.declared.source.Cut.{Cut}
use Rattle.vx_sourcecore.specs.declared.source.Turned.{Turned}
use Rattle.vx_moves.specs.Answering.{answer_by}
use Rattle.vx_moves.specs.Creating.{HasCreatedBatch}
use Rattle.vx_sourcecore.specs.Turns.{reading_of}
use Rattle.vx_tasks.specs.declared.confirming.Confirmed.{Confirmed}
use Rattle.vx_tasks.specs.declared.landing.Done.{Done}
use Rattle.vx_tasks.specs.declared.landing.Done.TheVariants as done
use Rattle.vx_tasks.specs.declared.task.Task.{Task}
use Rattle.vx_tasks.specs.Out.{AreDue, IsHeld, ReportsDone, HasActed, IsKeptBy, is_unfit, lacks_cut, leaves_unfit, leaves_taken, turn_entry, confirm_entries}
use Rattle.vx_instances.specs.Calls.{HasTaskBack}
use Rattle.vx_instances.specs.Staying.{OneState, SameFlags}
use Rattle.vx_moves.specs.Returns.{IsReturned}
use Rattle.vx_moves.specs.declared.engine.EngineState.{EngineState}
use Rattle.vx_moves.specs.Leaving.{Leaves, LeavesUnobserved}
use Rattle.vx_moves.specs.Spends.{OnlySpends}
use Rattle.vx_moves.specs.Stands.{Stands, Steps}
use Rattle.vx_ready.specs.Asking.{IsServed}
use Rattle.vx_landing.specs.Standing.{IsWellAt, IsFedAt, IsFed, AwayIsWell, LentWhileOut}

-- an entry of an instance's task was noted, and the rest is as it was
pub record HasNoted {P : Type 0} (observe : P → Observation) (i : ℕ) (e : Entry) (old new : EngineState P) : Type 0 where
  pub steps : Steps observe e old new
  pub only : OnlyAdds (IsFor i) old.log new.log
  pub leaves : Leaves old new

-- the same, but that what the instance counts isn't known any more where its lines weren't told
pub record HasNotedRead {P : Type 0} (observe : P → Observation) (unobserved : Bool) (i : ℕ) (e : Entry) (old new : EngineState P) : Type 0 where
  pub steps : Steps observe e old new
  pub only : OnlyAdds (IsFor i) old.log new.log
  pub leaves : LeavesUnobserved unobserved i old new

-- whether an attempt that fails behind so many is the last that a sink makes
abbrev pub is_last : Option Batching → ℕ → Bool
is_last None failures = true
is_last (Some batching) failures = nat_le batching.retries.attempts failures

-- whether an attempt of all that an instance holds that is answered so decides what becomes of it
abbrev pub decides : Record → ℕ → Reply → Bool
decides h i answer = is_decided answer (failures_with h i (oldest_held h i) + 1) (attempts_allowed h i)

-- what becomes of the copies of an attempt that was answered so, the last that is made
abbrev pub outcome_of : Reply → Outcome
outcome_of Ok = Delivered
outcome_of Failed = Attempts
outcome_of Refused = Refusal

-- an attempt was noted, and where it decides and the run isn't given up, all that the instance holds was spent by its answer
pub record HasSpentBy {P : Type 0} (observe : P → Observation) (i : ℕ) (e : Entry) (answer : Reply) (old new : EngineState P) : Type 0 where
  pub mid : EngineState P
  pub noted : HasNoted observe i e old mid
  pub spent : abandoned old.log ≡ false → decides old.log i answer ≡ true → OnlySpends observe i (outcome_of answer) mid new
  pub over : abandoned old.log ≡ true → new ≡ mid
  pub waits : decides old.log i answer ≡ false → new ≡ mid
  pub none : abandoned old.log ≡ false → decides old.log i answer ≡ true → at new.log (Held i) ≡ []
  pub kept : IsSome (parcels_here new.places (Held i))
  pub stands : Stands observe new
  pub only : OnlyAdds (IsFor i) old.log new.log

-- an answer was noted, and all that it discarded was spent as filtered; or the run is given up, and nothing was noted
pub record HasAnsweredBy {P : Type 0} (observe : P → Observation) (i : ℕ) (ports : List ℕ) (old new : EngineState P) : Type 0 where
  pub mid : EngineState P
  pub noted : abandoned old.log ≡ false → HasNoted observe i (answer_by old.log i ports) old mid
  pub spent : abandoned old.log ≡ false → OnlySpends observe i Filtered mid new
  pub over : abandoned old.log ≡ true → new ≡ old
  pub none : abandoned old.log ≡ false → at new.log (Held i) ≡ []

-- memory was wanting: what came back needn't have returned, and of the one state that is known less
pub record IsMarked {P : Type 0} (observe : P → Observation) (Marks : InstanceState P → InstanceState P → Type 0) (i : ℕ) (old new : EngineState P) : Type 0 where
  pub stands : Stands observe new
  pub log : new.log ≡ old.log
  pub places : new.places ≡ old.places
  pub run : new.run ≡ record old.run { out_of_memory = true }
  pub states : OneState Marks i old.states new.states

-- the last confirm of an instance with a port names what was due when it was leased, but where no memory was found to confirm that
abbrev pub IsAnswered : Record → ℕ → Done → Type 0
IsAnswered h i done.OutOfMemory = Unit {0}
IsAnswered h i outcome = device_at h i ≡ true → last_confirm h i ≡ due (at_lease h i) i

-- whether an instance owes anything but an answer
abbrev pub owes_entries : Record → ℕ → Bool
owes_entries h i = owes_birth h i || owes_spends_in h h i || owes_discards h i

-- a task that comes back, once its confirm was noted: its port tells what the record will have behind what was done, which is still
-- to be noted
pub record IsBackWith {P : Type 0} (observe : P → Observation) (engine : EngineState P) (i : ℕ) (task : Task P) (outcome : Done) : Type 0 where
  pub out : is_out engine.log i ≡ true
  pub no_turn : list_any (is_turn_of i) (since_lease engine.log i) ≡ false
  pub no_attempt : list_any (is_attempt_of i) (since_lease engine.log i) ≡ false
  pub unclosed : is_closed engine.log i ≡ false
  pub settled : owes_entries engine.log i ≡ false
  pub untaken : leaves_taken outcome ≡ false → owes_answer engine.log i ≡ false
  pub answered : IsAnswered engine.log i outcome
  pub parcels : List Parcel
  pub held : IsHeld engine.log i parcels
  pub observed : ReportsDone (observe task.port) engine.log i parcels outcome
  pub acted : HasActed (observe task.port) engine.log i task.role outcome
  pub remembers : IsKeptBy engine.log i task.role outcome
  pub fit : is_unfit task.role ≡ leaves_unfit outcome
  pub kept : IsSome (parcels_here engine.places (Held i))
  pub well : IfSome (slice_get engine.states i) IsWellAt

-- what isn't known any more of the states is as it was, but of one
abbrev pub OthersStay : {P : Type 0} → ℕ → List (InstanceState P) → List (InstanceState P) → Type 0
OthersStay i old new = (j : ℕ) → j ≢ i → IfSome (slice_get new j) (λ is. IsSomeAnd (slice_get old j) (λ was. SameFlags was is))

-- what a landing leaves beside the record
pub record LandsOn {P : Type 0} (i : ℕ) (old new : EngineState P) : Type 0 where
  pub size : length new.states ≡ length old.states
  pub capacities : SameCapacities old.places new.places
  pub run : new.run ≡ record old.run { out_of_memory = new.run.out_of_memory }
  pub short : old.run.out_of_memory ≡ true → new.run.out_of_memory ≡ true
  pub others : OthersStay i old.states new.states
  pub fed : new.run.out_of_memory ≡ false → IfSome (slice_get new.states i) IsFedAt

-- what was done was noted, and the task can come back
pub record HasLanded {P : Type 0} (observe : P → Observation) (i : ℕ) (task : Task P) (old new : EngineState P) : Type 0 where
  pub stands : Stands observe new
  pub only : OnlyAdds (IsFor i) old.log new.log
  pub leaves : LandsOn i old new
  pub out : is_out new.log i ≡ true
  pub kept : IsSome (parcels_here new.places (Held i))
  pub back : HasTaskBack observe new.states new.log i task
  pub returned : new.run.out_of_memory ≡ false → IsReturned new.log i

-- all is well with the instance still
pub record IsWellLanded {P : Type 0} (i : ℕ) (old new : EngineState P) : Type 0 where
  pub fed : new.run.out_of_memory ≡ old.run.out_of_memory
  pub state : IfSome (slice_get new.states i) IsWellAt

-- a confirm may be noted, if there is one: it names what was due when the instance was leased, and is the first since then
pub record IsConfirmable (h : Record) (i : ℕ) (confirmed : Option Confirmed) : Type 0 where
  pub out : is_out h i ≡ true
  pub once : list_any (is_confirm_of i) (since_lease h i) ≡ false
  pub due : IfSome confirmed (λ c. AreDue h i (Some c.positions))

-- whether a turn took something, or told an end
abbrev pub is_reading : Turned → Bool
is_reading turned = is_some (reading_of turned)

-- the batch of what was cut was born, or there was none to create: it has no event, or the run is given up
abbrev pub HasCreatedCutBatch : {P : Type 0} → (P → Observation) → ℕ → ℕ → Cut → EngineState P → EngineState P → Type 0
HasCreatedCutBatch observe i stream cut old new =
    (((cut.events ≡ []) ⊎ (abandoned old.log ≡ true)) × (new ≡ old)) ⊎ ((0 < length cut.events) × HasCreatedBatch observe i (record { stream = stream; end = cut.end }) cut.events old new)

-- what one of the states owes isn't known any more
pub record Owes {P : Type 0} (was is : InstanceState P) : Type 0 where
  pub owing : is.facts.owing ≡ true
  pub counted : is.facts.behind ≡ was.facts.behind
  pub fed : is.facts.starved ≡ was.facts.starved

pub record IsOwingNow {P : Type 0} (i : ℕ) (old new : List (InstanceState P)) : Type 0 where
  pub one : IsSomeAnd (slice_get old i) (λ was. IsSomeAnd (slice_get new i) (λ is. Owes was is))
  pub others : OthersStay i old new

-- nothing stands at an instance, and its port, if it has one, is closed for good
pub record IsGivenUp (h : Record) (i : ℕ) : Type 0 where
  pub bare : (p : Place) → owner p ≡ i → at h p ≡ []
  pub closed : device_at h i ≡ true → is_closed h i ≡ true

-- an instance came back: the engine's state stands, and what is out, what is lent and what isn't known of the states is what it was but for it
pub record HasComeBack {P : Type 0} (observe : P → Observation) (i : ℕ) (old new : EngineState P) : Type 0 where
  pub stands : Stands observe new
  pub served : IsServed new
  pub size : length new.states ≡ length old.states
  pub only : OnlyAdds (IsFor i) old.log new.log
  pub run : new.run ≡ record old.run { out_of_memory = new.run.out_of_memory }
  pub short : old.run.out_of_memory ≡ true → new.run.out_of_memory ≡ true
  pub unleased : is_out new.log i ≡ false
  pub over : abandoned old.log ≡ true → IsGivenUp new.log i
  pub lent : LentWhileOut new
  pub away : AwayIsWell new
  pub fed : IsFed old → IsFed new

-- an instance has the task as it came
abbrev pub HasTask : {P : Type 0} → List (InstanceState P) → ℕ → Task P → Type 0
HasTask states i task = IsSomeAnd (slice_get states i) (λ state. state.task ≡ Some task)

-- the entries that tell what was done: those that went through the port, an answer, but where that can't be noted, and the port's
-- close
abbrev pub done_entries : Bool → Record → ℕ → Done → List Entry
done_entries unanswered h i done.Nothing = []
done_entries unanswered h i (done.Read took) = turn_entry h i took ∷ []
done_entries unanswered h i (done.Attempted all sent answer) = entry.Attempt i (joined (at h (Held i))) (take sent all.value) answer ∷ []
done_entries unanswered h i (done.Judged ports) = if unanswered then [] else answer_by h i ports ∷ []
done_entries unanswered h i done.Closed = entry.Closed i ∷ []
done_entries unanswered h i done.OutOfMemory = []
done_entries unanswered h i done.Starved = []

-- with the entry of the confirm before it, they stand on a record
abbrev pub observed_on : {P : Type 0} → Bool → Landing P → Record → Record
observed_on unanswered landing h =
    let i = landing.instance in
    let before = confirm_entries i landing.confirmed ++ h in
    done_entries unanswered before i landing.done ++ before

-- what comes behind that: the birth of what was read, spends of the instance's copies, notices, the return, and where the run is
-- given up the close of its port
abbrev pub ComesBehind : ℕ → Record → Entry → Type 0
ComesBehind i h (entry.Born j b place copies events waits stream end) = j ≡ i
ComesBehind i h (entry.Spent j c outcome) = j ≡ i
ComesBehind i h (entry.Notice b status) = Unit {0}
ComesBehind i h (entry.Home j) = j ≡ i
ComesBehind i h (entry.Closed j) = (j ≡ i) × (abandoned h ≡ true)
ComesBehind i h other = ⊥

-- a landing was noted as it was, and nothing else; what was judged isn't answered where the run is given up, or no memory was found
-- for what is put out
abbrev pub IsNotedSo : {P : Type 0} → Bool → Landing P → Record → Record → Type 0
IsNotedSo unanswered landing old new = OnlyAdds (ComesBehind landing.instance) (observed_on unanswered landing old) new

-- whether a landing carries want of memory: for its confirm or its work, or for what was read
abbrev pub wants_memory : Done → Bool
wants_memory done.Nothing = false
wants_memory (done.Read took) = lacks_cut took
wants_memory (done.Attempted all sent answer) = false
wants_memory (done.Judged ports) = false
wants_memory done.Closed = false
wants_memory done.OutOfMemory = true
wants_memory done.Starved = true
