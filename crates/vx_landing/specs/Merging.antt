-- An instance that merges is leased, does what there is to do, and is unleased again.
use Rattle.std.specs.Prelude.{◌≡◌, ◌≢◌, ◌<◌, ◌+◌, ◌∷◌, ℕ, true, false, [], length, IfSome, slice_get}
use Rattle.std.specs.List.{list_all}
use Rattle.vx_ends.specs.Observation.{Observation}
use Rattle.vx_status.specs.declared.outcome.Outcome.TheVariants.{Filtered}
use Rattle.vx_record.specs.declared.entry.Entry.{Entry}
use Rattle.vx_record.specs.declared.entry.Entry.TheVariants as entry
use Rattle.vx_record.specs.Abandoning.{abandoned}
use Rattle.vx_record.specs.Additions.{OnlyAdds}
use Rattle.vx_record.specs.Inputs.{unanswered}
use Rattle.vx_record.specs.Makers.{IsBy, IsFor}
use Rattle.vx_record.specs.Owing.{owes_discards}
use Rattle.vx_record.specs.Places.Place.{Held}
use Rattle.vx_record.specs.Records.{Record}
use Rattle.vx_record.specs.Shifts.{at}
use Rattle.vx_record.specs.Turns.{is_out, is_take_of, lease_now, since_lease}
use Rattle.vx_places.specs.Capacities.{SameCapacities}
use Rattle.vx_instances.specs.declared.state.InstanceState.{InstanceState}
use Rattle.vx_instances.specs.Staying.{EachState, SameFlags}
use Rattle.vx_tasks.specs.Joining.{joins_at}
use Rattle.vx_moves.specs.declared.engine.EngineState.{EngineState}
use Rattle.vx_moves.specs.Leaving.{Leaves}
use Rattle.vx_moves.specs.Stands.{Stands}
use Rattle.vx_ready.specs.Asking.{IsServed}
use Rattle.vx_landing.specs.Landings.{OthersStay}
use Rattle.vx_landing.specs.Standing.{AwayIsWell, IsFed, IsFedAt, LentWhileOut}

-- what an instance does that merges and is out: it takes, acts by itself, answers, and spends what that discards; or a notice
abbrev pub IsMergeStep : ℕ → Record → Entry → Type 0
IsMergeStep i h (entry.Take j stage copies) = j ≡ i
IsMergeStep i h (entry.Tick j now) = j ≡ i
IsMergeStep i h (entry.Answer j outputs discarded kept) = j ≡ i
IsMergeStep i h (entry.Spent j c outcome) = (j ≡ i) × (outcome ≡ Filtered)
IsMergeStep i h (entry.Notice b status) = Unit {0}
IsMergeStep i h other = ⊥

-- and then it comes back
abbrev pub ComesMerged : ℕ → Record → Entry → Type 0
ComesMerged i h (entry.Home j) = j ≡ i
ComesMerged i h e = IsMergeStep i h e

-- a worker made the entry; or it is a notice, which nobody makes
abbrev pub IsByOrNotice : ℕ → Record → Entry → Type 0
IsByOrNotice worker h (entry.Notice b status) = Unit {0}
IsByOrNotice worker h e = IsBy worker h e

-- WHILE IT IS OUT
-- it is out since a moment, in a run that goes on
pub record IsMerging (h : Record) (i now : ℕ) : Type 0 where
  pub joins : joins_at h i ≡ true
  pub going : abandoned h ≡ false
  pub out : is_out h i ≡ true
  pub moment : now ≡ lease_now h i

-- it is so, did nothing but take, and owes nothing of what it discarded
pub record IsTaking (h : Record) (i now : ℕ) : Type 0 where
  pub joins : joins_at h i ≡ true
  pub going : abandoned h ≡ false
  pub out : is_out h i ≡ true
  pub moment : now ≡ lease_now h i
  pub only_takes : list_all (is_take_of i) (since_lease h i) ≡ true
  pub spent : owes_discards h i ≡ false

-- it was given something that it hasn't answered, and holds something
pub record HasInputs (h : Record) (i : ℕ) : Type 0 where
  pub given : unanswered h i ≢ []
  pub holds : at h (Held i) ≢ []

-- it took one more
pub record HasTakenOne {P : Type 0} (observe : P → Observation) (i now : ℕ) (old new : EngineState P) : Type 0 where
  pub stands : Stands observe new
  pub taking : IsTaking new.log i now
  pub one : length (since_lease new.log i) ≡ length (since_lease old.log i) + 1
  pub inputs : HasInputs new.log i
  pub only : OnlyAdds (IsMergeStep i) old.log new.log
  pub leaves : Leaves old new
  pub size : length new.states ≡ length old.states

-- it took so many since its lease
pub record HasTakenSome {P : Type 0} (observe : P → Observation) (i now taken : ℕ) (old new : EngineState P) : Type 0 where
  pub stands : Stands observe new
  pub taking : IsTaking new.log i now
  pub many : length (since_lease new.log i) ≡ taken
  pub some : 0 < taken → HasInputs new.log i
  pub none : taken ≡ 0 → new ≡ old
  pub only : OnlyAdds (IsMergeStep i) old.log new.log
  pub leaves : Leaves old new
  pub size : length new.states ≡ length old.states

-- WHAT IT LEAVES
-- a state has the task that it had, or still none
abbrev pub HasSameTask : {P : Type 0} → InstanceState P → InstanceState P → Type 0
HasSameTask was is = is.task ≡ was.task

-- what an instance did that is out: the tasks are where they were, and of the others is known what was known
pub record HasWorked {P : Type 0} (observe : P → Observation) (i : ℕ) (old new : EngineState P) : Type 0 where
  pub stands : Stands observe new
  pub only : OnlyAdds (IsMergeStep i) old.log new.log
  pub size : length new.states ≡ length old.states
  pub capacities : SameCapacities old.places new.places
  pub run : new.run ≡ old.run
  pub tasks : EachState HasSameTask old.states new.states
  pub others : OthersStay i old.states new.states
  pub fed : IfSome (slice_get old.states i) IsFedAt → IfSome (slice_get new.states i) IsFedAt

-- it answered all that it was given, and spent what it discarded, and of each instance is known what was known
pub record HasWorkedWell {P : Type 0} (i : ℕ) (old new : EngineState P) : Type 0 where
  pub answered : unanswered new.log i ≡ []
  pub spent : owes_discards new.log i ≡ false
  pub flags : EachState SameFlags old.states new.states

-- an instance was leased to a worker at a moment, did what there was to do, and is unleased with its task; what is out, what is lent
-- and what isn't known of the states is what it was but for it
pub record HasMerged {P : Type 0} (observe : P → Observation) (i worker now : ℕ) (old new : EngineState P) : Type 0 where
  pub stands : Stands observe new
  pub served : IsServed new
  pub size : length new.states ≡ length old.states
  pub run : new.run ≡ record old.run { latest = now }
  pub unleased : is_out new.log i ≡ false
  pub noted : OnlyAdds (ComesMerged i) (entry.Lease i worker now 0 ∷ old.log) new.log
  pub only : OnlyAdds (IsFor i) old.log new.log
  pub made : OnlyAdds (IsByOrNotice worker) old.log new.log
  pub lent : LentWhileOut new
  pub away : AwayIsWell new
  pub fed : IsFed old → IsFed new
  pub tasks : EachState HasSameTask old.states new.states
