-- How a run ends.
use Rattle.std.specs.Prelude.{◌≡◌, ◌<◌, ℕ, true, false, [], length, IsSome, IsSomeAnd, slice_get}
use Rattle.vx_ends.specs.Observation.{Observation}
use Rattle.vx_status.specs.declared.outcome.Outcome.TheVariants.{Abandoned}
use Rattle.vx_record.specs.declared.abandon_cause.AbandonCause.{AbandonCause}
use Rattle.vx_record.specs.declared.entry.Entry.{Entry}
use Rattle.vx_record.specs.declared.entry.Entry.TheVariants.{Spent, Notice, Closed, Abandon}
use Rattle.vx_record.specs.Records.{Record}
use Rattle.vx_record.specs.Additions.{OnlyAdds}
use Rattle.vx_record.specs.Ending.{MayRetire}
use Rattle.vx_record.specs.Installs.{started, device_at, is_closed, is_retired}
use Rattle.vx_record.specs.Places.{Place}
use Rattle.vx_record.specs.Shifts.{at}
use Rattle.vx_record.specs.Turns.{is_out}
use Rattle.vx_places.specs.Capacities.{SameCapacities}
pub use Rattle.vx_landing.specs.Landings.{IsGivenUp}
use Rattle.vx_instances.specs.Staying.{EachState, SameFlags}
use Rattle.vx_moves.specs.declared.engine.EngineState.{EngineState}
use Rattle.vx_moves.specs.Stands.{Stands}

-- each instance ended
abbrev pub IsOver : Record → Type 0
IsOver h = (i : ℕ) → i < length (started h) → is_retired h i ≡ true

-- none may end
abbrev pub NoneRetires : Record → Type 0
NoneRetires h = (i : ℕ) → i < length (started h) → MayRetire h i → ⊥

-- the task of an instance is unleased, its port, if it has one, is closed for good, and it hasn't ended
pub record IsClosing {P : Type 0} (engine : EngineState P) (i : ℕ) : Type 0 where
  pub unleased : IsSomeAnd (slice_get engine.states i) (λ state. IsSome state.task)
  pub closed : device_at engine.log i ≡ true → is_closed engine.log i ≡ true
  pub unretired : is_retired engine.log i ≡ false

-- an entry gives up what stands at an instance that is unleased: a spend of a copy as abandoned, a notice, or that its port is
-- closed for good
abbrev pub GivesUpOf : ℕ → Record → Entry → Type 0
GivesUpOf i h (Spent j c outcome) = (j ≡ i) × (is_out h j ≡ false) × (outcome ≡ Abandoned)
GivesUpOf i h (Notice b status) = Unit {0}
GivesUpOf i h (Closed j) = (j ≡ i) × (is_out h j ≡ false)
GivesUpOf i h other = ⊥

-- of any unleased instance, or says that the run is given up for a cause
abbrev pub GivesUp : AbandonCause → Record → Entry → Type 0
GivesUp cause h (Spent j c outcome) = (is_out h j ≡ false) × (outcome ≡ Abandoned)
GivesUp cause h (Notice b status) = Unit {0}
GivesUp cause h (Closed j) = is_out h j ≡ false
GivesUp cause h (Abandon other) = other ≡ cause
GivesUp cause h other = ⊥

-- each that is unleased is given up
abbrev pub AreGivenUp : Record → Type 0
AreGivenUp h = (i : ℕ) → i < length (started h) → is_out h i ≡ false → IsGivenUp h i

-- what isn't known any more of the states, the capacities and who is lent one, the plan, whether memory was wanting, the latest
-- moment, and who is out are as they were
pub record Rests {P : Type 0} (old new : EngineState P) : Type 0 where
  pub flags : EachState SameFlags old.states new.states
  pub size : length new.states ≡ length old.states
  pub capacities : SameCapacities old.places new.places
  pub plan : new.run.plan ≡ old.run.plan
  pub short : new.run.out_of_memory ≡ old.run.out_of_memory
  pub latest : new.run.latest ≡ old.run.latest
  pub out : (i : ℕ) → is_out new.log i ≡ is_out old.log i

-- the port of an instance, if it has one, is closed for good, and no parcel was moved
pub record ClosesDown {P : Type 0} (observe : P → Observation) (i : ℕ) (old new : EngineState P) : Type 0 where
  pub stands : Stands observe new
  pub rests : Rests old new
  pub only : OnlyAdds (GivesUpOf i) old.log new.log
  pub closed : device_at new.log i ≡ true → is_closed new.log i ≡ true
  pub still : (p : Place) → at new.log p ≡ at old.log p

-- an instance is given up if it is unleased; a place that had no parcel still has none
pub record GivesUpAt {P : Type 0} (observe : P → Observation) (i : ℕ) (old new : EngineState P) : Type 0 where
  pub stands : Stands observe new
  pub rests : Rests old new
  pub only : OnlyAdds (GivesUpOf i) old.log new.log
  pub up : is_out old.log i ≡ false → IsGivenUp new.log i
  pub empty : (p : Place) → at old.log p ≡ [] → at new.log p ≡ []

-- each instance below a number was given up that was unleased, and of others nothing was
pub record GivesUpBelow {P : Type 0} (observe : P → Observation) (n : ℕ) (old new : EngineState P) : Type 0 where
  pub stands : Stands observe new
  pub rests : Rests old new
  pub only : (cause : AbandonCause) → OnlyAdds (GivesUp cause) old.log new.log
  pub up : (i : ℕ) → i < n → is_out old.log i ≡ false → IsGivenUp new.log i
