-- What a lease rests on, and what it leaves out.
use Rattle.std.specs.Prelude.{◌≡◌, ◌<◌, ◌⊎◌, ◌∷◌, ℕ, Bool, true, false, length, None, IsSome}
use Rattle.vx_ends.specs.Observation.{Observation}
use Rattle.vx_record.specs.declared.entry.Entry.TheVariants.{Lease}
use Rattle.vx_record.specs.Additions.{OnlyAdds}
use Rattle.vx_record.specs.Makers.{IsBy}
use Rattle.vx_record.specs.Places.Place.{Held}
use Rattle.vx_plan.specs.declared.class.Class.{Class}
use Rattle.vx_plan.specs.declared.class.Class.TheVariants.{Source, Transform, Sink}
use Rattle.vx_places.specs.Marks.{IsUnfilled}
use Rattle.vx_places.specs.Views.{parcels_here}
use Rattle.vx_tasks.specs.declared.work.Job.TheVariants as job
use Rattle.vx_tasks.specs.declared.work.Work.{Work}
use Rattle.vx_tasks.specs.Joining.{joins_at}
use Rattle.vx_tasks.specs.Out.{MayReadNow, MayCloseNow, IsGiven, HasLeft}
use Rattle.vx_moves.specs.Leaving.{Leaves}
use Rattle.vx_moves.specs.Capacities.{IsHeldLimitOf}
use Rattle.vx_moves.specs.Stands.{Stands}
use Rattle.vx_record.specs.Installs.{started, source_at, transform_at, sink_at}
use Rattle.vx_record.specs.Ceasing.{cause_of}
use Rattle.vx_record.specs.Records.{Record}
use Rattle.vx_record.specs.Lists.{buffered}
use Rattle.vx_record.specs.Owing.{owes_discards, owes_answer}
use Rattle.vx_record.specs.Ready.{is_ready}
use Rattle.vx_value.specs.Texts.{is_empty}
use Rattle.vx_record.specs.SinkBatches.{is_batch_closed}
use Rattle.vx_record.specs.Turns.{is_out, since_lease}
use Rattle.vx_moves.specs.declared.engine.EngineState.{EngineState}
use Rattle.vx_ready.specs.Asking.{IsServed, IsSettled, IsOpen}
use Rattle.vx_ready.specs.Jobs.{IsJob, IsLeasable}
use Rattle.vx_tasks.specs.declared.work.Job.{Job}
use Rattle.vx_landing.specs.Landings.{HasTask}
use Rattle.vx_hub.specs.Standing.{IsWell, LentWhileOut, OthersKeep}
use Rattle.vx_hub.specs.Collecting.{IsCollecting, IsGathering, IsTakeOf}

-- an instance that doesn't merge may be leased at a moment, and has this to do
pub record IsReadyFor {P : Type 0} (engine : EngineState P) (now i : ℕ) (job : Job) : Type 0 where
  pub within : i < length engine.states
  pub works : IsJob engine.log i now job
  pub leasable : IsLeasable engine i now
  pub settled : IsSettled engine i
  pub alone : joins_at engine.log i ≡ false

-- an unleased instance that owes nothing, that doesn't merge, and whose port isn't closed, has nothing to do
abbrev pub NoneFoundAt : {P : Type 0} → EngineState P → ℕ → ℕ → Type 0
NoneFoundAt engine now i = IsSettled engine i → IsOpen engine i → joins_at engine.log i ≡ false → is_ready engine.log i now ≡ false

-- no instance of a class below a number has
abbrev pub NoneFound : {P : Type 0} → (Record → ℕ → Bool) → EngineState P → ℕ → ℕ → Type 0
NoneFound is_of engine now n = (i : ℕ) → i < n → is_of engine.log i ≡ true → NoneFoundAt engine now i

-- each instance below a number that is of a class was asked, or it has nothing in its buffer and holds nothing
abbrev pub NoneFilled : {P : Type 0} → (Record → ℕ → Bool) → EngineState P → ℕ → ℕ → Type 0
NoneFilled is_of engine now n = (i : ℕ) → i < n → IsUnfilled engine.places i ⊎ (is_of engine.log i ≡ true → NoneFoundAt engine now i)

-- the test of a class
abbrev pub class_test : Class → Record → ℕ → Bool
class_test Source = source_at
class_test Transform = transform_at
class_test Sink = sink_at

-- an unleased sink has something to do at a moment
pub record HasReadySink {P : Type 0} (engine : EngineState P) (now : ℕ) : Type 0 where
  pub sink : ℕ
  pub todo : Job
  pub is : sink_at engine.log sink ≡ true
  pub ready : IsReadyFor engine now sink todo

-- an instance goes first: a sink before a transform, and both before a source
pub record GoesFirst {P : Type 0} (engine : EngineState P) (now i : ℕ) : Type 0 where
  pub sinks : sink_at engine.log i ≡ false → NoneFound sink_at engine now (length engine.states)
  pub transforms : source_at engine.log i ≡ true → NoneFound transform_at engine now (length engine.states)

-- no unleased instance that doesn't merge has anything to do, in a run that wasn't given up and where memory was never wanting
abbrev pub NoneReady : {P : Type 0} → EngineState P → ℕ → Type 0
NoneReady engine now =
    IsWell engine → engine.run.abandoned ≡ None → (i : ℕ) → i < length engine.states → is_out engine.log i ≡ false → joins_at engine.log i ≡ false →
    is_ready engine.log i now ≡ false

-- no unleased instance that doesn't merge has work at a moment, in a run that wasn't given up
abbrev pub NoneHasWork : Record → ℕ → Type 0
NoneHasWork h now = cause_of h ≡ None → (i : ℕ) → i < length (started h) → is_out h i ≡ false → joins_at h i ≡ false → is_ready h i now ≡ false

-- whether a job is a sink's that takes before it leaves
abbrev pub takes_first : Job → Bool
takes_first job.Read = false
takes_first job.Confirm = false
takes_first job.Collect = true
takes_first job.Attempt = true
takes_first job.Close = false
takes_first job.Judge = false

-- what a job comes to once what there was to take was taken: a sink attempts its batch or takes more, and any other job stays
abbrev pub ComesTo : Job → Job → Type 0
ComesTo job.Collect todo = takes_first todo ≡ true
ComesTo job.Attempt todo = takes_first todo ≡ true
ComesTo asked todo = todo ≡ asked

-- a sink goes on taking only where its batch, with all that it took, isn't closed at a moment
abbrev pub IsUnclosed : Record → ℕ → ℕ → Job → Type 0
IsUnclosed h i now todo = todo ≡ job.Collect → is_batch_closed h i now ≡ false

-- an instance had something to do at a moment, and this is what that came to
pub record HadWork (h : Record) (now i : ℕ) (todo : Job) : Type 0 where
  pub asked : Job
  pub works : IsJob h i now asked
  pub comes : ComesTo asked todo

-- what a job rests on as soon as its instance was leased
abbrev pub MayGather : {P : Type 0} → EngineState P → ℕ → ℕ → Job → Type 0
MayGather engine i now job.Read = MayReadNow engine.log i
MayGather engine i now job.Confirm = Unit {0}
MayGather engine i now job.Collect = IsCollecting engine i now 0
MayGather engine i now job.Attempt = IsCollecting engine i now 0
MayGather engine i now job.Close = MayCloseNow engine.log i
MayGather engine i now job.Judge = (length (since_lease engine.log i) ≡ 0) × (IsGathering engine i now × (is_empty (buffered engine.log i) ≡ false))

-- what there was to take was taken, and the job is what is to be done then
pub record HasGathered {P : Type 0} (observe : P → Observation) (i : ℕ) (old new : EngineState P) (todo : Job) : Type 0 where
  pub stands : Stands observe new
  pub served : IsServed new
  pub given : IsGiven new.log i todo
  pub settled : owes_discards new.log i ≡ false
  pub untaken : (todo ≡ job.Judge → ⊥) → owes_answer new.log i ≡ false
  pub kept : IsSome (parcels_here new.places (Held i))
  pub only : OnlyAdds (IsTakeOf i) old.log new.log
  pub leaves : Leaves old new
  pub size : length new.states ≡ length old.states

-- an instance was leased to a worker at a moment, and behind that it took, and nothing else was noted
abbrev pub HasLeased : ℕ → ℕ → ℕ → Record → Record → Type 0
HasLeased i worker now old new = OnlyAdds (IsTakeOf i) (Lease i worker now 0 ∷ old) new

-- the task of an instance that had work was handed out
pub record HasHandedOut {P : Type 0} (observe : P → Observation) (i worker now : ℕ) (old new : EngineState P) (work : Work P) : Type 0 where
  pub stands : Stands observe new
  pub served : IsServed new
  pub lent : LentWhileOut new
  pub well : IsWell new
  pub size : length new.states ≡ length old.states
  pub instance_is : work.instance ≡ i
  pub worker_is : work.worker ≡ worker
  pub left : HasLeft observe new.log work
  pub room : IsHeldLimitOf new.log i work.held.room
  pub only : OnlyAdds (IsBy worker) old.log new.log
  pub noted : HasLeased i worker now old.log new.log
  pub latest : new.run.latest ≡ now
  pub plan : new.run.plan ≡ old.run.plan
  pub had : HasTask old.states work.instance work.task
  pub others : OthersKeep work.instance old.states new.states
