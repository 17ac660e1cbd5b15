-- What comes of a job, whatever the record has.
use Rattle.std.specs.Prelude.{◌≡◌, ◌≤◌, Bool, true, false, List, [], Option, IsSome, IsNone}
use Rattle.vx_ends.specs.Observation.{Observation, Counts}
use Rattle.vx_ends.specs.declared.position.Position.{Position}
use Rattle.vx_ends.specs.declared.trouble.Reply.TheVariants as reply
use Rattle.vx_plan.specs.declared.settings.Settings.{Settings}
use Rattle.vx_pick.specs.Picks.{Picks}
use Rattle.vx_sourcecore.specs.Turns.{ShowsTurn}
use Rattle.vx_sourcecore.specs.Generators.{IsMade}
use Rattle.vx_tasks.specs.declared.confirming.Confirmed.{Confirmed}
use Rattle.vx_tasks.specs.declared.landing.Done.{Done}
use Rattle.vx_tasks.specs.declared.landing.Done.TheVariants as done
use Rattle.vx_tasks.specs.declared.task.Role.{Role}
use Rattle.vx_tasks.specs.declared.task.Role.TheVariants as role
use Rattle.vx_tasks.specs.declared.work.Job.{Job}
use Rattle.vx_tasks.specs.declared.work.Job.TheVariants as job
use Rattle.vx_tasks.specs.Attempts.{RepliesBy}

-- what was done is the job: a source reads, be it its port or the lines that it makes, a sink writes, a black hole takes all and
-- sends nothing, a transform judges, and each closes. Nothing is done only where there is nothing to do, or another could. Memory can be wanting only
-- for a read, an attempt or a judgement
abbrev pub DoesJob : Job → Role → Done → Type 0
DoesJob job.Read (role.Source core) (done.Read turned) = Unit {0}
DoesJob job.Read (role.Source core) done.OutOfMemory = Unit {0}
DoesJob job.Read (role.Generator generator) (done.Read turned) = IsMade turned
DoesJob job.Read (role.Generator generator) done.OutOfMemory = Unit {0}
DoesJob job.Read (role.Sink codec) done.Nothing = Unit {0}
DoesJob job.Read role.Blackhole done.Nothing = Unit {0}
DoesJob job.Read (role.Transform picker) done.Nothing = Unit {0}
DoesJob job.Read role.Merge done.Nothing = Unit {0}
DoesJob job.Read role.Unfit done.Nothing = Unit {0}
DoesJob job.Attempt (role.Sink codec) (done.Attempted all sent answer) = Unit {0}
DoesJob job.Attempt (role.Sink codec) done.OutOfMemory = Unit {0}
DoesJob job.Attempt (role.Sink codec) done.Starved = Unit {0}
DoesJob job.Attempt role.Blackhole (done.Attempted all sent answer) = (all.value ≡ []) × (answer ≡ reply.Ok)
DoesJob job.Attempt (role.Source core) done.Nothing = Unit {0}
DoesJob job.Attempt (role.Generator generator) done.Nothing = Unit {0}
DoesJob job.Attempt (role.Transform picker) done.Nothing = Unit {0}
DoesJob job.Attempt role.Merge done.Nothing = Unit {0}
DoesJob job.Attempt role.Unfit done.Nothing = Unit {0}
DoesJob job.Judge (role.Transform picker) (done.Judged ports) = Unit {0}
DoesJob job.Judge (role.Transform picker) done.OutOfMemory = Unit {0}
DoesJob job.Judge (role.Source core) done.Nothing = Unit {0}
DoesJob job.Judge (role.Generator generator) done.Nothing = Unit {0}
DoesJob job.Judge (role.Sink codec) done.Nothing = Unit {0}
DoesJob job.Judge role.Blackhole done.Nothing = Unit {0}
DoesJob job.Judge role.Merge done.Nothing = Unit {0}
DoesJob job.Judge role.Unfit done.Nothing = Unit {0}
DoesJob job.Close does done.Closed = Unit {0}
DoesJob job.Confirm does done.Nothing = Unit {0}
DoesJob job.Collect does done.Nothing = Unit {0}
DoesJob wanted does other = ⊥

-- no memory was found to confirm, and nothing was done
abbrev pub LacksConfirm : Option (List Position) → Option Confirmed → Done → Type 0
LacksConfirm positions confirmed outcome = IsSome positions × IsNone confirmed × (outcome ≡ done.OutOfMemory)

-- a fact that holds behind each job but a read, and one for which no memory was found
abbrev pub ButForRead : Done → Type 0 → Type 0
ButForRead (done.Read turned) fact = Unit {0}
ButForRead done.OutOfMemory fact = Unit {0}
ButForRead other fact = fact

-- and one that holds behind each but a judgement, and one for which no memory was found
abbrev pub ButForJudgement : Done → Type 0 → Type 0
ButForJudgement (done.Judged ports) fact = Unit {0}
ButForJudgement done.OutOfMemory fact = Unit {0}
ButForJudgement other fact = fact

-- who reads goes on reading, and is changed by that alone, who writes by a codec goes on writing by it, and who picks goes on picking by
-- the same settings, and is changed by judging alone; only a read can leave a source of no use
abbrev pub KeepsRole : Role → Role → Done → Type 0
KeepsRole (role.Source core) (role.Source next) outcome = ButForRead outcome (next ≡ core)
KeepsRole (role.Source core) role.Unfit (done.Read turned) = Unit {0}
KeepsRole (role.Generator generator) (role.Generator next) outcome = ButForRead outcome (next ≡ generator)
KeepsRole (role.Generator generator) role.Unfit (done.Read turned) = Unit {0}
KeepsRole (role.Sink codec) (role.Sink next) outcome = next ≡ codec
KeepsRole role.Blackhole role.Blackhole outcome = Unit {0}
KeepsRole (role.Transform picker) (role.Transform next) outcome =
    ((settings : Settings) → Picks settings picker → Picks settings next) × ButForJudgement outcome (next ≡ picker)
KeepsRole role.Merge role.Merge outcome = Unit {0}
KeepsRole role.Unfit role.Unfit outcome = Unit {0}
KeepsRole was now outcome = ⊥

-- none of these counts of a port fell
pub record NoneFell (old new : Observation) : Type 0 where
  pub faults : old.faults ≤ new.faults
  pub refusals : old.refusals ≤ new.refusals
  pub idles : old.idles ≤ new.idles
  pub finishes : old.finishes ≤ new.finishes
  pub confirms : old.confirms ≤ new.confirms

-- a port wasn't started, as far as its count tells
pub record StartsNone (old new : Observation) : Type 0 where
  pub starts : Counts old.exact old.starts new.starts false
  pub exact : new.exact ≡ old.exact

-- a port was started at most once, and not where it was started, as far as its count tells
pub record StartsOnce (old new : Observation) : Type 0 where
  pub started : Bool
  pub first : started ≡ true → old.started ≡ false
  pub starts : Counts old.exact old.starts new.starts started
  pub exact : new.exact ≡ old.exact

-- an instance without a port leaves what stands in its place as it is, but for a close
abbrev pub ShowsAlone : Observation → Observation → Done → Type 0
ShowsAlone old new done.Closed = new.started ≡ false
ShowsAlone old new other = new.started ≡ old.started

-- what the port tells before and after shows what was done: a failure, a refusal, an idle turn and an attempt that the device took
-- raised their counts; a port is started behind an attempt, but closed where that failed or starved, and where it was closed for good
abbrev pub ShowsDone : Observation → Observation → Done → Type 0
ShowsDone old new done.Nothing = new.started ≡ old.started
ShowsDone old new (done.Read turned) = ShowsTurn old new turned
ShowsDone old new (done.Attempted all sent answer) = RepliesBy old new answer
ShowsDone old new (done.Judged ports) = new.started ≡ old.started
ShowsDone old new done.Closed = new.started ≡ false
ShowsDone old new done.OutOfMemory = Unit {0}
ShowsDone old new done.Starved = new.started ≡ false

-- so it is of an instance that does this with its port
abbrev pub ShowsWork : Role → Observation → Observation → Done → Type 0
ShowsWork (role.Source core) old new outcome = ShowsDone old new outcome
ShowsWork (role.Generator generator) old new outcome = ShowsAlone old new outcome
ShowsWork (role.Sink codec) old new outcome = ShowsDone old new outcome
ShowsWork role.Blackhole old new outcome = ShowsAlone old new outcome
ShowsWork (role.Transform picker) old new outcome = ShowsDone old new outcome
ShowsWork role.Merge old new outcome = ShowsDone old new outcome
ShowsWork role.Unfit old new outcome = ShowsDone old new outcome

-- an instance that works with a port has one, and one that needs none has none
abbrev pub IsPortedAs : Bool → Role → Type 0
IsPortedAs device (role.Source core) = device ≡ true
IsPortedAs device (role.Generator generator) = device ≡ false
IsPortedAs device (role.Sink codec) = device ≡ true
IsPortedAs device role.Blackhole = device ≡ false
IsPortedAs device (role.Transform picker) = Unit {0}
IsPortedAs device role.Merge = Unit {0}
IsPortedAs device role.Unfit = Unit {0}
