-- What the calls of the states need and tell.
use Rattle.std.specs.Prelude.{◌≡◌, ◌≢◌, ℕ, Bool, true, false, List, Option, Some, None, IfSome, IsSomeAnd, slice_get, take_while}
use Rattle.vx_ends.specs.Observation.{Observation, SameBytes, CountsBy, nothing}
use Rattle.vx_ends.specs.declared.position.Position.{Position}
use Rattle.vx_record.specs.Records.{Record}
use Rattle.vx_record.specs.Ceasing.{cause_of}
use Rattle.vx_record.specs.Installs.{device_at}
use Rattle.vx_record.specs.Confirms.{Birth, last_confirm}
use Rattle.vx_record.specs.Owing.{owes}
use Rattle.vx_sourcecore.specs.declared.ends.Ends.{Ends}
use Rattle.vx_sourcecore.specs.Prefixes.{Judgement, IsPrefixOf, IsReadyFor, IsAskFor, ends_of}
use Rattle.vx_tasks.specs.declared.task.Role.TheVariants.{Unfit}
use Rattle.vx_tasks.specs.declared.task.Task.{Task}
use Rattle.vx_tasks.specs.Unleased.{HasKept}
use Rattle.vx_instances.specs.declared.facts.Facts.{Facts}
use Rattle.vx_instances.specs.declared.progress.Progress.{Progress}
use Rattle.vx_instances.specs.declared.state.InstanceState.{InstanceState}
use Rattle.vx_instances.specs.Knowing.{IsTaskOfBut, HasUnleasedTask, asked}

-- what an instance counts is known: memory was never wanting while it cut what it had read
abbrev pub CountsAt : {P : Type 0} → List (InstanceState P) → ℕ → Type 0
CountsAt states i = IfSome (slice_get states i) (λ state. state.facts.behind ≡ false)

-- each batch that an instance read was born, and it had what it was leased for
abbrev pub IsSettledAt : {P : Type 0} → List (InstanceState P) → ℕ → Type 0
IsSettledAt states i = IfSome (slice_get states i) (λ state. state.facts.owing ≡ false)

-- the port of an instance isn't started, if it is unleased
abbrev pub IsShutAt : {P : Type 0} → (P → Observation) → List (InstanceState P) → ℕ → Type 0
IsShutAt observe states i = IfSome (slice_get states i) (λ state. IfSome state.task (λ task. (observe task.port).started ≡ false))

-- the task that an instance had was as the record has it
abbrev pub HadUnleasedTask : {P : Type 0} → (P → Observation) → List (InstanceState P) → Record → ℕ → Task P → Type 0
HadUnleasedTask observe states h i task = IfSome (slice_get states i) (λ state. HasUnleasedTask observe state.facts h i task)

-- an instance had no task
abbrev pub HadNobody : {P : Type 0} → List (InstanceState P) → ℕ → Type 0
HadNobody states i = IfSome (slice_get states i) (λ state. state.task ≡ None)

-- a task comes back as the record has it: its instance owes nothing where its batch was born, nor, where it has a device, a confirm
-- that it was leased for, what it keeps stands for what it answered where that is so and the run goes on, its port isn't started where
-- it is closed for good, and it is fit for work where what the instance counts is known
pub record IsBack {P : Type 0} (observe : P → Observation) (f : Facts) (h : Record) (i : ℕ) (task : Task P) : Type 0 where
  pub settled : f.owing ≡ false → cause_of h ≡ None → owes h i ≡ false
  pub answered : device_at h i ≡ true → f.owing ≡ false → cause_of h ≡ None → last_confirm h i ≡ asked h i
  pub kept : f.owing ≡ false → cause_of h ≡ None → HasKept h i task.role
  pub task_is : IsTaskOfBut observe f.starved h i task
  pub shut : f.closed ≡ true → (observe task.port).started ≡ false
  pub fit : f.behind ≡ false → task.role ≢ Unfit

abbrev pub HasTaskBack : {P : Type 0} → (P → Observation) → List (InstanceState P) → Record → ℕ → Task P → Type 0
HasTaskBack observe states h i task = IfSome (slice_get states i) (λ state. IsBack observe state.facts h i task)

-- there is memory for a batch more of an instance, which ends at a position
abbrev pub HasPlaceFor : {P : Type 0} → List (InstanceState P) → ℕ → Position → Ends → Type 0
HasPlaceFor states i position ends = IsSomeAnd (slice_get states i) (λ state. IsReadyFor state.progress.prefix position ends)

-- what was to be confirmed is asked for, and given where there is a port
pub record IsAskedOf (device : Bool) (answer : Option (List Position)) (p q : Progress) : Type 0 where
  pub unnoticed : q.unnoticed ≡ p.unnoticed
  pub waits : q.prefix.waits ≡ p.prefix.waits
  pub asked : (judged : Judgement) → (bs : List Birth) → (asked : List Position) → IsPrefixOf p.prefix judged bs asked → IsPrefixOf q.prefix judged bs (ends_of (take_while judged.may bs))
  pub due : device ≡ true → (judged : Judgement) → (bs : List Birth) → (asked : List Position) → IsPrefixOf p.prefix judged bs asked → IsAskFor answer (ends_of (take_while judged.may bs)) asked
  pub none : device ≡ false → answer ≡ None

-- the task of a state is taken along at a moment, with what is to be confirmed to its port
pub record Leaves {P : Type 0} (now : ℕ) (was is : InstanceState P) (task : Task P) (positions : Option (List Position)) : Type 0 where
  pub had : was.task ≡ Some task
  pub rest : is ≡ record was { facts = record was.facts { leased_at = now }; progress = is.progress; task = None }
  pub asked : IsAskedOf was.device positions was.progress is.progress

-- a port that is closed tells what it told, and counts nothing
pub record IsClosedBy (was is : Observation) : Type 0 where
  pub shut : is.started ≡ false
  pub bytes : SameBytes was is
  pub counts : CountsBy nothing was is

-- the port of a task is closed
abbrev pub TaskShuts : {P : Type 0} → (P → Observation) → Option (Task P) → Option (Task P) → Type 0
TaskShuts observe None is = is ≡ None
TaskShuts observe (Some was) None = ⊥
TaskShuts observe (Some was) (Some is) = (is.role ≡ was.role) × IsClosedBy (observe was.port) (observe is.port)

-- that of a state is, if its task is unleased
pub record Shuts {P : Type 0} (observe : P → Observation) (was is : InstanceState P) : Type 0 where
  pub rest : is ≡ record was { task = is.task }
  pub task : TaskShuts observe was.task is.task
