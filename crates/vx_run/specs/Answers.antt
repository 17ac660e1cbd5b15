-- What each answer of a run says.
use Rattle.std.specs.Prelude.{◌≡◌, ◌≢◌, ℕ, ◌<◌, ◌⊎◌, true, false, List, Option, Some, None, Ok, Err}
use Rattle.vx_value.specs.Texts.{ByteString}
use Rattle.vx_value.specs.declared.variable.Variable.{Variable}
use Rattle.vx_ends.specs.Observation.{Rose}
use Rattle.vx_ends.specs.Texts.{IsTextAt}
use Rattle.vx_ends.specs.declared.world.Config.{Config}
use Rattle.vx_plan.specs.declared.plan.Plan.{Plan}
use Rattle.vx_reading.specs.declared.plan_fault.PlanFault.{PlanFault}
use Rattle.vx_reading.specs.declared.plan_fault.PlanFault.TheVariants as plan_fault
use Rattle.vx_reading.specs.Reading.{IsReading}
use Rattle.vx_record.specs.Records.{Record}
use Rattle.vx_record.specs.Confirms.{is_unconfirmed}
use Rattle.vx_record.specs.declared.abandon_cause.AbandonCause.TheVariants as cause
use Rattle.vx_record.specs.Ceasing.{lost_at, cause_of}
use Rattle.vx_hub.specs.Reporting.{IsNameOf}
use Rattle.vx_cli.specs.declared.fault.Fault.{Fault}
use Rattle.vx_cli.specs.declared.fault.Fault.TheVariants.{Usage, ConfigRead, ConfigRefused, UnknownHost, Numbers, SourceFailed, ConfirmFailed, PrintFailed, WantOfMemory}
use Rattle.vx_cli.specs.Commands.{IsCommand, IsNoCommand, IsRun, has_stats}
use Rattle.vx_cli.specs.declared.command.Command.TheVariants.{Validate}
use Rattle.vx_run.specs.Hosting.{IsLeastUnknown}

-- a fact that is told but for want of memory
abbrev pub ButForMemory : Type 0 → Option Fault → Type 0
ButForMemory fact fault = fault ≢ Some WantOfMemory → fact

-- the words ask for a run of a file, or for a judgement of it
abbrev pub NamesFile : List ByteString → ByteString → Type 0
NamesFile words file = IsRun words file ⊎ IsCommand words (Validate file)

-- the words ask for a run, and not for what the instances count
abbrev pub AsksRun : List ByteString → Type 0
AsksRun words = (file : ByteString) × (IsRun words file × (has_stats words ≡ false))

-- or for both
abbrev pub AsksStats : List ByteString → Type 0
AsksStats words = (file : ByteString) × (IsRun words file × (has_stats words ≡ true))

-- a file, whose bytes these are where the world tells its texts, stands for this plan
pub record IsPlanAt (environment : List Variable) (texts : Option (List Config)) (file : ByteString) (plan : Plan) : Type 0 where
  pub bytes : ByteString
  pub text : IsTextAt texts file bytes
  pub read : IsReading environment bytes (Ok plan)

-- a file stands for no plan, for this reason, which isn't want of memory
pub record IsFaultAt (environment : List Variable) (texts : Option (List Config)) (file : ByteString) (fault : PlanFault) : Type 0 where
  pub bytes : ByteString
  pub text : IsTextAt texts file bytes
  pub read : IsReading environment bytes (Err fault)
  pub found : fault ≢ plan_fault.WantOfMemory

-- the words ask for a run of a file that stands for this plan
pub record IsReady (words : List ByteString) (environment : List Variable) (texts : Option (List Config)) (plan : Plan) : Type 0 where
  pub file : ByteString
  pub asked : IsRun words file
  pub stands : IsPlanAt environment texts file plan

-- the words ask for a judgement of a file that stands for this plan
pub record IsValid (words : List ByteString) (environment : List Variable) (texts : Option (List Config)) (plan : Plan) : Type 0 where
  pub file : ByteString
  pub asked : IsCommand words (Validate file)
  pub stands : IsPlanAt environment texts file plan

-- the words name a file that stands for no plan, for this reason
pub record IsRefused (words : List ByteString) (environment : List Variable) (texts : Option (List Config)) (fault : PlanFault) : Type 0 where
  pub file : ByteString
  pub asked : NamesFile words file
  pub refused : IsFaultAt environment texts file fault

-- a file stands for a plan of which a component runs a transform that the program doesn't hand in; this is the least of such names
pub record IsUnknownAt (environment : List Variable) (names : List ByteString) (texts : Option (List Config)) (file name : ByteString) : Type 0 where
  pub plan : Plan
  pub stands : IsPlanAt environment texts file plan
  pub unknown : IsLeastUnknown names plan.components name

-- the words ask for a run of such a file
pub record IsUnhosted (words : List ByteString) (environment : List Variable) (names : List ByteString) (texts : Option (List Config)) (name : ByteString) : Type 0 where
  pub file : ByteString
  pub asked : IsRun words file
  pub unknown : IsUnknownAt environment names texts file name

-- what a failed read of a configuration says
abbrev pub IsUnread : ByteString → ℕ → ℕ → Fault → Type 0
IsUnread file before now (ConfigRead path) = (path ≡ file) × Rose before now
IsUnread file before now WantOfMemory = Unit {0}
IsUnread file before now other = ⊥

-- what a refused configuration says
abbrev pub IsMisread : List Variable → ByteString → Fault → Type 0
IsMisread environment bytes (ConfigRefused fault) = IsReading environment bytes (Err fault) × (fault ≢ plan_fault.WantOfMemory)
IsMisread environment bytes WantOfMemory = Unit {0}
IsMisread environment bytes other = ⊥

-- what it says where a file gives no plan
abbrev pub IsUnready : List Variable → Option (List Config) → ByteString → ℕ → ℕ → Fault → Type 0
IsUnready environment texts file before now (ConfigRead path) = (path ≡ file) × Rose before now
IsUnready environment texts file before now (ConfigRefused fault) = IsFaultAt environment texts file fault
IsUnready environment texts file before now WantOfMemory = Unit {0}
IsUnready environment texts file before now other = ⊥

-- what it says where no run of a file begins, if the program hands in transforms of these names
abbrev pub CannotBegin : List Variable → List ByteString → Option (List Config) → ByteString → ℕ → ℕ → Fault → Type 0
CannotBegin environment names texts file before now (UnknownHost name) = IsUnknownAt environment names texts file name
CannotBegin environment names texts file before now fault = IsUnready environment texts file before now fault

-- the least instance that was lost, with its component's name and after how many bytes
pub record IsLost (h : Record) (name : ByteString) (at i : ℕ) : Type 0 where
  pub lost : lost_at h i ≡ Some at
  pub least : (j : ℕ) → j < i → lost_at h j ≡ None
  pub named : IsNameOf h i name

-- no instance was lost
abbrev pub NoneLost : Record → Type 0
NoneLost h = (i : ℕ) → lost_at h i ≡ None

-- the least instance whose last confirm failed, with its component's name
pub record IsUnconfirmed (h : Record) (name : ByteString) (i : ℕ) : Type 0 where
  pub failed : is_unconfirmed h i ≡ true
  pub least : (j : ℕ) → j < i → is_unconfirmed h j ≡ false
  pub named : IsNameOf h i name

-- no instance has a last confirm that failed
abbrev pub AllConfirmed : Record → Type 0
AllConfirmed h = (i : ℕ) → is_unconfirmed h i ≡ false

-- a run that wasn't given up
abbrev pub WentOn : Record → Type 0
WentOn h = cause_of h ≡ None

-- what it says of a run that began
abbrev pub IsJudged : Record → Option Fault → Type 0
IsJudged h None = WentOn h × (NoneLost h × AllConfirmed h)
IsJudged h (Some (SourceFailed name at)) = WentOn h × ((i : ℕ) × IsLost h name at i)
IsJudged h (Some (ConfirmFailed name)) = WentOn h × (NoneLost h × ((i : ℕ) × IsUnconfirmed h name i))
IsJudged h (Some (Numbers next wanted)) = cause_of h ≡ Some (cause.Numbers next wanted)
IsJudged h (Some WantOfMemory) = Unit {0}
IsJudged h (Some other) = ⊥

-- what each answer says: of the words, of the names of the transforms that the program hands in, of the world's texts and its count of
-- faults, and of the record
abbrev pub IsAnswer : List ByteString → List Variable → List ByteString → Option (List Config) → ℕ → ℕ → Record → Option Fault → Type 0
IsAnswer words environment names texts before now h (Some Usage) = IsNoCommand words
IsAnswer words environment names texts before now h (Some (ConfigRead path)) = NamesFile words path × Rose before now
IsAnswer words environment names texts before now h (Some (ConfigRefused fault)) = IsRefused words environment texts fault
IsAnswer words environment names texts before now h (Some (UnknownHost name)) = IsUnhosted words environment names texts name
IsAnswer words environment names texts before now h (Some PrintFailed) = (AsksStats words × IsJudged h None) ⊎ ((file : ByteString) × IsCommand words (Validate file))
IsAnswer words environment names texts before now h (Some WantOfMemory) = Unit {0}
IsAnswer words environment names texts before now h fault = IsJudged h fault
