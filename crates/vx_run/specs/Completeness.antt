-- What a run says in which nothing failed and nothing was refused.
use Rattle.std.specs.Prelude.{◌≡◌, ◌⊎◌, ◌+◌, ◌≤◌, ◌^◌, ℕ, Bool, true, false, ◌||◌, List, [], ◌∷◌, ◌++◌, Option, Some, None, Ok}
use Rattle.vx_value.specs.Texts.{ByteString}
use Rattle.vx_value.specs.declared.variable.Variable.{Variable}
use Rattle.vx_ends.specs.Observation.{Observation, Rose}
use Rattle.vx_ends.specs.Texts.{text_at}
use Rattle.vx_ends.specs.declared.world.Config.{Config}
use Rattle.vx_status.specs.declared.batch_status.BatchStatus.TheVariants.{Errored, Rejected}
use Rattle.vx_plan.specs.declared.component.Component.{Component}
use Rattle.vx_plan.specs.declared.plan.Plan.{Plan}
use Rattle.vx_reading.specs.Conditions.{NoneRefusable}
use Rattle.vx_reading.specs.Reading.{IsReading}
use Rattle.vx_record.specs.declared.entry.Entry.TheVariants.{Attempt, Notice, Retired}
use Rattle.vx_record.specs.Records.{Record}
use Rattle.vx_record.specs.Copies.{next_copy}
use Rattle.vx_record.specs.Ending.{BirthWants, SplitWants}
use Rattle.vx_record.specs.Confirms.{is_confirm_due}
use Rattle.vx_record.specs.Installs.{source_at}
use Rattle.vx_record.specs.Legal.{IsLegal}
use Rattle.vx_record.specs.PortCounts.{is_refused}
use Rattle.vx_record.specs.SinkBatches.{is_failed}
use Rattle.vx_hub.specs.Remains.{AreNumbered, AreObservedButGiven}
use Rattle.vx_hub.specs.declared.parts.Numbered.{Numbered}
use Rattle.vx_cli.specs.declared.fault.Fault.{Fault}
use Rattle.vx_cli.specs.declared.fault.Fault.TheVariants.{ConfigRefused, UnknownHost, PrintFailed}
use Rattle.vx_cli.specs.Commands.{IsRun}
use Rattle.vx_run.specs.Answers.{AsksStats, IsAnswer, WentOn}
use Rattle.vx_run.specs.Hosting.{IsLeastUnknown}
use Rattle.vx_run.specs.Running.{HasInstalled, NoneMissing}

-- no port tells of a failed call, nor of a refused one
abbrev pub NoneFailed : {P : Type 0} → (P → Observation) → List (Numbered P) → Type 0
NoneFailed observe [] = Unit {0}
NoneFailed observe (n ∷ ns) = ((observe n.port).faults ≡ 0) × ((observe n.port).refusals ≡ 0) × NoneFailed observe ns

-- no birth and no split would have passed the last number
abbrev pub NumbersSuffice : Record → Type 0
NumbersSuffice h = (later earlier : Record) (wanted : ℕ) → later ++ earlier ≡ h → BirthWants earlier wanted ⊎ SplitWants earlier wanted → next_copy earlier + wanted ≤ 2 ^ 63

-- the words run a file, whose text the world tells and which stands for a plan; the world's count of failed reads stood still, and so
-- did the printer's of failed prints where the words ask for counts; no port tells of a failure or a refusal, and the numbers of copies sufficed
pub record IsFaultless {P : Type 0} (observe : P → Observation) (words : List ByteString) (environment : List Variable) (configs : List Config) (before now was is : ℕ) (h : Record) (ports : List (Numbered P)) : Type 0 where
  pub file : ByteString
  pub asked : IsRun words file
  pub bytes : ByteString
  pub text : text_at configs file ≡ Some bytes
  pub plan : Plan
  pub read : IsReading environment bytes (Ok plan)
  pub reads : Rose before now → ⊥
  pub prints : AsksStats words → Rose was is → ⊥
  pub none_failed : NoneFailed observe ports
  pub numbers : NumbersSuffice h

-- the configuration was refused, though its text stands for a plan of these components: a condition of these has a pattern, and
-- `regex` may refuse one at any time
abbrev pub IsRefusedAnew : List Component → Option Fault → Type 0
IsRefusedAnew components (Some (ConfigRefused fault)) = NoneRefusable components → ⊥
IsRefusedAnew components other = ⊥

-- of these components one runs a transform that the program doesn't hand in
abbrev pub IsHostless : List ByteString → List Component → Option Fault → Type 0
IsHostless names components (Some (UnknownHost name)) = IsLeastUnknown names components name
IsHostless names components other = ⊥

-- the answer says that a print failed only where the printer's count of failed prints rose
abbrev pub PrintBlames : ℕ → ℕ → Option Fault → Type 0
PrintBlames was is fault = fault ≡ Some PrintFailed → Rose was is

-- whether an attempt failed
abbrev pub has_failed : Record → Bool
has_failed [] = false
has_failed (Attempt i copies bytes reply ∷ h) = is_failed reply || has_failed h
has_failed (e ∷ h) = has_failed h

-- whether an attempt was refused
abbrev pub has_refused : Record → Bool
has_refused [] = false
has_refused (Attempt i copies bytes reply ∷ h) = is_refused reply || has_refused h
has_refused (e ∷ h) = has_refused h

-- in a run that wasn't given up a notice says Errored only behind an attempt that failed
abbrev pub ErroredBlames : Type 0
ErroredBlames =
    (h later earlier : Record) (b : ℕ) → later ++ Notice b Errored ∷ earlier ≡ h → IsLegal h → WentOn h → has_failed earlier ≡ true

-- and Rejected only behind one that was refused
abbrev pub RejectedBlames : Type 0
RejectedBlames =
    (h later earlier : Record) (b : ℕ) → later ++ Notice b Rejected ∷ earlier ≡ h → IsLegal h → WentOn h → has_refused earlier ≡ true

-- in a run that wasn't given up no confirm is due to a source that ends
abbrev pub NoneDueAtEnd : Type 0
NoneDueAtEnd =
    (h later earlier : Record) (i : ℕ) → later ++ Retired i ∷ earlier ≡ h → IsLegal h → WentOn h → source_at earlier i ≡ true →
    is_confirm_due earlier i ≡ false

-- what `vector` ensures of a run that ended well, in which nothing failed and nothing was refused
pub record HasEndedWell {P : Type 0} (observe : P → Observation) (words : List ByteString) (environment : List Variable) (names : List ByteString) (configs : List Config) (before now was is : ℕ) (h : Record) (ports : List (Numbered P)) : Type 0 where
  pub faultless : IsFaultless observe words environment configs before now was is h ports
  pub legal : IsLegal h
  pub answer : IsAnswer words environment names (Some configs) before now h None
  pub installed : HasInstalled words environment (Some configs) h None
  pub none_missing : NoneMissing words environment (Some configs) h ports None
  pub observed : AreObservedButGiven observe h ports
  pub numbers : AreNumbered 0 ports
