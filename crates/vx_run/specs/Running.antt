-- What a run leaves behind.
use Rattle.std.specs.Prelude.{◌≡◌, ◌⊎◌, ℕ, Bool, true, List, [], ◌∷◌, length, Option, Some, None, IsSome, IsSomeAnd}
use Rattle.vx_value.specs.Texts.{ByteString}
use Rattle.vx_value.specs.declared.variable.Variable.{Variable}
use Rattle.vx_ends.specs.Observation.{Observation}
use Rattle.vx_ends.specs.declared.world.Config.{Config}
use Rattle.vx_plan.specs.declared.plan.Plan.{Plan}
use Rattle.vx_record.specs.Records.{Record}
use Rattle.vx_record.specs.Installs.{in_force, source_at, device_at}
use Rattle.vx_record.specs.Wirings.{begun}
use Rattle.vx_record.specs.Reads.{all_ended}
use Rattle.vx_record.specs.TallyLists.{tallies_of}
use Rattle.vx_record.specs.Ceasing.{lost_at}
use Rattle.vx_record.specs.declared.tally.Tally.{Tally}
use Rattle.vx_moves.specs.Returns.{HaveReturned}
use Rattle.vx_hub.specs.declared.parts.Numbered.{Numbered}
use Rattle.vx_hub.specs.Remains.{AreObserved, AreObservedButGiven}
use Rattle.vx_hub.specs.Standing.{GoesOn}
use Rattle.vx_run.specs.Answers.{ButForMemory, IsReady, IsValid, WentOn}
use Rattle.vx_cli.specs.Commands.{has_once}
use Rattle.vx_cli.specs.declared.fault.Fault.{Fault}
use Rattle.vx_cli.specs.declared.fault.Fault.TheVariants.{Usage, ConfigRead, ConfigRefused, UnknownHost, SourceFailed, ConfirmFailed, PrintFailed, WantOfMemory}

-- the ports tell what the record has, but that where memory was wanting they may have been given more
pub record IsTrueTo {P : Type 0} (observe : P → Observation) (h : Record) (ports : List (Numbered P)) (fault : Option Fault) : Type 0 where
  pub whole : ButForMemory (AreObserved observe h ports) fault
  pub rest : AreObservedButGiven observe h ports

-- each instance with a device has its port
abbrev pub AreThere : {P : Type 0} → Record → List (Numbered (Option P)) → Type 0
AreThere h [] = Unit {0}
AreThere h (n ∷ ns) = (device_at h n.instance ≡ true → IsSome n.port) × AreThere h ns

-- but for want of memory, each instance that came back had returned
abbrev pub AllReturned : Record → Option Fault → Type 0
AllReturned h fault = ButForMemory (HaveReturned h) fault

-- a record began with a plan, as one whose files end with what they have or as one whose files go on, and the plan is in force
pub record Began (once : Bool) (plan : Plan) (h : Record) : Type 0 where
  pub moment : ℕ
  pub first : GoesOn (begun plan once moment) h
  pub installed : in_force h ≡ Some plan

-- that plan is that of the file for which the words ask, and files end with what they have exactly where the words ask for that
pub record IsInstalled (words : List ByteString) (environment : List Variable) (texts : Option (List Config)) (h : Record) : Type 0 where
  pub plan : Plan
  pub ready : IsReady words environment texts plan
  pub began : Began (has_once words) plan h

-- a configuration was judged and stands for a plan, and nothing began
pub record IsOnlyJudged (words : List ByteString) (environment : List Variable) (texts : Option (List Config)) (h : Record) : Type 0 where
  pub plan : Plan
  pub valid : IsValid words environment texts plan
  pub unbegun : h ≡ []

-- a run that began has that plan in force; or the words ask for a judgement alone. For want of memory nothing may have begun
abbrev pub HasInstalled : List ByteString → List Variable → Option (List Config) → Record → Option Fault → Type 0
HasInstalled words environment texts h None = IsInstalled words environment texts h ⊎ IsOnlyJudged words environment texts h
HasInstalled words environment texts h (Some Usage) = Unit {0}
HasInstalled words environment texts h (Some (ConfigRead path)) = Unit {0}
HasInstalled words environment texts h (Some (ConfigRefused fault)) = Unit {0}
HasInstalled words environment texts h (Some (UnknownHost name)) = Unit {0}
HasInstalled words environment texts h (Some PrintFailed) = IsInstalled words environment texts h ⊎ IsOnlyJudged words environment texts h
HasInstalled words environment texts h (Some WantOfMemory) = (h ≡ []) ⊎ IsInstalled words environment texts h
HasInstalled words environment texts h other = IsInstalled words environment texts h

-- each source was told the end of all
abbrev pub AllRead : Record → Type 0
AllRead h = (i : ℕ) → source_at h i ≡ true → all_ended h i ≡ true

-- each source was told the end of all, or was lost
abbrev pub AllReadOrLost : Record → Type 0
AllReadOrLost h = (i : ℕ) → source_at h i ≡ true → (all_ended h i ≡ true) ⊎ IsSome (lost_at h i)

-- the input was read to its end, but for sources that were lost, unless the run was given up
abbrev pub IsReadOut : Record → Option Fault → Type 0
IsReadOut h None = AllRead h
IsReadOut h (Some (ConfirmFailed name)) = AllRead h
IsReadOut h (Some PrintFailed) = AllRead h
IsReadOut h (Some (SourceFailed name at)) = AllReadOrLost h
IsReadOut h other = WentOn h → AllReadOrLost h

-- a run that didn't begin has no record and no port
abbrev pub IsUnbegun : {P : Type 0} → Record → List (Numbered P) → Type 0
IsUnbegun h ports = (h ≡ []) × (ports ≡ [])

-- there are as many ports as a plan has components
abbrev pub HasAll : {P : Type 0} → List (Numbered P) → Plan → Type 0
HasAll ports plan = length ports ≡ length plan.components

-- the words ask for a run of a plan, for each component of which there is a port
pub record HasAllAsked {P : Type 0} (words : List ByteString) (environment : List Variable) (texts : Option (List Config)) (ports : List (Numbered P)) : Type 0 where
  pub plan : Plan
  pub ready : IsReady words environment texts plan
  pub each : HasAll ports plan

-- a run began with a plan, or for want of memory it didn't begin
abbrev pub IsInForce : Bool → Plan → Record → Option Fault → Type 0
IsInForce once plan h (Some WantOfMemory) = (h ≡ []) ⊎ Began once plan h
IsInForce once plan h fault = Began once plan h

-- no port of a plan is missing, but where for want of memory nothing began
abbrev pub HasEach : {P : Type 0} → Plan → Record → List (Numbered P) → Option Fault → Type 0
HasEach plan h ports (Some WantOfMemory) = IsUnbegun h ports ⊎ HasAll ports plan
HasEach plan h ports fault = HasAll ports plan

-- no port is missing
abbrev pub NoneMissing : {P : Type 0} → List ByteString → List Variable → Option (List Config) → Record → List (Numbered P) → Option Fault → Type 0
NoneMissing words environment texts h ports None = IsSomeAnd (in_force h) (HasAll ports) ⊎ (IsOnlyJudged words environment texts h × IsUnbegun h ports)
NoneMissing words environment texts h ports (Some PrintFailed) = IsSomeAnd (in_force h) (HasAll ports) ⊎ (IsOnlyJudged words environment texts h × IsUnbegun h ports)
NoneMissing words environment texts h ports (Some Usage) = IsUnbegun h ports
NoneMissing words environment texts h ports (Some (ConfigRead path)) = IsUnbegun h ports
NoneMissing words environment texts h ports (Some (ConfigRefused fault)) = IsUnbegun h ports
NoneMissing words environment texts h ports (Some (UnknownHost name)) = IsUnbegun h ports
NoneMissing words environment texts h ports (Some WantOfMemory) = IsUnbegun h ports ⊎ HasAllAsked words environment texts ports
NoneMissing words environment texts h ports other = IsSomeAnd (in_force h) (HasAll ports)

-- each instance counted what the record has; for want of memory nothing may be counted
abbrev pub IsCounted : Record → ℕ → List Tally → Option Fault → Type 0
IsCounted h instances tallies (Some WantOfMemory) = (tallies ≡ tallies_of h instances) ⊎ (tallies ≡ [])
IsCounted h instances tallies fault = tallies ≡ tallies_of h instances
