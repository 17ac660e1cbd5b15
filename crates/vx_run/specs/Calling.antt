-- What a run asks its world for.
use Rattle.std.specs.Prelude.{◌≡◌, ◌⊎◌, Bool, List, [], ◌∷◌, ◌++◌, Option, Some, None}
use Rattle.vx_value.specs.Texts.{ByteString}
use Rattle.vx_value.specs.declared.variable.Variable.{Variable}
use Rattle.vx_ends.specs.Observation.{Grows}
use Rattle.vx_ends.specs.declared.call.Call.{Call}
use Rattle.vx_ends.specs.declared.call.Call.TheVariants.{Config, Port}
use Rattle.vx_ends.specs.declared.port_spec.PortSpec.{PortSpec}
use Rattle.vx_ends.specs.declared.world.Config.{Config as ConfigAt}
use Rattle.vx_plan.specs.declared.component.Component.{Component}
use Rattle.vx_plan.specs.declared.plan.Plan.{Plan}
use Rattle.vx_plan.specs.Ports.{port_of}
use Rattle.vx_record.specs.Records.{Record}
use Rattle.vx_record.specs.Installs.{in_force}
use Rattle.vx_cli.specs.declared.fault.Fault.{Fault}
use Rattle.vx_cli.specs.declared.fault.Fault.TheVariants.{Usage, ConfigRead, ConfigRefused, UnknownHost, PrintFailed, WantOfMemory}
use Rattle.vx_cli.specs.Commands.{IsCommand, IsRun, has_once}
use Rattle.vx_cli.specs.declared.command.Command.TheVariants.{Validate}
use Rattle.vx_run.specs.Answers.{NamesFile, IsPlanAt}

-- a port of that form is asked for, if there is one
abbrev pub call_of : Option PortSpec → List Call
call_of None = []
call_of (Some spec) = Port spec ∷ []

-- a port is asked for each component that needs one, in order
abbrev pub port_calls : (Component → Option PortSpec) → List Component → List Call
port_calls needs [] = []
port_calls needs (c ∷ cs) = call_of (needs c) ++ port_calls needs cs

-- the configuration in a file is asked for, and then the ports of its plan, by whether files end with what they have
abbrev pub run_calls : Bool → ByteString → Plan → List Call
run_calls once file plan = Config file ∷ port_calls (port_of once plan.global.data_dir) plan.components

-- the first of these calls were made, or all of them, and no other, where the world tells its calls
pub record HasBegun (old new : Option (List Call)) (all : List Call) : Type 0 where
  pub done : List Call
  pub rest : List Call
  pub whole : done ++ rest ≡ all
  pub calls : Grows old new done

-- a file was read; and of a plan that it stands for the first ports were made, or all, by whether files end with what they have
abbrev pub HasBegunFor : List Variable → Option (List ConfigAt) → Bool → ByteString → Option (List Call) → Option (List Call) → Type 0
HasBegunFor environment texts once file old new =
    Grows old new (Config file ∷ []) ⊎ ((plan : Plan) × (IsPlanAt environment texts file plan × HasBegun old new (run_calls once file plan)))

-- what was asked for where nothing begins with a file
abbrev pub HasCalledFor : List Variable → Option (List ConfigAt) → Bool → ByteString → Option (List Call) → Option (List Call) → Fault → Type 0
HasCalledFor environment texts once file old new WantOfMemory = HasBegunFor environment texts once file old new
HasCalledFor environment texts once file old new fault = Grows old new (Config file ∷ [])

-- a run of the words' file read it, and made a port for each component that needs one of the plan that it installed, in order, for files
-- that end with what they have where the words ask for that, and asked for nothing else
pub record HasCalledAll (words : List ByteString) (old new : Option (List Call)) (h : Record) : Type 0 where
  pub file : ByteString
  pub asked : IsRun words file
  pub plan : Plan
  pub installed : in_force h ≡ Some plan
  pub calls : Grows old new (run_calls (has_once words) file plan)

-- a judgement of the words' file read it, and asked for nothing else, and nothing began
pub record HasRead (words : List ByteString) (old new : Option (List Call)) (h : Record) : Type 0 where
  pub unbegun : h ≡ []
  pub file : ByteString
  pub asked : IsCommand words (Validate file)
  pub calls : Grows old new (Config file ∷ [])

-- the file of a run or of a judgement was read, and nothing else was asked for
pub record HasReadNamed (words : List ByteString) (old new : Option (List Call)) : Type 0 where
  pub file : ByteString
  pub asked : NamesFile words file
  pub calls : Grows old new (Config file ∷ [])

-- a run that didn't begin read the words' file, and perhaps asked for the first ports of a plan that it stands for, or for all
pub record HasBegunRun (words : List ByteString) (environment : List Variable) (texts : Option (List ConfigAt)) (old new : Option (List Call)) (h : Record) : Type 0 where
  pub unbegun : h ≡ []
  pub file : ByteString
  pub asked : IsRun words file
  pub begun : HasBegunFor environment texts (has_once words) file old new

-- a beginning of what the words ask for: nothing; the file of a judgement; what a run that didn't begin asked; and all where one began
abbrev pub HasAskedFirst : List ByteString → List Variable → Option (List ConfigAt) → Option (List Call) → Option (List Call) → Record → Type 0
HasAskedFirst words environment texts old new h =
    ((new ≡ old) × (h ≡ [])) ⊎ (HasRead words old new h ⊎ (HasBegunRun words environment texts old new h ⊎ HasCalledAll words old new h))

-- what the world was asked for, by the answer of a run
abbrev pub HasCalled : List ByteString → List Variable → Option (List ConfigAt) → Option (List Call) → Option (List Call) → Record → Option Fault → Type 0
HasCalled words environment texts old new h None = HasCalledAll words old new h ⊎ HasRead words old new h
HasCalled words environment texts old new h (Some Usage) = new ≡ old
HasCalled words environment texts old new h (Some (ConfigRead path)) = HasReadNamed words old new
HasCalled words environment texts old new h (Some (ConfigRefused fault)) = HasReadNamed words old new
HasCalled words environment texts old new h (Some (UnknownHost name)) = HasReadNamed words old new
HasCalled words environment texts old new h (Some PrintFailed) = HasCalledAll words old new h ⊎ HasRead words old new h
HasCalled words environment texts old new h (Some WantOfMemory) = HasAskedFirst words environment texts old new h
HasCalled words environment texts old new h fault = HasCalledAll words old new h
