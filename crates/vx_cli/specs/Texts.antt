-- What is printed of a fault.
use Rattle.std.specs.Prelude.{ℕ, List, [], ◌∷◌, ◌++◌, codes}
use Rattle.std.specs.Fmt.{decimal}
use Rattle.vx_value.specs.Texts.{ByteString}
use Rattle.vx_cli.specs.Shown.{shown}
use Rattle.vx_graph.specs.declared.graph_fault.GraphFault.{GraphFault}
use Rattle.vx_graph.specs.declared.graph_fault.GraphFault.TheVariants as graph
use Rattle.vx_reading.specs.declared.plan_fault.PlanFault.{PlanFault}
use Rattle.vx_reading.specs.declared.plan_fault.PlanFault.TheVariants as plan
use Rattle.vx_cli.specs.declared.fault.Fault.{Fault}
use Rattle.vx_cli.specs.declared.fault.Fault.TheVariants.{Usage, ConfigRead, ConfigRefused, UnknownHost, Numbers, SourceFailed, ConfirmFailed, PrintFailed, WantOfMemory}

-- where a source failed
abbrev pub failed_after : ℕ → ByteString
failed_after at = codes " failed after " ++ (decimal at ++ codes " bytes")

-- names as they are printed, with a comma and a blank between two of them
abbrev pub listed : List ByteString → ByteString
listed [] = []
listed (name ∷ []) = shown name
listed (name ∷ other ∷ rest) = shown name ++ (codes ", " ++ listed (other ∷ rest))

-- whose inputs a graph's fault is about
abbrev pub of_component : ByteString → ByteString
of_component name = codes " of component " ++ shown name

-- what is wrong with a graph, in words for people
abbrev pub graph_text : GraphFault → ByteString
graph_text graph.NoSources = codes "no sources"
graph_text graph.NoSinks = codes "no sinks"
graph_text (graph.NoInputs name) = codes "no inputs" ++ of_component name
graph_text (graph.UnknownInput name input) = codes "unknown input " ++ (shown input ++ of_component name)
graph_text (graph.Cycle names) = codes "cycle " ++ listed names
graph_text graph.WantOfMemory = []

-- what is wrong with a configuration, in words for people
abbrev pub plan_text : PlanFault → ByteString
plan_text (plan.MissingVariable name at) = codes "missing variable " ++ (shown name ++ (codes " at " ++ decimal at))
plan_text plan.NotToml = codes "not a TOML document"
plan_text (plan.UnknownKind path) = codes "unknown kind at " ++ shown path
plan_text (plan.UnknownOption path) = codes "unknown option " ++ shown path
plan_text (plan.MissingOption path) = codes "missing option " ++ shown path
plan_text (plan.BadValue path) = codes "bad value at " ++ shown path
plan_text (plan.TooMany path found limit) =
    codes "too many at " ++ (shown path ++ (codes ": " ++ (decimal found ++ (codes ", limit " ++ decimal limit))))
plan_text (plan.Graph fault) = graph_text fault
plan_text plan.WantOfMemory = []

-- the reason of a fault, in words for people
abbrev pub reason_of : Fault → ByteString
reason_of Usage = []
reason_of (ConfigRead path) = codes "cannot read " ++ shown path
reason_of (ConfigRefused fault) = codes "configuration refused: " ++ plan_text fault
reason_of (UnknownHost name) = codes "no host transform " ++ shown name
reason_of (Numbers next wanted) =
    codes "copy numbers are used up: next " ++ (decimal next ++ (codes ", wanted " ++ decimal wanted))
reason_of (SourceFailed name at) = codes "source " ++ (shown name ++ failed_after at)
reason_of (ConfirmFailed name) = codes "source " ++ (shown name ++ codes " could not be confirmed")
reason_of PrintFailed = []
reason_of WantOfMemory = []

-- how the program is called
abbrev pub usage : ByteString
usage =
    codes "vector: usage: vector --config FILE [options]\nvector: usage: vector validate FILE\n"

-- all that is printed of a fault: how the program is called, nothing for a failed print or want of memory, or a line with
-- the reason
abbrev pub text_of : Fault → ByteString
text_of Usage = usage
text_of PrintFailed = []
text_of WantOfMemory = []
text_of (ConfigRefused plan.WantOfMemory) = []
text_of (ConfigRefused (plan.Graph graph.WantOfMemory)) = []
text_of fault = codes "vector: " ++ reason_of fault ++ codes "\n"
