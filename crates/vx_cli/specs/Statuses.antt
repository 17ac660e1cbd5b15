-- The exit status of each fault.
use Rattle.std.specs.Prelude.{ℕ, Option, Some, None}
use Rattle.vx_graph.specs.declared.graph_fault.GraphFault.TheVariants as graph
use Rattle.vx_reading.specs.declared.plan_fault.PlanFault.TheVariants as plan
use Rattle.vx_cli.specs.declared.fault.Fault.{Fault}
use Rattle.vx_cli.specs.declared.fault.Fault.TheVariants.{Usage, ConfigRead, ConfigRefused, UnknownHost, Numbers, SourceFailed, ConfirmFailed, PrintFailed, WantOfMemory}

-- the status that a run ends with
abbrev pub status_of : Fault → ℕ
status_of Usage = 64
status_of (ConfigRead path) = 74
status_of (ConfigRefused plan.WantOfMemory) = 71
status_of (ConfigRefused (plan.Graph graph.WantOfMemory)) = 71
status_of (ConfigRefused fault) = 78
status_of (UnknownHost name) = 78
status_of (Numbers next wanted) = 70
status_of (SourceFailed name at) = 69
status_of (ConfirmFailed name) = 74
status_of PrintFailed = 74
status_of WantOfMemory = 71

-- the status of a run that ends with a fault, or with none
abbrev pub ended_status : Option Fault → ℕ
ended_status None = 0
ended_status (Some fault) = status_of fault
