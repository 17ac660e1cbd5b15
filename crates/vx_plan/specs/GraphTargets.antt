-- The readers of a plan's components are those of its graph.
use Rattle.std.specs.Prelude.{ℕ, ◌≡◌, ◌<◌, Some, length}
use Rattle.vx_value.specs.Texts.{ByteString}
use Rattle.vx_graph.specs.Order.{in_order}
use Rattle.vx_graph.specs.Targets.{targets as graph_targets}
use Rattle.vx_plan.specs.declared.component.Component.{Component}
use Rattle.vx_plan.specs.declared.plan.Plan.{Plan}
use Rattle.vx_plan.specs.Components.{component_named, port_names}
use Rattle.vx_plan.specs.Graphs.{nodes_of}
use Rattle.vx_plan.specs.Targets.{targets}

-- the targets of a port of a component are those that the graph of the plan has for it
abbrev pub TargetsOfGraph : Type 0
TargetsOfGraph =
    (plan : Plan) (name : ByteString) (port : ℕ) (c : Component) → component_named plan name ≡ Some c → port < length (port_names c) →
    targets plan name port ≡ graph_targets (in_order (nodes_of plan)) name port
