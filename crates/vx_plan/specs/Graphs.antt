-- The graph of a plan.
use Rattle.std.specs.Prelude.{List, map}
use Rattle.vx_graph.specs.declared.node.Class as graph_class
use Rattle.vx_graph.specs.declared.node.Class.TheVariants as graph
use Rattle.vx_graph.specs.declared.node.Node.{Node}
use Rattle.vx_plan.specs.declared.class.Class.{Class}
use Rattle.vx_plan.specs.declared.class.Class.TheVariants.{Source, Transform, Sink}
use Rattle.vx_plan.specs.declared.component.Component.{Component}
use Rattle.vx_plan.specs.declared.plan.Plan.{Plan}
use Rattle.vx_plan.specs.Components.{port_names}

-- the class of a component in the graph
abbrev pub node_class : Class → graph_class.Class
node_class Source = graph.Source
node_class Transform = graph.Transform
node_class Sink = graph.Sink

-- a component as the graph has it
abbrev pub node_of : Component → Node
node_of c = record { name = c.name; class = node_class c.class; ports = port_names c; inputs = c.inputs }

-- the graph of a plan
abbrev pub nodes_of : Plan → List Node
nodes_of plan = map node_of plan.components
