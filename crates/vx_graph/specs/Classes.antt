-- Which class a component has.
use Rattle.std.specs.Prelude.{Bool, true, false}
use Rattle.vx_graph.specs.declared.node.Class.{Class}
use Rattle.vx_graph.specs.declared.node.Class.TheVariants.{Source, Sink}
use Rattle.vx_graph.specs.declared.node.Node.{Node}

-- whether it is a source
abbrev pub source_class : Class → Bool
source_class Source = true
source_class class = false

abbrev pub is_source : Node → Bool
is_source node = source_class node.class

-- whether it is a sink
abbrev pub sink_class : Class → Bool
sink_class Sink = true
sink_class class = false

abbrev pub is_sink : Node → Bool
is_sink node = sink_class node.class
