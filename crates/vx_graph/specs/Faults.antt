-- Which graph is accepted, and which fault a refused one has. The components are in byte order.
use Rattle.std.specs.Prelude.{◌≡◌, Bool, true, false, not, ◌&&◌, Option, Some, None, option_map, List, [], ◌∷◌, find}
use Rattle.std.specs.List.{list_any}
use Rattle.vx_value.specs.Texts.{ByteString, is_empty}
use Rattle.vx_graph.specs.declared.node.Node.{Node}
use Rattle.vx_graph.specs.declared.graph_fault.GraphFault.{GraphFault}
use Rattle.vx_graph.specs.declared.graph_fault.GraphFault.TheVariants.{NoSources, NoSinks, NoInputs, UnknownInput, Cycle, WantOfMemory}
use Rattle.vx_graph.specs.Classes.{is_source, is_sink}
use Rattle.vx_graph.specs.Cycles.{IsCycle}
use Rattle.vx_graph.specs.Outputs.{is_known, name_of}

-- whether a component that must read somebody has no input
abbrev pub lacks_inputs : Node → Bool
lacks_inputs node = not (is_source node) && is_empty node.inputs

-- the name of the first component that must read somebody and has no input
abbrev pub first_bare : List Node → Option ByteString
first_bare nodes = option_map name_of (find lacks_inputs nodes)

-- a component's first input that means no output
abbrev pub unknown_in : List Node → Node → Option ByteString
unknown_in nodes reader = find (λ input. not (is_known nodes reader.name input)) reader.inputs

-- a component's name and one of its inputs
pub record Unknown : Type 0 where
  pub reader : ByteString
  pub input : ByteString

-- of two unknown inputs the first
abbrev pub first_diagnostic : ByteString → Option ByteString → Option Unknown → Option Unknown
first_diagnostic reader None later = later
first_diagnostic reader (Some input) later = Some (record { reader = reader; input = input })

-- the first component, of some, with an input that means no output, and its first such input
abbrev pub unknown_among : List Node → List Node → Option Unknown
unknown_among nodes [] = None
unknown_among nodes (reader ∷ rest) = first_diagnostic reader.name (unknown_in nodes reader) (unknown_among nodes rest)

-- the first component with an input that means no output, and its first such input
abbrev pub first_unknown : List Node → Option Unknown
first_unknown nodes = unknown_among nodes nodes

-- a graph that is accepted
pub record IsAccepted (nodes : List Node) : Type 0 where
  pub sources : list_any is_source nodes ≡ true
  pub sinks : list_any is_sink nodes ≡ true
  pub inputs : first_bare nodes ≡ None
  pub known : first_unknown nodes ≡ None
  pub acyclic : (texts : List ByteString) → IsCycle nodes texts → ⊥

-- a source and a sink are there
abbrev pub HasEnds : List Node → Type 0
HasEnds nodes = (list_any is_source nodes ≡ true) × (list_any is_sink nodes ≡ true)

-- the fault of a graph: each comes only where none that stands before it does
abbrev pub IsFault : List Node → GraphFault → Type 0
IsFault nodes NoSources = list_any is_source nodes ≡ false
IsFault nodes NoSinks = (list_any is_source nodes ≡ true) × (list_any is_sink nodes ≡ false)
IsFault nodes (NoInputs name) = HasEnds nodes × (first_bare nodes ≡ Some name)
IsFault nodes (UnknownInput name input) =
    HasEnds nodes × (first_bare nodes ≡ None) × (first_unknown nodes ≡ Some (record { reader = name; input = input }))
IsFault nodes (Cycle texts) =
    HasEnds nodes × (first_bare nodes ≡ None) × (first_unknown nodes ≡ None) × IsCycle nodes texts
IsFault nodes WantOfMemory = Unit {0}
