-- Which component reads which output.
use Rattle.std.specs.Prelude.{Bool, not, ◌&&◌, List, [], ◌∷◌, ◌++◌, map, filter}
use Rattle.std.specs.List.{list_any}
use Rattle.vx_value.specs.Texts.{ByteString, same_text}
use Rattle.vx_graph.specs.Patterns.{is_like, has_star}
use Rattle.vx_graph.specs.declared.node.Node.{Node}

-- the text by which inputs name a component's port
abbrev pub output_text : ByteString → ByteString → ByteString
output_text name [] = name
output_text name (c ∷ port) = name ++ 46 ∷ c ∷ port

-- the texts of a component's ports
abbrev pub outputs_of : Node → List ByteString
outputs_of node = map (output_text node.name) node.ports

-- whether a reader's input means an output of an owner: one with `*` never means the reader's own
abbrev pub is_met : ByteString → ByteString → ByteString → ByteString → Bool
is_met reader owner input text = is_like input text && not (has_star input && same_text reader owner)

-- whether a component reads an output of an owner
abbrev pub reads_output : Node → ByteString → ByteString → Bool
reads_output reader owner text = list_any (λ input. is_met reader.name owner input text) reader.inputs

-- whether a component reads some output of another
abbrev pub reads_from : Node → Node → Bool
reads_from reader node = list_any (λ text. reads_output reader node.name text) (outputs_of node)

-- a component's name
abbrev pub name_of : Node → ByteString
name_of node = node.name

-- the names of the components that read an output of an owner
abbrev pub readers : List Node → ByteString → ByteString → List ByteString
readers nodes owner text = map name_of (filter (λ reader. reads_output reader owner text) nodes)

-- the readers of each output of a component
abbrev pub readers_of : List Node → Node → List (List ByteString)
readers_of nodes node = map (readers nodes node.name) (outputs_of node)

-- whether a reader's input means some output
abbrev pub is_known : List Node → ByteString → ByteString → Bool
is_known nodes reader input = list_any (λ (node : Node). list_any (λ text. is_met reader node.name input text) (outputs_of node)) nodes

-- whether each component reads a component
abbrev pub row_of : List Node → Node → List Bool
row_of nodes node = map (λ reader. reads_from reader node) nodes

-- for each component, whether each component reads it
abbrev pub rows_of : List Node → List (List Bool)
rows_of nodes = map (row_of nodes) nodes
