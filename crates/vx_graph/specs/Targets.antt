-- The readers of a component's port.
use Rattle.std.specs.Prelude.{ℕ, Option, Some, None, List, [], length, find, slice_index_or}
use Rattle.vx_value.specs.Texts.{ByteString, same_text}
use Rattle.vx_graph.specs.declared.node.Node.{Node}
use Rattle.vx_graph.specs.Outputs.{outputs_of, readers}

-- the component of a name
abbrev pub node_named : List Node → ByteString → Option Node
node_named nodes name = find (λ node. same_text node.name name) nodes

-- how many ports a component has
abbrev pub ports_in : Option Node → ℕ
ports_in None = 0
ports_in (Some node) = length node.ports

-- how many ports the component of a name has
abbrev pub port_count : List Node → ByteString → ℕ
port_count nodes name = ports_in (node_named nodes name)

-- the names of a component's readers at a port, in the components' order
abbrev pub targets_in : List Node → Option Node → ℕ → List ByteString
targets_in nodes None port = []
targets_in nodes (Some node) port = readers nodes node.name (slice_index_or (outputs_of node) port [])

-- the names of the components that read a port of the component of a name, in the components' order
abbrev pub targets : List Node → ByteString → ℕ → List ByteString
targets nodes name port = targets_in nodes (node_named nodes name) port
