-- Components in the byte order of their names.
use Rattle.std.specs.Prelude.{◌≡◌, Bool, true, List, [], ◌∷◌, if◌then◌else◌, AllPairs}
use Rattle.vx_value.specs.Texts.{text_le}
use Rattle.vx_graph.specs.declared.node.Node.{Node}

-- whether a component's name comes no later than another's
abbrev pub node_le : Node → Node → Bool
node_le a b = text_le a.name b.name

-- a component put among sorted ones
unfoldable pub enter : Node → List Node → List Node
enter node [] = node ∷ []
enter node (first ∷ rest) = if node_le node first then node ∷ first ∷ rest else first ∷ enter node rest

-- some components sorted by the bytes of their names
unfoldable pub in_order : List Node → List Node
in_order [] = []
in_order (node ∷ rest) = enter node (in_order rest)

-- each component's name comes no later than those of the components behind it
abbrev pub IsInOrder : List Node → Type 0
IsInOrder nodes = AllPairs (λ a b. node_le a b ≡ true) nodes

-- some components put among sorted ones, the last first
unfoldable pub enter_all : List Node → List Node → List Node
enter_all [] sorted = sorted
enter_all (node ∷ rest) sorted = enter node (enter_all rest sorted)
