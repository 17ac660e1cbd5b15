-- Cycles among components.
use Rattle.std.specs.Prelude.{◌≡◌, ℕ, List, [], map, slice_index_or}
use Rattle.vx_value.specs.Texts.{ByteString}
use Rattle.vx_graph.specs.declared.node.Node.{Node}
use Rattle.vx_graph.specs.Outputs.{name_of, rows_of}
use Rattle.vx_graph.specs.Rounds.{IsRound, AreApart, IsLeastFirst}

-- the name of the component at a place
abbrev pub name_at : List Node → ℕ → ByteString
name_at nodes i = slice_index_or (map name_of nodes) i []

-- the texts name distinct components, each read by the next and the last by the first, beginning with the first of
-- them in the components' order
pub record IsCycle (nodes : List Node) (texts : List ByteString) : Type 0 where
  pub places : List ℕ
  pub names : texts ≡ map (name_at nodes) places
  pub apart : AreApart places
  pub round : IsRound (rows_of nodes) places
  pub least : IsLeastFirst places
