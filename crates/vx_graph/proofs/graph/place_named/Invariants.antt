use Rattle.std.proofs.Common.{◌≡◌, ◌+◌, drop}
use Rattle.std.specs.List.{position_or_len}
use Rattle.vx_value.specs.Texts.{same_text}
use Rattle.vx_graph.specs.declared.node.Node.{Node}
use Rattle.vx_graph.proofs.graph.place_named.Given as goal

abbrev pub invariant-loop-i : goal.invariant-loop-i
invariant-loop-i l =
    position_or_len (λ (node : Node). same_text node.name l.name) l.nodes
    ≡ l.i + position_or_len (λ (node : Node). same_text node.name l.name) (drop l.i l.nodes)
