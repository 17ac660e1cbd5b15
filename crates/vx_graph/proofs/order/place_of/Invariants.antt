use Rattle.std.proofs.Common.{◌≡◌, ◌+◌, drop}
use Rattle.std.specs.List.{position_or_len}
use Rattle.vx_graph.specs.Order.{node_le}
use Rattle.vx_graph.proofs.order.place_of.Given as goal

abbrev pub invariant-loop-i : goal.invariant-loop-i
invariant-loop-i l = position_or_len (node_le l.node) l.sorted ≡ l.i + position_or_len (node_le l.node) (drop l.i l.sorted)
