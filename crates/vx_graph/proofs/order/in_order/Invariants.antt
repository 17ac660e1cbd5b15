use Rattle.std.proofs.Common.{◌≡◌, vec_len}
use Rattle.vx_graph.specs.Order.{in_order, enter_all}
use Rattle.vx_graph.proofs.order.in_order.Given as goal

abbrev pub invariant-nodes : goal.invariant-nodes
invariant-nodes l = in_order l.fn.nodes ≡ enter_all l.left.items l.sorted.items

abbrev pub decreases-nodes : goal.decreases-nodes
decreases-nodes l = vec_len l.left
