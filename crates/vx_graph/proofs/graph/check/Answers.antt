use Rattle.vx_graph.proofs.Sorting.{order_is_order, order_is_same}
use Rattle.vx_graph.proofs.graph.check.Goals as goal

pub returns-in_err-nodes-clause-order : goal.returns-in_err-nodes-clause-order
returns-in_err-nodes-clause-order c = order_is_order c.args.nodes

pub returns-in_err-nodes-clause-same : goal.returns-in_err-nodes-clause-same
returns-in_err-nodes-clause-same c = order_is_same c.args.nodes

pub returns-clause-order : goal.returns-clause-order
returns-clause-order c = order_is_order c.args.nodes

pub returns-clause-same : goal.returns-clause-same
returns-clause-same c = order_is_same c.args.nodes
