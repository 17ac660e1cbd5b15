use Rattle.vx_graph.specs.Outputs.{outputs_of}
use Rattle.vx_graph.proofs.Lists.{map_step}
use Rattle.vx_graph.proofs.outputs.all_outputs.Goals as goal

pub loop-node-preserved : goal.loop-node-preserved
loop-node-preserved c =
    map_step outputs_of c.args.nodes.now c.loop-node.node-index c.node-item.result c.loop-node.lists c.push.new.list
    c.in_ok-outputs_of.field-0 c.loop-node-test.true c.node-item.is c.loop-node.invariant c.in_ok-push.ensures c.in_ok-outputs_of.ensures
