use Rattle.std.specs.List.{list_any}
use Rattle.vx_graph.specs.Outputs.{reads_output}
use Rattle.vx_graph.specs.declared.node.Node.{Node}
use Rattle.vx_graph.proofs.Lists.{map_step}
use Rattle.vx_graph.proofs.outputs.row_of.Goals as goal

pub loop-node-preserved : goal.loop-node-preserved
loop-node-preserved c =
    map_step (λ (reader : Node). list_any (λ text. reads_output reader c.args.owner.now text) c.args.texts.now) c.args.nodes.now
    c.loop-node.node-index c.node-item.result c.loop-node.row c.push.new.list
    c.reads_some.result c.loop-node-test.true c.node-item.is c.loop-node.invariant c.in_ok-push.ensures c.reads_some.ensures
