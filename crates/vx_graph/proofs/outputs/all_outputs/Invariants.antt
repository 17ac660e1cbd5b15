use Rattle.std.proofs.Common.{◌≡◌, take, map}
use Rattle.vx_graph.specs.Outputs.{outputs_of}
use Rattle.vx_graph.proofs.outputs.all_outputs.Given as goal

abbrev pub invariant-loop-node : goal.invariant-loop-node
invariant-loop-node l = l.lists ≡ map outputs_of (take l.node-index l.nodes)
