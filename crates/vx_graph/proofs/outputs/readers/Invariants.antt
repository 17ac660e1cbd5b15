use Rattle.std.proofs.Common.{◌≡◌, take}
use Rattle.vx_graph.specs.Outputs.{readers}
use Rattle.vx_graph.proofs.outputs.readers.Given as goal

abbrev pub invariant-loop-node : goal.invariant-loop-node
invariant-loop-node l = l.names ≡ readers (take l.node-index l.nodes) l.owner l.text
