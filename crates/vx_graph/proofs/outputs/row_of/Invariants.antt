use Rattle.std.proofs.Common.{◌≡◌, take, map}
use Rattle.std.specs.List.{list_any}
use Rattle.vx_graph.specs.Outputs.{reads_output}
use Rattle.vx_graph.proofs.outputs.row_of.Given as goal

abbrev pub invariant-loop-node : goal.invariant-loop-node
invariant-loop-node l = l.row ≡ map (λ reader. list_any (λ text. reads_output reader l.owner text) l.texts) (take l.node-index l.nodes)
