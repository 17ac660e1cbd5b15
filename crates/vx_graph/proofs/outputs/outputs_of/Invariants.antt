use Rattle.std.proofs.Common.{◌≡◌, take, map}
use Rattle.vx_graph.specs.Outputs.{output_text}
use Rattle.vx_graph.proofs.outputs.outputs_of.Given as goal

abbrev pub invariant-loop-port : goal.invariant-loop-port
invariant-loop-port l = l.texts ≡ map (output_text l.node.name) (take l.port-index l.node.ports)
