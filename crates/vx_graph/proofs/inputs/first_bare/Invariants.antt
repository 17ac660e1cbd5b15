use Rattle.std.proofs.Common.{◌≡◌, drop}
use Rattle.vx_graph.specs.Faults.{first_bare}
use Rattle.vx_graph.proofs.inputs.first_bare.Given as goal

abbrev pub invariant-loop-node : goal.invariant-loop-node
invariant-loop-node l = first_bare l.nodes ≡ first_bare (drop l.node-index l.nodes)
