use Rattle.std.proofs.Common.{◌≡◌, drop}
use Rattle.vx_graph.specs.Targets.{port_count}
use Rattle.vx_graph.proofs.graph.ports_named.Given as goal

abbrev pub invariant-loop-node : goal.invariant-loop-node
invariant-loop-node l = port_count l.nodes l.name ≡ port_count (drop l.node-index l.nodes) l.name
