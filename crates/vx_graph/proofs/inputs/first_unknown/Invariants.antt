use Rattle.std.proofs.Common.{◌≡◌, drop}
use Rattle.vx_graph.specs.Faults.{first_unknown, unknown_among}
use Rattle.vx_graph.proofs.inputs.first_unknown.Given as goal

abbrev pub invariant-loop-reader : goal.invariant-loop-reader
invariant-loop-reader l = first_unknown l.nodes ≡ unknown_among l.nodes (drop l.reader-index l.nodes)
