use Rattle.std.proofs.Common.{◌≡◌, drop}
use Rattle.vx_graph.specs.Outputs.{is_known}
use Rattle.vx_graph.proofs.outputs.is_known.Given as goal

abbrev pub invariant-loop-i : goal.invariant-loop-i
invariant-loop-i l = is_known l.nodes l.reader l.input ≡ is_known (drop l.i l.nodes) l.reader l.input
