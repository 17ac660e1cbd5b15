use Rattle.std.proofs.Common.{◌≡◌, take, map}
use Rattle.vx_graph.specs.Outputs.{row_of}
use Rattle.vx_graph.proofs.outputs.all_rows.Given as goal

abbrev pub invariant-loop-i : goal.invariant-loop-i
invariant-loop-i l = l.rows ≡ map (row_of l.nodes) (take l.i l.nodes)
