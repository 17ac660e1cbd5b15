use Rattle.std.proofs.Common.{◌≡◌, take, map}
use Rattle.vx_graph.specs.Outputs.{readers_of}
use Rattle.vx_graph.proofs.outputs.all_readers.Given as goal

abbrev pub invariant-loop-i : goal.invariant-loop-i
invariant-loop-i l = l.lists ≡ map (readers_of l.nodes) (take l.i l.nodes)
