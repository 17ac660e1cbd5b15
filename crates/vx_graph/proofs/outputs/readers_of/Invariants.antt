use Rattle.std.proofs.Common.{◌≡◌, take, map}
use Rattle.vx_graph.specs.Outputs.{readers}
use Rattle.vx_graph.proofs.outputs.readers_of.Given as goal

abbrev pub invariant-loop-text : goal.invariant-loop-text
invariant-loop-text l = l.lists ≡ map (readers l.nodes l.owner) (take l.text-index l.texts)
