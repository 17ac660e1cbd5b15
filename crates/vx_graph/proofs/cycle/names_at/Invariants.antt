use Rattle.std.proofs.Common.{◌≡◌, map, take}
use Rattle.vx_graph.specs.Cycles.{name_at}
use Rattle.vx_graph.proofs.cycle.names_at.Given as goal

abbrev pub invariant-loop-place : goal.invariant-loop-place
invariant-loop-place l = l.names ≡ map (name_at l.nodes) (take l.place-index l.places)
