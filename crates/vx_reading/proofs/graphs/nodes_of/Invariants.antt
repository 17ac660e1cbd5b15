use Rattle.std.proofs.Common.{◌≡◌, ◌++◌, map, drop}
use Rattle.vx_plan.specs.Graphs.{node_of}
use Rattle.vx_reading.proofs.graphs.nodes_of.Given as goal

-- what is left to add makes the list whole
abbrev pub invariant-loop-component : goal.invariant-loop-component
invariant-loop-component l = l.nodes ++ map node_of (drop l.component-index l.component-items) ≡ map node_of l.component-items
