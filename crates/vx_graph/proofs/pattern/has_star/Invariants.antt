use Rattle.std.proofs.Common.{◌≡◌, drop}
use Rattle.vx_graph.specs.Patterns.{has_star}
use Rattle.vx_graph.proofs.pattern.has_star.Given as goal

abbrev pub invariant-loop-c : goal.invariant-loop-c
invariant-loop-c l = has_star l.text ≡ has_star (drop l.c-index l.text)
