use Rattle.std.proofs.Common.{length}
use Rattle.vx_graph.specs.Turns.{IsTurn, left_text}
use Rattle.vx_graph.specs.declared.pattern.Turn.{Turn}
use Rattle.vx_graph.proofs.pattern.compare.Given as goal

-- what is found of what is left is found of the whole
abbrev pub invariant-bytes : goal.invariant-bytes
invariant-bytes l = (turn : Turn) → IsTurn l.form (left_text l.left) turn → IsTurn l.fn.form (left_text l.fn.text) turn

abbrev pub decreases-bytes : goal.decreases-bytes
decreases-bytes l = length l.form
