use Rattle.std.proofs.Common.{◌≡◌, ◌++◌, length}
use Rattle.vx_sourcecore.proofs.positions.append.Given as goal

abbrev pub invariant-loop-first : goal.invariant-loop-first
invariant-loop-first l = l.list ++ l.rest ≡ l.fn.list ++ l.fn.more

abbrev pub decreases-loop-first : goal.decreases-loop-first
decreases-loop-first l = length l.rest
