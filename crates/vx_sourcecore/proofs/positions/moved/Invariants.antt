use Rattle.std.proofs.Common.{◌≡◌, ◌++◌, length}
use Rattle.vx_record.specs.Confirms.{moved_to}
use Rattle.vx_sourcecore.proofs.positions.moved.Given as goal

abbrev pub invariant-loop-first : goal.invariant-loop-first
invariant-loop-first l = l.before ++ moved_to l.fn.to.stream l.fn.to.end l.rest ≡ moved_to l.fn.to.stream l.fn.to.end l.fn.positions

abbrev pub decreases-loop-first : goal.decreases-loop-first
decreases-loop-first l = length l.rest
