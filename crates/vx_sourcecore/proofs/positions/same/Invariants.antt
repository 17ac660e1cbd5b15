use Rattle.std.proofs.Common.{◌≡◌, length}
use Rattle.vx_record.specs.Confirms.{same_positions}
use Rattle.vx_sourcecore.proofs.positions.same.Given as goal

abbrev pub invariant-loop-p : goal.invariant-loop-p
invariant-loop-p l = same_positions l.left l.right ≡ same_positions l.fn.a l.fn.b

abbrev pub decreases-loop-p : goal.decreases-loop-p
decreases-loop-p l = length l.left
