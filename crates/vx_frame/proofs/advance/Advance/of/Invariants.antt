use Rattle.std.proofs.Common.{length}
use Rattle.vx_frame.proofs.Cuts.{IsOnTheWay}
use Rattle.vx_frame.proofs.advance.Advance.of.Given as goal

abbrev pub invariant-loop-i : goal.invariant-loop-i
invariant-loop-i l = IsOnTheWay l.limit l.stream l.overlong l.fn.left l.bytes l.advance.lines l.advance.overlong l.advance.left l.rest

abbrev pub decreases-loop-i : goal.decreases-loop-i
decreases-loop-i l = length l.rest
