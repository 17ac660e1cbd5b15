use Rattle.std.proofs.Common.{length}
use Rattle.vx_plan.proofs.names.+text_le.Given as goal

abbrev pub decreases-text_le : goal.decreases-text_le
decreases-text_le l = length l.a.now
