use Rattle.std.proofs.Common.{length}
use Rattle.vx_plan.proofs.names.+named.Given as goal

abbrev pub decreases-named : goal.decreases-named
decreases-named l = length l.components.now
