use Rattle.std.proofs.Common.{length}
use Rattle.vx_plan.proofs.targets.+any_reads.Given as goal

abbrev pub decreases-any_reads : goal.decreases-any_reads
decreases-any_reads l = length l.inputs.now
