use Rattle.std.proofs.Common.{length}
use Rattle.vx_plan.proofs.targets.+readers.Given as goal

abbrev pub decreases-readers : goal.decreases-readers
decreases-readers l = length l.components.now
