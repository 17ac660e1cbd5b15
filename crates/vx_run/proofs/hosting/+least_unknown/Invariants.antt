use Rattle.std.proofs.Common.{length}
use Rattle.vx_run.proofs.hosting.+least_unknown.Given as goal

abbrev pub decreases-least_unknown : goal.decreases-least_unknown
decreases-least_unknown g l = length l.components.now
