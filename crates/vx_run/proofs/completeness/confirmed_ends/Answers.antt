use Rattle.vx_run.proofs.Completing.{none_due_at_end}
use Rattle.vx_run.proofs.completeness.confirmed_ends.Goals as goal

pub returns : goal.returns
returns g = none_due_at_end
