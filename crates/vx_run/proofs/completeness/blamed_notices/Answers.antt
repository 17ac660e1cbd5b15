use Rattle.vx_run.proofs.Completing.{errored_blames, rejected_blames}
use Rattle.vx_run.proofs.completeness.blamed_notices.Goals as goal

pub returns-clause-errored : goal.returns-clause-errored
returns-clause-errored g = errored_blames

pub returns-clause-rejected : goal.returns-clause-rejected
returns-clause-rejected g = rejected_blames
