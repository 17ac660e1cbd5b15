use Rattle.vx_record.proofs.LegalNotices.{running_status, delivered_where_good}
use Rattle.vx_record.proofs.laws.running_status.Goals as goal

pub returns-clause-running : goal.returns-clause-running
returns-clause-running c = running_status

pub returns-clause-good : goal.returns-clause-good
returns-clause-good c = delivered_where_good
