use Rattle.vx_record.proofs.Wired.{in_force_accepted}
use Rattle.vx_record.proofs.row_laws.plan_laws.Goals as goal

pub returns : goal.returns
returns c = record { accepted = in_force_accepted }
