use Rattle.vx_counts.proofs.Numbering.{one_owner}
use Rattle.vx_counts.proofs.laws.owners.Goals as goal

pub returns : goal.returns
returns c = one_owner
