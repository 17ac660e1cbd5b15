use Rattle.vx_counts.proofs.DueEnds.{confirms_all}
use Rattle.vx_counts.proofs.laws.confirms.Goals as goal

pub returns : goal.returns
returns c = confirms_all
