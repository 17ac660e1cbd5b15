use Rattle.vx_counts.proofs.EachMet.{all_met}
use Rattle.vx_counts.proofs.laws.all.Goals as goal

pub returns : goal.returns
returns c = all_met
