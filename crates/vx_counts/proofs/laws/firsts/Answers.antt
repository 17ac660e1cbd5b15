use Rattle.vx_counts.proofs.Dropping.{first_of_taken}
use Rattle.vx_counts.proofs.laws.firsts.Goals as goal

pub returns : goal.returns
returns c = first_of_taken
