use Rattle.vx_counts.proofs.SpentFrom.{legal_place, stands_put}
use Rattle.vx_counts.proofs.Putting.{put_now, put_stays}
use Rattle.vx_counts.proofs.laws.places.Goals as goal

pub returns-clause-place : goal.returns-clause-place
returns-clause-place c = legal_place

pub returns-clause-put : goal.returns-clause-put
returns-clause-put c = stands_put

pub returns-clause-now : goal.returns-clause-now
returns-clause-now c = put_now

pub returns-clause-stays : goal.returns-clause-stays
returns-clause-stays c = put_stays
