use Rattle.vx_counts.proofs.Stays.{others_stay}
use Rattle.vx_counts.proofs.EachEntry.{each_counted}
use Rattle.vx_counts.proofs.OwnEntries.{counted_by_own}
use Rattle.vx_counts.proofs.laws.others.Goals as goal

pub returns-clause-stay : goal.returns-clause-stay
returns-clause-stay c = others_stay

pub returns-clause-each : goal.returns-clause-each
returns-clause-each c = each_counted

pub returns-clause-own : goal.returns-clause-own
returns-clause-own c = counted_by_own
