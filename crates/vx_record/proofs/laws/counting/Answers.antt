use Rattle.vx_record.proofs.Grows.{source_rises, transform_rises, sink_rises, tally_stays}
use Rattle.vx_record.proofs.SpentParcels.{spent_rises}
use Rattle.vx_record.proofs.laws.counting.Goals as goal

pub returns-clause-source : goal.returns-clause-source
returns-clause-source c = source_rises

pub returns-clause-transform : goal.returns-clause-transform
returns-clause-transform c = transform_rises

pub returns-clause-sink : goal.returns-clause-sink
returns-clause-sink c = sink_rises

pub returns-clause-stays : goal.returns-clause-stays
returns-clause-stays c = tally_stays

pub returns-clause-spent : goal.returns-clause-spent
returns-clause-spent c = spent_rises
