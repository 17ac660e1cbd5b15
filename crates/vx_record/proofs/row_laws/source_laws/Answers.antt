use Rattle.vx_record.proofs.Promises.{turn_unlost, closed_takes_no_more}
use Rattle.vx_record.proofs.Turning.{turn_undry}
use Rattle.vx_record.proofs.row_laws.source_laws.Goals as goal

pub returns-clause-unlost : goal.returns-clause-unlost
returns-clause-unlost c = turn_unlost

pub returns-clause-undry : goal.returns-clause-undry
returns-clause-undry c = turn_undry

pub returns-clause-closed : goal.returns-clause-closed
returns-clause-closed c = closed_takes_no_more
