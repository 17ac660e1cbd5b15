use Rattle.vx_record.proofs.Answers.{inputs_parted, answer_holds, flush_empties}
use Rattle.vx_record.proofs.Waits.{discards_go, tick_last}
use Rattle.vx_record.proofs.laws.answering.Goals as goal

pub returns-clause-parted : goal.returns-clause-parted
returns-clause-parted c = inputs_parted

pub returns-clause-holds : goal.returns-clause-holds
returns-clause-holds c = answer_holds

pub returns-clause-empties : goal.returns-clause-empties
returns-clause-empties c = flush_empties

pub returns-clause-gone : goal.returns-clause-gone
returns-clause-gone c = discards_go

pub returns-clause-last : goal.returns-clause-last
returns-clause-last c = tick_last
