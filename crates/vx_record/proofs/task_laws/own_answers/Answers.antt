use Rattle.vx_record.proofs.OwnAnswers.{discarded_own, took_own, ticks_own}
use Rattle.vx_record.proofs.task_laws.own_answers.Goals as goal

pub returns-clause-discarded : goal.returns-clause-discarded
returns-clause-discarded c = discarded_own

pub returns-clause-took : goal.returns-clause-took
returns-clause-took c = took_own

pub returns-clause-ticks : goal.returns-clause-ticks
returns-clause-ticks c = ticks_own
