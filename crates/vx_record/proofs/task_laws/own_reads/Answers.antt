use Rattle.vx_record.proofs.OwnReads.{taken_own, bytes_own, end_own, ended_own, last_own, stream_own, open_own, lost_own, loss_own, starts_own}
use Rattle.vx_record.proofs.task_laws.own_reads.Goals as goal

pub returns-clause-taken : goal.returns-clause-taken
returns-clause-taken c = taken_own

pub returns-clause-bytes : goal.returns-clause-bytes
returns-clause-bytes c = bytes_own

pub returns-clause-all : goal.returns-clause-all
returns-clause-all c = end_own

pub returns-clause-ended : goal.returns-clause-ended
returns-clause-ended c = ended_own

pub returns-clause-last : goal.returns-clause-last
returns-clause-last c = last_own

pub returns-clause-stream : goal.returns-clause-stream
returns-clause-stream c = stream_own

pub returns-clause-open : goal.returns-clause-open
returns-clause-open c = open_own

pub returns-clause-lost : goal.returns-clause-lost
returns-clause-lost c = lost_own

pub returns-clause-loss : goal.returns-clause-loss
returns-clause-loss c = loss_own

pub returns-clause-starts : goal.returns-clause-starts
returns-clause-starts c = starts_own
