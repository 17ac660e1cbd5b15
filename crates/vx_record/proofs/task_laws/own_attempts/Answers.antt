use Rattle.vx_record.proofs.OwnAttempts.{taken_own, attempts_own, failures_own, failed_own, attempted_own, reply_own}
use Rattle.vx_record.proofs.task_laws.own_attempts.Goals as goal

pub returns-clause-taken : goal.returns-clause-taken
returns-clause-taken c = taken_own

pub returns-clause-attempts : goal.returns-clause-attempts
returns-clause-attempts c = attempts_own

pub returns-clause-failures : goal.returns-clause-failures
returns-clause-failures c = failures_own

pub returns-clause-failed : goal.returns-clause-failed
returns-clause-failed c = failed_own

pub returns-clause-attempted : goal.returns-clause-attempted
returns-clause-attempted c = attempted_own

pub returns-clause-reply : goal.returns-clause-reply
returns-clause-reply c = reply_own
