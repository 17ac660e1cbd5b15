use Rattle.vx_record.proofs.OwnCounts.{faults_own, refusals_own, idles_own, finishes_own, confirms_own, events_own, takes_own, sent_own, dropped_own, attempts_own, bytes_own, ends_own}
use Rattle.vx_record.proofs.task_laws.own_counts.Goals as goal

pub returns-clause-faults : goal.returns-clause-faults
returns-clause-faults c = faults_own

pub returns-clause-refusals : goal.returns-clause-refusals
returns-clause-refusals c = refusals_own

pub returns-clause-idles : goal.returns-clause-idles
returns-clause-idles c = idles_own

pub returns-clause-finishes : goal.returns-clause-finishes
returns-clause-finishes c = finishes_own

pub returns-clause-confirms : goal.returns-clause-confirms
returns-clause-confirms c = confirms_own

pub returns-clause-events : goal.returns-clause-events
returns-clause-events c = events_own

pub returns-clause-takes : goal.returns-clause-takes
returns-clause-takes c = takes_own

pub returns-clause-sent : goal.returns-clause-sent
returns-clause-sent c = sent_own

pub returns-clause-dropped : goal.returns-clause-dropped
returns-clause-dropped c = dropped_own

pub returns-clause-attempts : goal.returns-clause-attempts
returns-clause-attempts c = attempts_own

pub returns-clause-bytes : goal.returns-clause-bytes
returns-clause-bytes c = bytes_own

pub returns-clause-ends : goal.returns-clause-ends
returns-clause-ends c = ends_own
