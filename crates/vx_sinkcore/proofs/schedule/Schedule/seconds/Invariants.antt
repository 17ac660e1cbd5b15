use Rattle.vx_sinkcore.proofs.Growing.{IsUnderway}
use Rattle.vx_sinkcore.proofs.schedule.Schedule.seconds.Given as goal

abbrev pub invariant-loop : goal.invariant-loop
invariant-loop l = IsUnderway l.self.initial_secs l.k l.counter l.wait l.next
