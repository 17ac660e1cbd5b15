use Rattle.vx_record.proofs.Events.{one_event}
use Rattle.vx_record.proofs.Further.{numbers_bounded}
use Rattle.vx_record.proofs.laws.one_event.Goals as goal

pub returns-clause-event : goal.returns-clause-event
returns-clause-event c = one_event

pub returns-clause-numbers : goal.returns-clause-numbers
returns-clause-numbers c = numbers_bounded
