use Rattle.vx_record.proofs.OwnLeases.{turned_own, tried_own, confirmed_own}
use Rattle.vx_record.proofs.task_laws.own_leases.Goals as goal

pub returns-clause-turned : goal.returns-clause-turned
returns-clause-turned c = turned_own

pub returns-clause-attempted : goal.returns-clause-attempted
returns-clause-attempted c = tried_own

pub returns-clause-confirmed : goal.returns-clause-confirmed
returns-clause-confirmed c = confirmed_own
