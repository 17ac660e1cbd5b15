use Rattle.vx_record.proofs.OwnConfirms.{births_own, confirmed_own, last_own, unconfirmed_own, given_own}
use Rattle.vx_record.proofs.task_laws.own_confirms.Goals as goal

pub returns-clause-births : goal.returns-clause-births
returns-clause-births c = births_own

pub returns-clause-confirmed : goal.returns-clause-confirmed
returns-clause-confirmed c = confirmed_own

pub returns-clause-last : goal.returns-clause-last
returns-clause-last c = last_own

pub returns-clause-unconfirmed : goal.returns-clause-unconfirmed
returns-clause-unconfirmed c = unconfirmed_own

pub returns-clause-given : goal.returns-clause-given
returns-clause-given c = given_own
