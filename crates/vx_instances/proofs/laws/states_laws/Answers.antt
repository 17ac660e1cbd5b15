use Rattle.vx_instances.proofs.Aside.{aside_known, given_up_known, noticed_all, confirm_due}
use Rattle.vx_instances.proofs.Staying.{stays_known}
use Rattle.vx_instances.proofs.laws.states_laws.Goals as goal

pub returns-clause-aside : goal.returns-clause-aside
returns-clause-aside g c = aside_known g.P.Port.observed

pub returns-clause-given_up : goal.returns-clause-given_up
returns-clause-given_up g c = given_up_known g.P.Port.observed

pub returns-clause-noticed : goal.returns-clause-noticed
returns-clause-noticed g c = noticed_all g.P.Port.observed

pub returns-clause-due : goal.returns-clause-due
returns-clause-due g c = confirm_due g.P.Port.observed

pub returns-clause-stays : goal.returns-clause-stays
returns-clause-stays g c = stays_known g.P.Port.observed
