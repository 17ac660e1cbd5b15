use Rattle.vx_instances.proofs.Steps.{shut_knows, shut_stays, shut_at}
use Rattle.vx_instances.proofs.states.InstanceStates.shut.Goals as goal

pub returns-clause-knows : goal.returns-clause-knows
returns-clause-knows g c = shut_knows c.args.i c.self.view_is c.requires c.index_mut.ensures.value c.shut_port.ensures

pub returns-clause-stays : goal.returns-clause-stays
returns-clause-stays g c = shut_stays c.args.i c.self.view_is c.requires c.index_mut.ensures.value c.shut_port.ensures

pub returns-clause-shut : goal.returns-clause-shut
returns-clause-shut g c = shut_at c.args.i c.self.view_is c.requires c.index_mut.ensures.value c.shut_port.ensures
