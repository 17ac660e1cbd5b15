use Rattle.std.proofs.Common.{refl}
use Rattle.vx_instances.proofs.Staying.{stay}
use Rattle.vx_instances.proofs.Steps.{ready_knows}
use Rattle.vx_instances.proofs.states.InstanceStates.prepare.Goals as goal

pub returns-clause-knows : goal.returns-clause-knows
returns-clause-knows g c = ready_knows c.args.i c.self.view_is c.requires c.index_mut.ensures.value c.prepare.ensures.same

pub returns-clause-stays : goal.returns-clause-stays
returns-clause-stays g c = stay c.args.i c.self.view_is c.requires c.index_mut.ensures.value _ _ _ refl refl refl
