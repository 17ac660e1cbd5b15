use Rattle.std.proofs.Common.{refl}
use Rattle.vx_instances.proofs.Staying.{writes}
use Rattle.vx_instances.proofs.Steps.{owed_knows}
use Rattle.vx_instances.proofs.states.InstanceStates.owed.Goals as goal

pub returns-clause-knows : goal.returns-clause-knows
returns-clause-knows g c = owed_knows c.args.i c.self.view_is c.requires c.index_mut.ensures.value

pub returns-clause-owing : goal.returns-clause-owing
returns-clause-owing g c = writes c.args.i c.self.view_is c.requires c.index_mut.ensures.value _ _ refl
