use Rattle.std.proofs.Common.{refl}
use Rattle.vx_instances.proofs.Staying.{writes}
use Rattle.vx_instances.proofs.Steps.{back_knows}
use Rattle.vx_instances.proofs.states.InstanceStates.arrive.Goals as goal

pub returns-clause-knows : goal.returns-clause-knows
returns-clause-knows g c = back_knows c.args.i c.self.view_is c.requires c.index_mut.ensures.value c.args.task

pub returns-clause-back : goal.returns-clause-back
returns-clause-back g c = writes c.args.i c.self.view_is c.requires c.index_mut.ensures.value _ _ refl
