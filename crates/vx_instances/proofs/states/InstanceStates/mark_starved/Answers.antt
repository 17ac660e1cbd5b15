use Rattle.std.proofs.Common.{refl}
use Rattle.vx_instances.proofs.Staying.{writes}
use Rattle.vx_instances.proofs.Steps.{starved_knows}
use Rattle.vx_instances.proofs.states.InstanceStates.mark_starved.Goals as goal

pub returns-clause-knows : goal.returns-clause-knows
returns-clause-knows g c = starved_knows c.args.i c.self.view_is c.requires c.index_mut.ensures.value

pub returns-clause-starved : goal.returns-clause-starved
returns-clause-starved g c = writes c.args.i c.self.view_is c.requires c.index_mut.ensures.value _ _ refl
