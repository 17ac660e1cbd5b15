use Rattle.std.proofs.Common.{refl}
use Rattle.vx_instances.proofs.Staying.{stay}
use Rattle.vx_instances.proofs.Steps.{idle_knows}
use Rattle.vx_instances.proofs.states.InstanceStates.idle.Goals as goal

pub returns-clause-knows : goal.returns-clause-knows
returns-clause-knows g c = idle_knows c.args.i c.self.view_is c.requires c.index_mut.ensures.value c.starts_after-facts.ensures c.rest_after.ensures c.saturating_add-facts.ensures

pub returns-clause-stays : goal.returns-clause-stays
returns-clause-stays g c = stay c.args.i c.self.view_is c.requires c.index_mut.ensures.value _ _ _ refl refl refl
