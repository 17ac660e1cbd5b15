use Rattle.std.proofs.Common.{refl}
use Rattle.vx_instances.proofs.Staying.{stay}
use Rattle.vx_instances.proofs.Steps.{confirmed_knows}
use Rattle.vx_instances.proofs.states.InstanceStates.confirmed.Goals as goal

pub returns-clause-knows : goal.returns-clause-knows
returns-clause-knows g c = λ h. confirmed_knows c.args.i c.self.view_is c.requires c.index_mut-state.ensures.value h (c.count_confirm.ensures h c.args.i)

pub returns-clause-stays : goal.returns-clause-stays
returns-clause-stays g c = stay c.args.i c.self.view_is c.requires c.index_mut-state.ensures.value _ _ _ refl refl refl
