use Rattle.std.proofs.Common.{refl}
use Rattle.vx_instances.proofs.Staying.{stay}
use Rattle.vx_instances.proofs.Steps.{took_knows}
use Rattle.vx_instances.proofs.states.InstanceStates.took.Goals as goal

pub returns-clause-knows : goal.returns-clause-knows
returns-clause-knows g c = λ h s copies first moment.
    took_knows c.args.i c.self.view_is c.requires c.index_mut-state.ensures.value h s copies c.number_after-state.ensures c.number_after-state-2.ensures c.number_after-state-3.ensures first moment (c.took.ensures h c.args.i s copies)

pub returns-clause-stays : goal.returns-clause-stays
returns-clause-stays g c = stay c.args.i c.self.view_is c.requires c.index_mut-state.ensures.value _ _ _ refl refl refl
