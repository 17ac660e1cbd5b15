use Rattle.std.proofs.Common.{refl}
use Rattle.vx_instances.proofs.Staying.{stay}
use Rattle.vx_instances.proofs.Steps.{attempted_knows}
use Rattle.vx_instances.proofs.states.InstanceStates.attempted.Goals as goal

pub returns-clause-knows : goal.returns-clause-knows
returns-clause-knows g c = λ h copies gave bytes.
    attempted_knows c.args.i c.self.view_is c.requires c.index_mut-state.ensures.value h copies gave c.args.reply c.is_failed-failed.ensures c.failures_after-state.ensures c.number_after-state.ensures
    (λ legal. c.attempted.ensures h c.args.i copies gave c.args.reply legal bytes)

pub returns-clause-stays : goal.returns-clause-stays
returns-clause-stays g c = stay c.args.i c.self.view_is c.requires c.index_mut-state.ensures.value _ _ _ refl refl refl
