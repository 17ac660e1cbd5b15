use Rattle.std.proofs.Common.{refl}
use Rattle.vx_instances.proofs.Staying.{stay}
use Rattle.vx_instances.proofs.Steps.{noticed_knows}
use Rattle.vx_instances.proofs.states.InstanceStates.noticed.Goals as goal

pub returns-clause-knows : goal.returns-clause-knows
returns-clause-knows g c = λ h own.
    noticed_knows c.args.notice.instance c.self.view_is c.requires c.index_mut-state.ensures.value h c.saturating_sub-state.ensures c.notice.ensures.waits c.notice.ensures.noticed
    (λ legal. c.noticed.ensures h c.args.notice.instance c.args.notice.batch legal own) own

pub returns-clause-stays : goal.returns-clause-stays
returns-clause-stays g c = stay c.args.notice.instance c.self.view_is c.requires c.index_mut-state.ensures.value _ _ _ refl refl refl
