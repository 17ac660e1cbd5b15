use Rattle.std.proofs.Common.{◌∙◌, Some, refl, ap}
use Rattle.vx_instances.proofs.Staying.{stay}
use Rattle.vx_instances.proofs.Steps.{leaves_own, no_sink, spent_knows}
use Rattle.vx_instances.proofs.states.InstanceStates.spent.Goals as goal

pub returns-clause-knows : goal.returns-clause-knows
returns-clause-knows g c = λ h k newest unread first.
    spent_knows c.args.i c.self.view_is c.requires c.index_mut-state.ensures.value h c.args.i (leaves_own h c.args.i k c.args.outcome newest)
    (λ class legal. c.count_spent.ensures h c.args.i k newest unread legal
    (λ is. class ∙ ap Some (c.is_sink-sink.ensures.yes is)) (λ is. no_sink class (c.is_sink-sink.ensures.no is)) first)

pub returns-clause-stays : goal.returns-clause-stays
returns-clause-stays g c = stay c.args.i c.self.view_is c.requires c.index_mut-state.ensures.value _ _ _ refl refl refl
