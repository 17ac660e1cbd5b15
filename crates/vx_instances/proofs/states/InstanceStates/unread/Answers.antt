use Rattle.std.proofs.Common.{◌∙◌, Some, refl, ap}
use Rattle.vx_status.specs.declared.outcome.Outcome.TheVariants.{NoConsumer}
use Rattle.vx_instances.proofs.Staying.{stay}
use Rattle.vx_instances.proofs.Steps.{gives, leaves_own, spent_knows}
use Rattle.vx_instances.proofs.states.InstanceStates.unread.Goals as goal

pub returns-clause-knows : goal.returns-clause-knows
returns-clause-knows g c = λ h k copies put first.
    spent_knows c.args.i c.self.view_is c.requires c.index_mut-state.ensures.value h c.args.i (leaves_own h c.args.i k NoConsumer refl)
    (λ class legal. c.count_unread.ensures h c.args.i k copies legal
    (λ is. class ∙ ap Some (c.is_sink-sink.ensures.yes is)) (λ is. gives c.index_mut-state.result.now.class class (c.is_sink-sink.ensures.no is)) put first)

pub returns-clause-stays : goal.returns-clause-stays
returns-clause-stays g c = stay c.args.i c.self.view_is c.requires c.index_mut-state.ensures.value _ _ _ refl refl refl
