use Rattle.std.proofs.Common.{◌∙◌, Some, refl, ap}
use Rattle.vx_instances.proofs.Staying.{stay}
use Rattle.vx_instances.proofs.Steps.{leaves_target, no_sink, spent_knows}
use Rattle.vx_instances.proofs.states.InstanceStates.dropped.Goals as goal

pub returns-clause-knows : goal.returns-clause-knows
returns-clause-knows g c = λ h i k copies put first.
    spent_knows c.args.target c.self.view_is c.requires c.index_mut-state.ensures.value h i (λ legal. leaves_target h i c.args.target k copies put)
    (λ class legal. c.count_dropped.ensures h i c.args.target k copies legal
    (λ is. class ∙ ap Some (c.is_sink-sink.ensures.yes is)) (λ is. no_sink class (c.is_sink-sink.ensures.no is)) put first)

pub returns-clause-stays : goal.returns-clause-stays
returns-clause-stays g c = stay c.args.target c.self.view_is c.requires c.index_mut-state.ensures.value _ _ _ refl refl refl
