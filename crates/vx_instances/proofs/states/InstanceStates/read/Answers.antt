use Rattle.std.proofs.Common.{◌∙◌, Bool, refl, ap}
use Rattle.std.specs.Prelude.{◌||◌, not}
use Rattle.vx_instances.proofs.Staying.{read_stays}
use Rattle.vx_instances.proofs.Steps.{read_knows}
use Rattle.vx_instances.proofs.states.InstanceStates.read.Goals as goal

pub returns-clause-knows : goal.returns-clause-knows
returns-clause-knows g c = λ h stream took bytes ends new.
    read_knows c.args.i c.self.view_is c.requires c.index_mut-state.ensures.value h c.either-state.ensures c.either-state-2.ensures c.saturating_add-state.ensures ends
    (λ counted legal. c.count_read-counted.ensures.counts counted h c.args.i stream took legal bytes new)

pub returns-clause-stays : goal.returns-clause-stays
returns-clause-stays g c = read_stays c.args.i c.self.view_is c.requires c.index_mut-state.ensures.value _ _ _ refl
    (c.either-state.ensures ∙ ap (λ (b : Bool). not b || c.index_mut-state.result.now.facts.behind) c.count_read-counted.ensures.observed) refl
