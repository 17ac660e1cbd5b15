use Rattle.std.proofs.Common.{refl}
use Rattle.vx_instances.proofs.Staying.{stay, there}
use Rattle.vx_instances.proofs.Steps.{born_knows}
use Rattle.vx_instances.proofs.states.InstanceStates.born.Goals as goal

pub returns-clause-knows : goal.returns-clause-knows
returns-clause-knows g c = λ h place stream end copies made waits ready events.
    born_knows c.args.i c.self.view_is c.requires.within c.index_mut-state.ensures.value h c.args.batch place stream end copies made waits c.saturating_add-state.ensures c.born.ensures.waits
    (λ judged bs asked may. c.born.ensures.born (record { stream = stream; end = end }) judged bs asked (rw (there c.args.i c.self.view_is c.requires.within c.index_mut-state.ensures.value) at ready) may)
    (λ legal. c.created_batch.ensures h c.args.i c.args.batch place stream end copies made waits legal events)

pub returns-clause-stays : goal.returns-clause-stays
returns-clause-stays g c = stay c.args.i c.self.view_is c.requires.within c.index_mut-state.ensures.value _ _ _ refl refl refl
