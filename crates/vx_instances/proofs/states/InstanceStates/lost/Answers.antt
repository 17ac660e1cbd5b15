use Rattle.std.proofs.Common.{refl}
use Rattle.vx_instances.proofs.Staying.{stay}
use Rattle.vx_instances.proofs.Steps.{lost_knows, bytes_read}
use Rattle.vx_instances.proofs.states.InstanceStates.lost.Goals as goal

pub returns-clause-knows : goal.returns-clause-knows
returns-clause-knows g c = λ h failed. lost_knows c.args.i c.self.view_is c.requires c.index_mut-state.ensures.value _ failed h

pub returns-clause-after : goal.returns-clause-after
returns-clause-after g c = bytes_read c.args.i c.self.view_is c.requires c.index_mut-state.ensures.value

pub returns-clause-stays : goal.returns-clause-stays
returns-clause-stays g c = stay c.args.i c.self.view_is c.requires c.index_mut-state.ensures.value _ _ _ refl refl refl
