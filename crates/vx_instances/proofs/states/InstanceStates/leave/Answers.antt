use Rattle.std.proofs.lemmas.Option.{IfSome_then}
use Rattle.vx_places.proofs.Written.{if_none_then}
use Rattle.vx_instances.proofs.Staying.{left_stays, there}
use Rattle.vx_instances.proofs.Steps.{left_due, left_knows}
use Rattle.vx_instances.proofs.states.InstanceStates.leave.Goals as goal

pub returns-clause-due : goal.returns-clause-due
returns-clause-due g c = IfSome_then c.take_task.result c.take_task.ensures.some (λ r leaves. left_due c.args.i c.self.view_is c.requires c.index_mut.ensures.value leaves)

pub returns-clause-knows : goal.returns-clause-knows
returns-clause-knows g c = IfSome_then c.take_task.result c.take_task.ensures.some (λ r leaves. left_knows c.args.i c.self.view_is c.requires c.index_mut.ensures.value leaves)

pub returns-clause-nobody : goal.returns-clause-nobody
returns-clause-nobody g c = if_none_then c.take_task.result (λ none. rw (there c.args.i c.self.view_is c.requires c.index_mut.ensures.value) none) c.take_task.ensures.none

pub returns-clause-left : goal.returns-clause-left
returns-clause-left g c = IfSome_then c.take_task.result c.take_task.ensures.some (λ r leaves. left_stays c.args.i c.self.view_is c.requires c.index_mut.ensures.value c.args.now c.take_task.new.state r.0 r.1 leaves)
