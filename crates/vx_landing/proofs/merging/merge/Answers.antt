use Rattle.std.proofs.Common.{ap}
use Rattle.vx_moves.specs.declared.run.Run.{Run}
use Rattle.vx_landing.proofs.Answering.{left_out}
use Rattle.vx_landing.proofs.Merged.{alone_last, answered_still, back_last, bare_first, fresh_first, may_lease, merged, out_last, returned_last, served_still, taking_first, well_still}
use Rattle.vx_landing.proofs.merging.merge.Goals as goal

pub lease-task-requires-clause-may : goal.lease-task-requires-clause-may
lease-task-requires-clause-may g c = let r = c.requires in may_lease r.stands r.leasable r.latest r.joins

pub work-worked-requires-clause-served : goal.work-worked-requires-clause-served
work-worked-requires-clause-served g c =
    let lent = c.lease-task.ensures.lent in
    served_still {new = c.lease-task.new.self} c.requires.served (ap (λ (r : Run). r.plan) lent.run) lent.steps.size

pub work-worked-requires-clause-taking : goal.work-worked-requires-clause-taking
work-worked-requires-clause-taking g c = let r = c.requires in taking_first r.stands r.leasable r.latest r.joins c.lease-task.ensures.lent

pub work-worked-requires-clause-fresh : goal.work-worked-requires-clause-fresh
work-worked-requires-clause-fresh g c = let r = c.requires in fresh_first r.stands r.leasable r.latest r.joins c.lease-task.ensures.lent

pub work-worked-requires-clause-bare : goal.work-worked-requires-clause-bare
work-worked-requires-clause-bare g c = let r = c.requires in bare_first r.stands r.leasable r.latest r.joins c.lease-task.ensures.lent

pub return_task-requires-clause-out : goal.return_task-requires-clause-out
return_task-requires-clause-out g c = let r = c.requires in out_last r.stands r.leasable r.latest r.joins c.lease-task.ensures.lent c.work-worked.ensures.worked

pub return_task-requires-clause-left : goal.return_task-requires-clause-left
return_task-requires-clause-left g c =
    let r = c.requires in
    let worked = c.work-worked.ensures.worked in
    left_out c.work-worked.new.engine.log c.args.i worked.stands.legal (out_last r.stands r.leasable r.latest r.joins c.lease-task.ensures.lent worked)

pub return_task-requires-clause-kept : goal.return_task-requires-clause-kept
return_task-requires-clause-kept g c = let r = c.requires in alone_last r.stands r.leasable r.latest r.joins c.lease-task.ensures.lent c.work-worked.ensures.worked

pub return_task-requires-clause-back : goal.return_task-requires-clause-back
return_task-requires-clause-back g c =
    let r = c.requires in
    let work = c.work-worked.ensures in
    back_last r.stands r.leasable r.latest r.joins c.lease-task.ensures.lent work.worked c.work-worked.result work.well work.owing

pub return_task-requires-clause-returned : goal.return_task-requires-clause-returned
return_task-requires-clause-returned g c fed = let r = c.requires in returned_last r.stands r.leasable r.latest r.joins c.lease-task.ensures.lent c.work-worked.ensures.worked

pub returns-clause-merged : goal.returns-clause-merged
returns-clause-merged g c =
    let r = c.requires in
    let unleased = c.return_task.ensures in
    merged r.stands r.leasable r.latest r.joins c.lease-task.ensures.lent c.work-worked.ensures.worked unleased.steps unleased.back unleased.capacities unleased.run r.served r.lent r.away

pub returns-clause-well : goal.returns-clause-well
returns-clause-well g c =
    let r = c.requires in
    let unleased = c.return_task.ensures in
    well_still r.stands r.leasable r.latest r.joins c.lease-task.ensures.lent c.work-worked.ensures.worked unleased.steps unleased.back unleased.capacities unleased.run c.work-worked.result
    c.work-worked.ensures.well

pub returns-clause-answered : goal.returns-clause-answered
returns-clause-answered g c =
    let r = c.requires in
    let unleased = c.return_task.ensures in
    answered_still r.stands r.leasable r.latest r.joins c.lease-task.ensures.lent c.work-worked.ensures.worked unleased.steps unleased.back unleased.capacities unleased.run c.work-worked.result
    c.work-worked.ensures.well
