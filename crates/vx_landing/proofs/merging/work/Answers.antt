use Rattle.std.proofs.Common.{◌∙◌, ap}
use Rattle.vx_moves.specs.declared.run.Run.{Run}
use Rattle.vx_landing.proofs.Answering.{leaves_both}
use Rattle.vx_landing.proofs.Merged.{served_still, steps_both, worked_owing, worked_well}
use Rattle.vx_landing.proofs.States.{each_flags, owing_now}
use Rattle.vx_landing.proofs.merging.work.Goals as goal

pub answer-requires-clause-served : goal.answer-requires-clause-served
answer-requires-clause-served g c =
    let took = c.take_inputs-took.ensures in
    served_still {new = c.take_inputs-took.new.engine} c.requires.served (ap (λ (r : Run). r.plan) took.leaves.run) took.size

pub answer-requires-clause-none : goal.answer-requires-clause-none
answer-requires-clause-none g c none = rw (c.take_inputs-took.ensures.none none) c.requires.bare

pub returns-in-Ok-clause-worked : goal.returns-in-Ok-clause-worked
returns-in-Ok-clause-worked g c =
    let took = c.take_inputs-took.ensures in
    let done = c.answer.ensures in
    worked_well done.stands (steps_both took.only done.only) (leaves_both took.leaves done.leaves) (done.size ∙ took.size)

pub returns-in-Ok-clause-well : goal.returns-in-Ok-clause-well
returns-in-Ok-clause-well g c = record {
  answered = c.in-Ok.ensures.answered;
  spent = c.in-Ok.ensures.spent;
  flags = each_flags c.args.engine.now.states c.answer.new.engine.states (leaves_both c.take_inputs-took.ensures.leaves c.answer.ensures.leaves).states;
}

pub returns-in-Err-clause-worked : goal.returns-in-Err-clause-worked
returns-in-Err-clause-worked g c =
    let took = c.take_inputs-took.ensures in
    let done = c.answer.ensures in
    let owed = c.owed.ensures in
    worked_owing done.stands (steps_both took.only done.only) (leaves_both took.leaves done.leaves) (done.size ∙ took.size) owed.size owed.owing
    (owed.knows c.answer.new.engine.log done.stands.states)

pub returns-in-Err-clause-owing : goal.returns-in-Err-clause-owing
returns-in-Err-clause-owing g c =
    owing_now c.args.i c.args.engine.now.states c.answer.new.engine.states c.owed.new.self (leaves_both c.take_inputs-took.ensures.leaves c.answer.ensures.leaves).states
    c.owed.ensures.owing
