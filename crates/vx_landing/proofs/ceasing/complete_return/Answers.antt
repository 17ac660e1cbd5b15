use Rattle.std.proofs.Common.{◌≡◌, true}
use Rattle.std.specs.Prelude.{is_some}
use Rattle.vx_record.proofs.Adding.{adds_both}
use Rattle.vx_landing.proofs.Answering.{going_known, not_over, over_known}
use Rattle.vx_landing.proofs.States.{each_flags, flags_returned, flags_then, has_task}
use Rattle.vx_landing.proofs.ceasing.complete_return.Goals as goal

pub cease-requires-clause-over : goal.cease-requires-clause-over
cease-requires-clause-over g c =
    rw c.note_return-else-is_none.ensures.steps.noted (over_known g.P.Port.observed c.args.engine.now c.requires.stands c.if-is_none.ensures)

pub returns-then-is_none-clause-bare : goal.returns-then-is_none-clause-bare
returns-then-is_none-clause-bare g c over = absurd (not_over g.P.Port.observed c.args.engine.now c.requires.stands c.if-is_none.ensures over)

pub returns-then-is_none-clause-closed : goal.returns-then-is_none-clause-closed
returns-then-is_none-clause-closed g c over = absurd (not_over g.P.Port.observed c.args.engine.now c.requires.stands c.if-is_none.ensures over)

pub returns-else-is_none-clause-only : goal.returns-else-is_none-clause-only
returns-else-is_none-clause-only g c = adds_both _ _ _ _ c.note_return-else-is_none.ensures.only c.cease.ensures.only

pub returns-then-is_none-clause-flags : goal.returns-then-is_none-clause-flags
returns-then-is_none-clause-flags g c = flags_returned c.args.i c.args.task _ _ c.note_return.ensures.back

pub returns-else-is_none-clause-flags : goal.returns-else-is_none-clause-flags
returns-else-is_none-clause-flags g c =
    let mid = c.note_return-else-is_none.new.engine.states in
    flags_then c.args.engine.now.states mid c.cease.new.engine.states
    (flags_returned c.args.i c.shut.result _ _ c.note_return-else-is_none.ensures.back) (each_flags mid c.cease.new.engine.states c.cease.ensures.leaves.states)

pub returns-else-is_none-clause-noted : goal.returns-else-is_none-clause-noted
returns-else-is_none-clause-noted g c going =
    let none = going_known g.P.Port.observed c.args.engine.now c.requires.stands going in
    let some : is_some c.args.engine.now.run.abandoned ≡ true = c.if-is_none.ensures in cc

pub returns-else-is_none-clause-behind : goal.returns-else-is_none-clause-behind
returns-else-is_none-clause-behind g c = adds_both _ _ _ _ c.note_return-else-is_none.ensures.behind c.cease.ensures.behind

pub returns-then-is_none-clause-task : goal.returns-then-is_none-clause-task
returns-then-is_none-clause-task g c going = has_task c.args.i c.args.task _ _ c.note_return.ensures.back

pub returns-else-is_none-clause-task : goal.returns-else-is_none-clause-task
returns-else-is_none-clause-task g c going = let some : is_some c.args.engine.now.run.abandoned ≡ true = c.if-is_none.ensures in absurd (cc)
