use Rattle.std.proofs.Common.{sym, ◌∙◌}
use Rattle.vx_reduce.specs.Expiries.{is_old}
use Rattle.vx_reduce.proofs.Expiring.{out_at_first, out_moves}
use Rattle.vx_reduce.proofs.Answered.{nothing_due, has_checked, both_ok}
use Rattle.vx_reduce.proofs.Calls.{ticked_on, ticked_out_on}
use Rattle.vx_reduce.proofs.GoingOn.{goes_on_tick, puts_out_tick}
use Rattle.vx_reduce.proofs.reduce.ReduceTransform.tick.Goals as goal

pub returns-then-is_due-clause-checked : goal.returns-then-is_due-clause-checked
returns-then-is_due-clause-checked c =
    both_ok c.check.result (λ all state. has_checked c.args.self.now c.check.new.self c.args.now c.args.shelf.now c.check.new.shelf c.check.new.self.groups (sym c.is_due.ensures ∙ c.if-is_due.true) state c.check.ensures.put_out all) c.check.ensures.all c.check.ensures.state

pub returns-then-is_due-clause-moves : goal.returns-then-is_due-clause-moves
returns-then-is_due-clause-moves c = out_moves (is_old c.args.self.now.expire_after_ms c.args.now) c.args.self.now.groups c.check.new.self.groups c.args.shelf.now c.check.new.shelf c.check.ensures.put_out

pub returns-else-is_due-clause-checked : goal.returns-else-is_due-clause-checked
returns-else-is_due-clause-checked c = nothing_due c.args.self.now c.args.now c.args.shelf.now (sym c.is_due.ensures ∙ c.if-is_due.false)

pub returns-else-is_due-clause-moves : goal.returns-else-is_due-clause-moves
returns-else-is_due-clause-moves c = out_moves (is_old 0 0) c.args.self.now.groups c.args.self.now.groups c.args.shelf.now c.args.shelf.now (out_at_first (is_old 0 0) c.args.self.now.groups c.args.shelf.now)

pub returns-then-is_due-clause-goes_on : goal.returns-then-is_due-clause-goes_on
returns-then-is_due-clause-goes_on c =
    ticked_on c.check.result c.args.self.now c.check.new.self c.args.now c.args.shelf.now c.check.new.shelf
    (both_ok c.check.result (λ all state. has_checked c.args.self.now c.check.new.self c.args.now c.args.shelf.now c.check.new.shelf c.check.new.self.groups (sym c.is_due.ensures ∙ c.if-is_due.true) state c.check.ensures.put_out all) c.check.ensures.all c.check.ensures.state)

pub returns-then-is_due-clause-puts_out : goal.returns-then-is_due-clause-puts_out
returns-then-is_due-clause-puts_out c =
    ticked_out_on c.check.result c.args.self.now c.check.new.self c.args.now c.args.shelf.now c.check.new.shelf
    (both_ok c.check.result (λ all state. has_checked c.args.self.now c.check.new.self c.args.now c.args.shelf.now c.check.new.shelf c.check.new.self.groups (sym c.is_due.ensures ∙ c.if-is_due.true) state c.check.ensures.put_out all) c.check.ensures.all c.check.ensures.state)

pub returns-else-is_due-clause-goes_on : goal.returns-else-is_due-clause-goes_on
returns-else-is_due-clause-goes_on c s given i =
    goes_on_tick s given c.args.self.now c.args.now i c.args.self.now c.args.shelf.now c.args.shelf.now (nothing_due c.args.self.now c.args.now c.args.shelf.now (sym c.is_due.ensures ∙ c.if-is_due.false))

pub returns-else-is_due-clause-puts_out : goal.returns-else-is_due-clause-puts_out
returns-else-is_due-clause-puts_out c s given i =
    puts_out_tick s given c.args.self.now c.args.now i c.args.self.now c.args.shelf.now c.args.shelf.now (nothing_due c.args.self.now c.args.now c.args.shelf.now (sym c.is_due.ensures ∙ c.if-is_due.false))
