use Rattle.std.proofs.Common.{◌∙◌, ap, inl, inr, sym}
use Rattle.std.specs.Prelude.{not}
use Rattle.std.proofs.lemmas.Bool.{or_from, or_left, or_right}
use Rattle.vx_value.specs.Texts.{is_empty}
use Rattle.vx_record.specs.Lists.{buffered}
use Rattle.vx_record.specs.Ready.{is_flush_due}
use Rattle.vx_ready.proofs.merging.has_inputs.Goals as goal

pub returns-then-not-is_unbuffered-clause-some : goal.returns-then-not-is_unbuffered-clause-some
returns-then-not-is_unbuffered-clause-some g c is =
    let h = c.args.engine.now.log in let i = c.args.i in
    inl (or_left (not (is_empty (buffered h i))) (is_flush_due h i) (ap not (sym c.is_unbuffered.ensures ∙ c.if-not-is_unbuffered.true)))

pub returns-then-is_check_due-clause-some : goal.returns-then-is_check_due-clause-some
returns-then-is_check_due-clause-some g c is = inr (c.is_check_due.ensures.due c.if-is_check_due.true)

pub returns-clause-some : goal.returns-clause-some
returns-clause-some g c is =
    let h = c.args.engine.now.log in let i = c.args.i in
    inl (or_right (not (is_empty (buffered h i))) (is_flush_due h i) (sym c.must_flush.ensures ∙ is))

pub returns-clause-none : goal.returns-clause-none
returns-clause-none g c off =
    let h = c.args.engine.now.log in let i = c.args.i in
    or_from (not (is_empty (buffered h i))) (is_flush_due h i) (ap not (sym c.is_unbuffered.ensures ∙ c.if-not-is_unbuffered.false)) (sym c.must_flush.ensures ∙ off)

pub returns-clause-early : goal.returns-clause-early
returns-clause-early g c off fit host none tick = c.is_check_due.ensures.early c.if-is_check_due.false fit host none tick
