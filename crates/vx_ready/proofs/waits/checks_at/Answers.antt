use Rattle.std.proofs.Common.{◌∙◌, sym}
use Rattle.std.proofs.lemmas.Option.{IfSome_then}
use Rattle.vx_ready.proofs.Working.{some_then}
use Rattle.vx_ready.proofs.Checking.{none_taken_there}
use Rattle.vx_ready.proofs.waits.checks_at.Goals as goal

pub check_due-requires-clause-joins : goal.check_due-requires-clause-joins
check_due-requires-clause-joins g c = sym c.merges.ensures ∙ c.if-not-merges.false

pub returns-clause-due : goal.returns-clause-due
returns-clause-due g c = IfSome_then c.check_due.result c.check_due.ensures.due (λ moment due now later. record {
  sent = sym c.is_sent.ensures ∙ c.if-not-is_sent.false;
  due = due now later;
})

pub returns-clause-joins : goal.returns-clause-joins
returns-clause-joins g c = some_then c.check_due.result (sym c.merges.ensures ∙ c.if-not-merges.false)

pub returns-clause-settled : goal.returns-clause-settled
returns-clause-settled g c = some_then c.check_due.result (c.is_settled.ensures.settled c.if-not-is_settled.false)

pub returns-clause-open : goal.returns-clause-open
returns-clause-open g c = some_then c.check_due.result (c.is_open.ensures.open c.if-not-is_open.false)

pub returns-then-not-is_settled-clause-only : goal.returns-then-not-is_settled-clause-only
returns-then-not-is_settled-clause-only g c settled open_at joins fit host now tick = absurd (c.is_settled.ensures.not c.if-not-is_settled.true settled)

pub returns-then-not-is_open-clause-only : goal.returns-then-not-is_open-clause-only
returns-then-not-is_open-clause-only g c settled open_at joins fit host now tick = absurd (c.is_open.ensures.not c.if-not-is_open.true open_at)

pub returns-then-not-merges-clause-only : goal.returns-then-not-merges-clause-only
returns-then-not-merges-clause-only g c settled open_at joins fit host now tick = let no = sym joins ∙ (sym c.merges.ensures ∙ c.if-not-merges.true) in cc

pub returns-then-not-is_sent-clause-only : goal.returns-then-not-is_sent-clause-only
returns-then-not-is_sent-clause-only g c settled open_at joins fit host now tick = let no = sym tick.sent ∙ (sym c.is_sent.ensures ∙ c.if-not-is_sent.true) in cc

pub returns-clause-only : goal.returns-clause-only
returns-clause-only g c settled open_at joins fit host now tick =
    let r = c.requires in
    c.check_due.ensures.only fit host (none_taken_there g.P.Port.observed c.args.engine.now r.stands c.args.i r.within settled joins) now tick.due
