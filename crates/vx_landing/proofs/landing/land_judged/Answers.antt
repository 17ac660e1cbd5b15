use Rattle.std.proofs.Common.{◌∙◌, refl, sym}
use Rattle.vx_record.proofs.Ceasing.{unabandoned}
use Rattle.vx_landing.proofs.Answering.{none_known, not_over, noted, over_known}
use Rattle.vx_landing.proofs.Judging.{may_filter, may_judge}
use Rattle.vx_landing.proofs.States.{owing_now}
use Rattle.vx_landing.proofs.landing.land_judged.Goals as goal

pub answer-requires-clause-may : goal.answer-requires-clause-may
answer-requires-clause-may g c =
    let r = c.requires in
    r.may (unabandoned c.args.engine.now.log (none_known g.P.Port.observed c.args.engine.now r.stands (sym c.is_some.ensures ∙ c.if-is_some.false)))

pub spend_all_held-requires-clause-may : goal.spend_all_held-requires-clause-may
spend_all_held-requires-clause-may g c =
    let r = c.requires in
    let engine = c.args.engine.now in
    let now = r.may (unabandoned engine.log (none_known g.P.Port.observed engine r.stands (sym c.is_some.ensures ∙ c.if-is_some.false))) in
    let steps = c.in-Ok.ensures.steps in
    may_filter engine.log c.answer.new.self.log c.args.i c.args.ports.now steps.stands.legal steps.noted (rw steps.noted now.going) (may_judge r.stands r.kept now)

pub returns-then-is_some-clause-answered : goal.returns-then-is_some-clause-answered
returns-then-is_some-clause-answered g c =
    let engine = c.args.engine.now in
    let over = over_known g.P.Port.observed engine c.requires.stands (sym c.is_some.ensures ∙ c.if-is_some.true) in
    record { mid = engine; noted = λ going. cc; spent = λ going. cc; over = λ _. refl; none = λ going. cc }

pub returns-in-Ok-clause-answered : goal.returns-in-Ok-clause-answered
returns-in-Ok-clause-answered g c =
    let engine = c.args.engine.now in
    record {
      mid = c.answer.new.self;
      noted = λ going. noted refl c.in-Ok.ensures.steps c.answer.ensures.leaves;
      spent = λ going. c.spend_all_held.ensures.spent;
      over = λ over. absurd (not_over g.P.Port.observed engine c.requires.stands (sym c.is_some.ensures ∙ c.if-is_some.false) over);
      none = λ going. c.spend_all_held.ensures.none;
    }

pub returns-in-Err-clause-owing : goal.returns-in-Err-clause-owing
returns-in-Err-clause-owing g c =
    owing_now c.args.i c.args.engine.now.states c.answer.new.self.states c.owed.new.self c.answer.ensures.leaves.states c.owed.ensures.owing
