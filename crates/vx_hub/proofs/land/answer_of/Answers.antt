use Rattle.std.proofs.Common.{◌∙◌, sym}
use Rattle.vx_record.proofs.Ceasing.{unabandoned}
use Rattle.vx_landing.proofs.Answering.{none_known, over_known}
use Rattle.vx_hub.proofs.land.answer_of.Goals as goal

pub returns-clause-over : goal.returns-clause-over
returns-clause-over g c over =
    let not = unabandoned c.args.engine.now.log
    (none_known g.P.Port.observed c.args.engine.now c.requires.stands (sym c.is_some.ensures ∙ c.if-is_some.false)) in let no : ⊥ = cc in absurd no

pub returns-clause-going : goal.returns-clause-going
returns-clause-going g c = unabandoned c.args.engine.now.log
    (none_known g.P.Port.observed c.args.engine.now c.requires.stands (sym c.is_some.ensures ∙ c.if-is_some.false))

pub returns-then-is_some-clause-fine : goal.returns-then-is_some-clause-fine
returns-then-is_some-clause-fine g c = over_known g.P.Port.observed c.args.engine.now c.requires.stands (sym c.is_some.ensures ∙ c.if-is_some.true)
