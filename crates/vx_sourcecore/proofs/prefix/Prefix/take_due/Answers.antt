use Rattle.std.proofs.Common.{refl, sym, ◌∙◌}
use Rattle.vx_sourcecore.proofs.Prefixing.{asked_none, asked_some, ask_none, ask_some, goes_on}
use Rattle.vx_sourcecore.proofs.prefix.Prefix.take_due.Goals as goal

pub returns-in-Some-clause-asked : goal.returns-in-Some-clause-asked
returns-in-Some-clause-asked c judged births asked is =
    asked_some c.args.self.now _ c.in-Some.field-0 judged births asked (sym c.take.ensures.value ∙ c.in-Some.is) refl refl refl refl c.take.ensures.after refl is

pub returns-in-Some-clause-due : goal.returns-in-Some-clause-due
returns-in-Some-clause-due c judged births asked is = ask_some c.args.self.now c.in-Some.field-0 judged births asked (sym c.take.ensures.value ∙ c.in-Some.is) is

pub returns-in-None-clause-asked : goal.returns-in-None-clause-asked
returns-in-None-clause-asked c judged births asked is =
    (goes_on c.args.self.now _ refl refl refl refl (c.take.ensures.after ∙ sym (sym c.take.ensures.value ∙ c.in-None.is)) refl).stands judged births _ (asked_none c.args.self.now judged births asked (sym c.take.ensures.value ∙ c.in-None.is) is)

pub returns-in-None-clause-due : goal.returns-in-None-clause-due
returns-in-None-clause-due c judged births asked is = ask_none c.args.self.now judged births asked (sym c.take.ensures.value ∙ c.in-None.is) is
