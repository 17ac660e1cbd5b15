use Rattle.std.proofs.Common.{◌∙◌, sym, ap, subst}
use Rattle.vx_sourcecore.specs.declared.prefix.Prefix.{Prefix}
use Rattle.vx_sourcecore.specs.Prefixes.{IsPrefixOf}
use Rattle.vx_sourcecore.proofs.Prefixing.{cut_next, cut_halted}
use Rattle.vx_sourcecore.proofs.prefix.Prefix.advance.Goals as goal

pub loop-due-preserved : goal.loop-due-preserved
loop-due-preserved c = record {
  waits = ap (λ (p : Prefix). p.waits) c.reach.ensures ∙ ap (λ (p : Prefix). p.waits) c.in-Some.ensures.some.rest ∙ c.loop-due.invariant.waits;
  cut = λ judged births asked is. cut_next c.loop-due.self c.pop_passed.new.self c.reach.new.self c.in-Some.due judged births asked c.in-Some.ensures.some c.reach.ensures (c.loop-due.invariant.cut judged births asked is);
}

pub returns-clause-advanced : goal.returns-clause-advanced
returns-clause-advanced c judged births asked is =
    subst (λ (p : Prefix). IsPrefixOf p judged births asked) (sym c.in_default.ensures.same)
    (cut_halted c.loop-due.self judged births asked c.in_default.ensures.none (c.loop-due.invariant.cut judged births asked is))
