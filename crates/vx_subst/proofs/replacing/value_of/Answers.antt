use Rattle.std.proofs.Common.{◌∙◌, sym, ap, Some, nat_eq}
use lib.Pointwise.{pointwise}
use Rattle.vx_subst.proofs.Texts.{value_of_here, value_of_later}
use Rattle.vx_subst.proofs.replacing.value_of.Goals as goal

pub returns-then-eq : goal.returns-then-eq
returns-then-eq c =
    let name = c.args.name.now in
    let here = value_of_here c.args.environment.now name c.loop-variable.variable-index c.variable-item.result c.loop-variable-test.true c.variable-item.is
    (ap (λ t. pointwise nat_eq t name) (sym c.as_str.ensures) ∙ sym c.eq.ensures ∙ c.if-eq.true) in
    ap Some c.as_str-then-eq.ensures ∙ sym (c.loop-variable.invariant ∙ here)

pub loop-variable-preserved : goal.loop-variable-preserved
loop-variable-preserved c =
    let name = c.args.name.now in
    let later = value_of_later c.args.environment.now name c.loop-variable.variable-index c.variable-item.result c.loop-variable-test.true c.variable-item.is
    (ap (λ t. pointwise nat_eq t name) (sym c.as_str.ensures) ∙ sym c.eq.ensures ∙ c.if-eq.false) in
    c.loop-variable.invariant ∙ later
