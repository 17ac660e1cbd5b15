use Rattle.std.proofs.Common.{◌≡◌, false, not, arith}
use Rattle.vx_value.specs.Texts.{same_text}
use Rattle.vx_value.proofs.Order.{answer_equal}
use Rattle.vx_value.proofs.Depths.{others_depth-bound, others_depth-more}
use Rattle.vx_value.proofs.field_list.FieldList.others_fit.Goals as goal
use Rattle.vx_value.proofs.field_list.FieldList.others_fit.Goals.{else-ne-via-then-ne+else-not-fits, else-ne-via-else-ne}

pub returns-then-not-fits : goal.returns-then-not-fits
returns-then-not-fits c =
    let e : c.ne.result ≡ not (same_text c.field-item.result.name c.args.name.now) = rw (c.as_str.ensures, answer_equal) at c.ne.ensures in
    let other : same_text c.field-item.result.name c.args.name.now ≡ false = grind (arith, e, c.if-ne.true) in
    rw (← c.self.view_is) (let b = others_depth-bound c.self.inside.fields.items c.loop-field.field-index c.field-item.result c.args.name.now (rw c.as_slice-field-items.ensures.value at c.loop-field-test.true) (rw c.as_slice-field-items.ensures.value at c.field-item.is) other in grind (arith, b, c.if-not-fits.ensures))

pub loop-field-preserved : goal.loop-field-preserved
loop-field-preserved c =
    let e : c.ne.result ≡ not (same_text c.field-item.result.name c.args.name.now) = rw (c.as_str.ensures, answer_equal) at c.ne.ensures in
    others_depth-more c.as_slice-field-items.result.now c.loop-field.field-index c.field-item.result c.args.name.now c.args.levels c.loop-field-test.true c.field-item.is c.loop-field.invariant
    (λ other. elim c.else-ne.branch [ else-ne-via-then-ne+else-not-fits w ↦ grind (arith, w.if-not-fits.ensures) | else-ne-via-else-ne w ↦ grind (arith, e, other, w.if-ne.false) ])
