use Rattle.std.proofs.Common.{arith}
use Rattle.vx_value.proofs.Depths.{data_depth-bound, data_depth-more, named_depth-bound, named_depth-more}
use Rattle.vx_value.proofs.+fits.Goals as goal

pub field_list::FieldList::fits-returns-then-not-fits : goal.field_list::FieldList::fits-returns-then-not-fits
field_list::FieldList::fits-returns-then-not-fits t c =
    rw (← c.self.view_is) (let b = named_depth-bound c.self.inside.fields.items c.loop-field.field-index c.field-item.result (rw c.as_slice-field-items.ensures.value at c.loop-field-test.true) (rw c.as_slice-field-items.ensures.value at c.field-item.is) in grind (arith, b, c.if-not-fits.ensures))

pub field_list::FieldList::fits-loop-field-preserved : goal.field_list::FieldList::fits-loop-field-preserved
field_list::FieldList::fits-loop-field-preserved t c = named_depth-more c.as_slice-field-items.result.now c.loop-field.field-index c.field-item.result c.args.levels c.loop-field-test.true c.field-item.is c.loop-field.invariant (grind (arith, c.if-not-fits.ensures))

pub value_list::ValueList::fits-loop-item-preserved : goal.value_list::ValueList::fits-loop-item-preserved
value_list::ValueList::fits-loop-item-preserved t c = data_depth-more c.as_slice-item-items.result.now c.loop-item.item-index c.item-item.result c.args.levels c.loop-item-test.true c.item-item.is c.loop-item.invariant (grind (arith, c.if-not-fits.ensures))

pub value_list::ValueList::fits-returns-then-not-fits : goal.value_list::ValueList::fits-returns-then-not-fits
value_list::ValueList::fits-returns-then-not-fits t c =
    rw (← c.self.view_is) (let b = data_depth-bound c.self.inside.items.items c.loop-item.item-index c.item-item.result (rw c.as_slice-item-items.ensures.value at c.loop-item-test.true) (rw c.as_slice-item-items.ensures.value at c.item-item.is) in grind (arith, b, c.if-not-fits.ensures))
