use Rattle.std.proofs.Common.{arith, sym, ◌∙◌}
use Rattle.vx_value.proofs.Searches.{step_past, found, passed}
use Rattle.vx_value.proofs.field_list.FieldList.place.Goals as goal

pub returns-in-Equal-clause-ok : goal.returns-in-Equal-clause-ok
returns-in-Equal-clause-ok c =
    rw (← c.self.view_is) (found c.self.inside.fields.items c.args.name.now c.as_str.result.now c.loop-i.i c.field-item.result (omega arith) (rw c.as_slice-field-items.ensures.value at c.field-item.is) c.as_str.ensures
    (sym c.in-Equal.is ∙ c.cmp.ensures) c.loop-i.invariant)

pub returns-in-Greater-clause-err : goal.returns-in-Greater-clause-err
returns-in-Greater-clause-err c =
    rw (← c.self.view_is) (passed c.self.inside.fields.items c.args.name.now c.as_str.result.now c.loop-i.i c.field-item.result (omega arith) (rw c.as_slice-field-items.ensures.value at c.field-item.is) c.as_str.ensures
    (sym c.in-Greater.is ∙ c.cmp.ensures) c.self.invariant c.loop-i.invariant)

pub loop-i-preserved : goal.loop-i-preserved
loop-i-preserved c =
    step_past c.self.inside.fields.items c.args.name.now c.as_str.result.now c.loop-i.i c.field-item.result (omega arith) (rw c.as_slice-field-items.ensures.value at c.field-item.is) c.as_str.ensures
    (sym c.in-Less.is ∙ c.cmp.ensures) c.loop-i.invariant
