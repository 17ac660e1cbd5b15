use Rattle.std.proofs.Common.{suc, ◌<◌, length, sym, ap, ◌∙◌, arith, add-one}
use Rattle.std.specs.Ordering.{ordering_then}
use Rattle.vx_value.proofs.Compares.{named_from, named-step, data-both-end, data-first-ends, named-both-end, named-first-ends, named-other-ends}
use Rattle.vx_value.proofs.+compare.Goals as goal

pub field_list::FieldList::compare-returns-then-i-len : goal.field_list::FieldList::compare-returns-then-i-len
field_list::FieldList::compare-returns-then-i-len t c =
    let ends = named-first-ends c.loop-field.i c.as_slice-field-items.result.now c.other.inside.fields.items (omega arith) (omega arith) in
    let fact = sym (c.loop-field.invariant.2 ∙ ends) in
    rw (← c.self.view_is, ← c.other.view_is) (rw c.as_slice-field-items.ensures.value at fact)

pub field_list::FieldList::compare-returns-else-i-len : goal.field_list::FieldList::compare-returns-else-i-len
field_list::FieldList::compare-returns-else-i-len t c =
    let ends = named-both-end c.loop-field.i c.as_slice-field-items.result.now c.other.inside.fields.items (omega arith) (omega arith) in
    let fact = sym (c.loop-field.invariant.2 ∙ ends) in
    rw (← c.self.view_is, ← c.other.view_is) (rw c.as_slice-field-items.ensures.value at fact)

pub field_list::FieldList::compare-loop-field-preserved : goal.field_list::FieldList::compare-loop-field-preserved
field_list::FieldList::compare-loop-field-preserved t c =
    let i = c.loop-field.i in
    let fields = c.as_slice-field-items.result.now in
    let others = c.other.inside.fields.items in
    let here = rw (← c.loop-field.invariant.0) at c.field-item.is in
    let there = rw c.deref.ensures.value at c.in-Some.ensures.lookup.1 in
    let more : i < length others = rw c.deref.ensures.value at c.in-Some.ensures.lookup.3.0 in
    let step = named-step i fields others c.field-item.result c.in-Some.that.now (omega arith) here more there in
    let on = ap (λ o. ordering_then o (named_from (suc i) fields others)) (sym c.in-Equal.ensures) in
    (omega arith, omega arith, rw add-one (c.loop-field.invariant.2 ∙ step ∙ on))

pub field_list::FieldList::compare-returns-in_default : goal.field_list::FieldList::compare-returns-in_default
field_list::FieldList::compare-returns-in_default t c =
    let none = rw c.deref.ensures.value at c.in_default.ensures.lookup.3 in
    let ends = named-other-ends c.loop-field.i c.as_slice-field-items.result.now c.other.inside.fields.items (omega arith) none in
    let fact = sym (c.loop-field.invariant.2 ∙ ends) in
    rw (← c.self.view_is, ← c.other.view_is) (rw c.as_slice-field-items.ensures.value at fact)

pub value_list::ValueList::compare-returns-then-i-len : goal.value_list::ValueList::compare-returns-then-i-len
value_list::ValueList::compare-returns-then-i-len t c =
    let ends = data-first-ends c.loop-item.i c.as_slice-item-items.result.now c.other.inside.items.items (omega arith) (omega arith) in
    let fact = sym (c.loop-item.invariant.2 ∙ ends) in
    rw (← c.self.view_is, ← c.other.view_is) (rw c.as_slice-item-items.ensures.value at fact)

pub value_list::ValueList::compare-returns-else-i-len : goal.value_list::ValueList::compare-returns-else-i-len
value_list::ValueList::compare-returns-else-i-len t c =
    let ends = data-both-end c.loop-item.i c.as_slice-item-items.result.now c.other.inside.items.items (omega arith) (omega arith) in
    let fact = sym (c.loop-item.invariant.2 ∙ ends) in
    rw (← c.self.view_is, ← c.other.view_is) (rw c.as_slice-item-items.ensures.value at fact)
