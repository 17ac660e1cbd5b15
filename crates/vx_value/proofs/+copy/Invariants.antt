use Rattle.std.proofs.Common.{◌≡◌, map, take}
use Rattle.vx_value.specs.Values.{datum_of, named_datum}
use Rattle.vx_value.proofs.+copy.Given as goal

abbrev pub invariant-field_list::FieldList::copy-loop-field : goal.invariant-field_list::FieldList::copy-loop-field
invariant-field_list::FieldList::copy-loop-field l =
    map named_datum l.fields.items ≡ map named_datum (take l.field-index l.field-items)

abbrev pub invariant-value_list::ValueList::copy-loop-item : goal.invariant-value_list::ValueList::copy-loop-item
invariant-value_list::ValueList::copy-loop-item l = map datum_of l.items.items ≡ map datum_of (take l.item-index l.item-items)
