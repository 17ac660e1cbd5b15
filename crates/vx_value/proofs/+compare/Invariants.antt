use Rattle.std.proofs.Common.{◌≡◌, ◌≤◌, length, drop, map}
use Rattle.vx_value.specs.Datum.{data_of, named_of}
use Rattle.vx_value.specs.Orders.{data_cmp, named_cmp}
use Rattle.vx_value.specs.Values.{datum_of, named_datum}
use Rattle.vx_value.proofs.+compare.Given as goal

abbrev pub invariant-field_list::FieldList::compare-loop-field : goal.invariant-field_list::FieldList::compare-loop-field
invariant-field_list::FieldList::compare-loop-field l =
    (l.i ≡ l.field-index) × (l.i ≤ length l.other-inside.fields.items)
    × (named_cmp (named_of (map named_datum l.field-items)) (named_of (map named_datum l.other-inside.fields.items))
    ≡ named_cmp (named_of (map named_datum (drop l.i l.field-items))) (named_of (map named_datum (drop l.i l.other-inside.fields.items))))

abbrev pub invariant-value_list::ValueList::compare-loop-item : goal.invariant-value_list::ValueList::compare-loop-item
invariant-value_list::ValueList::compare-loop-item l =
    (l.i ≡ l.item-index) × (l.i ≤ length l.other-inside.items.items)
    × (data_cmp (data_of (map datum_of l.item-items)) (data_of (map datum_of l.other-inside.items.items))
    ≡ data_cmp (data_of (map datum_of (drop l.i l.item-items))) (data_of (map datum_of (drop l.i l.other-inside.items.items))))
