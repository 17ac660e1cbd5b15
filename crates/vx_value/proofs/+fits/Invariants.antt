use Rattle.std.proofs.Common.{◌≤◌, map, take}
use Rattle.vx_value.specs.Datum.{named_of, named_depth, data_of, data_depth}
use Rattle.vx_value.specs.Values.{datum_of, named_datum}
use Rattle.vx_value.proofs.+fits.Given as goal

abbrev pub invariant-field_list::FieldList::fits-loop-field : goal.invariant-field_list::FieldList::fits-loop-field
invariant-field_list::FieldList::fits-loop-field l =
    named_depth (named_of (map named_datum (take l.field-index l.field-items))) ≤ l.levels

abbrev pub invariant-value_list::ValueList::fits-loop-item : goal.invariant-value_list::ValueList::fits-loop-item
invariant-value_list::ValueList::fits-loop-item l = data_depth (data_of (map datum_of (take l.item-index l.item-items))) ≤ l.levels
