use Rattle.std.proofs.Common.{◌≡◌, ◌++◌, ◌∷◌, map, take, ◌+◌, ◌*◌}
use Rattle.vx_value.specs.Datum.{data_of, named_of, depth, data_depth, named_depth}
use Rattle.vx_value.specs.Values.{datum_of, named_datum}
use Rattle.vx_json.specs.Growth.{Keeps}
use Rattle.vx_json.specs.Written.{items_written, fields_written}
use Rattle.vx_json.proofs.writer.+push_value.Given as goal

abbrev pub invariant-push_items-loop-i : goal.invariant-push_items-loop-i
invariant-push_items-loop-i l = record {
  written : l.out ≡ l.fn.out ++ 91 ∷ items_written (data_of (map datum_of (take l.i l.items)));
  kept : Keeps l.fn.out l.out;
}

abbrev pub invariant-push_fields-loop-i : goal.invariant-push_fields-loop-i
invariant-push_fields-loop-i l = record {
  written : l.out ≡ l.fn.out ++ 123 ∷ fields_written (named_of (map named_datum (take l.i l.fields)));
  kept : Keeps l.fn.out l.out;
}

abbrev pub decreases-push_value : goal.decreases-push_value
decreases-push_value l = 3 * depth (datum_of l.value.now)

abbrev pub decreases-push_items : goal.decreases-push_items
decreases-push_items l = 3 * data_depth (data_of (map datum_of l.items.now)) + 1

abbrev pub decreases-push_field : goal.decreases-push_field
decreases-push_field l = 3 * depth (datum_of l.field.now.value) + 1

abbrev pub decreases-push_fields : goal.decreases-push_fields
decreases-push_fields l = 3 * named_depth (named_of (map named_datum l.fields.now)) + 2
