-- What tells whether events repeat each other, as one value.
use Rattle.std.specs.Prelude.{Option, Some, None, map}
use Rattle.vx_value.specs.Datum.{Datum, Items, Fields, no_data, datum, data_of, named_of}
use Rattle.vx_condition.specs.Picking.{Key, values, fields}

-- a list of the value, or an empty one where it is missing
abbrev pub key_item : Option Datum → Datum
key_item None = Items no_data
key_item (Some d) = Items (datum d no_data)

-- a list of what stands for the values, or the fields themselves
abbrev pub key_datum : Key → Datum
key_datum (values ds) = Items (data_of (map key_item ds))
key_datum (fields fs) = Fields (named_of fs)
