-- What tells groups apart, as one value.
use Rattle.std.specs.Prelude.{Option, Some, None, List, map}
use Rattle.vx_value.specs.Datum.{Datum, Items, data_of, no_data, datum}
use Rattle.vx_value.specs.Texts.{ByteString}
use Rattle.vx_value.specs.Events.{value_at}
use Rattle.vx_value.specs.declared.event.Event.{Event}

-- a list of the value, or an empty one where it is missing
abbrev pub key_item : Option Datum → Datum
key_item None = Items no_data
key_item (Some d) = Items (datum d no_data)

-- the list of what stands for the values at some paths
abbrev pub key_datum : List (List ByteString) → Event → Datum
key_datum paths e = Items (data_of (map (λ path. key_item (value_at e.fields path)) paths))
