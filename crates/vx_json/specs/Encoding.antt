-- How a sink writes events.
use Rattle.std.specs.Prelude.{Option, Some, None, List, [], ◌∷◌, ◌++◌, codes}
use Rattle.vx_value.specs.Texts.{ByteString}
use Rattle.vx_value.specs.Datum.{Datum, Null, Truth, Whole, Spelled, Words, Items, Fields, NamedDatum, named_of}
use Rattle.vx_value.specs.Events.{value_under}
use Rattle.vx_value.specs.declared.event.Event.{Event}
use Rattle.vx_json.specs.Written.{written}
use Rattle.vx_codec.specs.declared.codec.Codec.{Codec}
use Rattle.vx_codec.specs.declared.codec.Codec.TheVariants as codec

-- what a line of text has of a value: a text as its bytes, another kind as its JSON text, and nothing where there is none
abbrev pub message_text : Option Datum → ByteString
message_text None = []
message_text (Some Null) = written Null
message_text (Some (Truth b)) = written (Truth b)
message_text (Some (Whole z)) = written (Whole z)
message_text (Some (Spelled number)) = written (Spelled number)
message_text (Some (Words text)) = text
message_text (Some (Items ds)) = written (Items ds)
message_text (Some (Fields ns)) = written (Fields ns)

-- an event under a codec: as JSON all of it, as text its message, each with a line feed
abbrev pub encoded_event : Codec → List NamedDatum → ByteString
encoded_event codec.Json fields = written (Fields (named_of fields)) ++ 10 ∷ []
encoded_event codec.Text fields = message_text (value_under fields (codes "message")) ++ 10 ∷ []

-- some events in order
abbrev pub encoded : Codec → List Event → ByteString
encoded c [] = []
encoded c (event ∷ events) = encoded_event c event.fields ++ encoded c events
