-- The event of a line.
use Rattle.std.specs.Prelude.{◌≡◌, Bool, false, not, ◌&&◌, Option, Some, None, is_some, option_map, List, [], ◌∷◌, codes, if◌then◌else◌}
use Rattle.std.specs.Str.Lossy.{utf8_lossy}
use Rattle.vx_value.specs.Texts.{ByteString, is_empty}
use Rattle.vx_value.specs.Datum.{Words, NamedDatum}
use Rattle.vx_value.specs.Events.{value_under, with_field}
use Rattle.vx_value.specs.declared.event.Event.{Event}
use Rattle.vx_json.specs.Faults.{IsEvent}
use Rattle.vx_json.specs.Objects.{object_of}
use Rattle.vx_codec.specs.declared.decoding.Decoding.{Decoding}
use Rattle.vx_codec.specs.declared.decoding.Decoding.TheVariants as decoding

-- the fields of a line as text: one, with the line as the message
abbrev pub message_of : ByteString → List NamedDatum
message_of line = record { name = codes "message"; value = Words (utf8_lossy line) } ∷ []

-- the fields that a line gives by itself: under `Bytes` its text as the message, under `Json` those of its object, where it is one
abbrev pub IsContent : Decoding → ByteString → List NamedDatum → Type 0
IsContent decoding.Bytes line fields = fields ≡ message_of line
IsContent decoding.Json line fields = IsEvent line fields

-- fields with a text under a name, unless something stands there
abbrev pub with_text : List NamedDatum → ByteString → ByteString → List NamedDatum
with_text fields name text = if is_some (value_under fields name) then fields else with_field fields name (Words text)

-- fields with the type of their source and, where it reads a file, that file's path
abbrev pub from_source : ByteString → Option ByteString → List NamedDatum → List NamedDatum
from_source type None fields = with_text fields (codes "source_type") type
from_source type (Some path) fields = with_text (with_text fields (codes "source_type") type) (codes "file") path

-- the fields of a line's event, by the codec, the source's type and the path of its file
abbrev pub IsLineEvent : Decoding → ByteString → Option ByteString → ByteString → List NamedDatum → Type 0
IsLineEvent d type path line fields = (own : List NamedDatum) × IsContent d line own × (fields ≡ from_source type path own)

-- the fields that a line gives by itself, as a function: under `Json` none where it is empty or no object
abbrev pub content_of : Decoding → ByteString → Option (List NamedDatum)
content_of decoding.Bytes line = Some (message_of line)
content_of decoding.Json line = object_of line

-- the fields of a line's event, as a function, or none
abbrev pub line_fields : Decoding → ByteString → Option ByteString → ByteString → Option (List NamedDatum)
line_fields d type path line = option_map (from_source type path) (content_of d line)

-- whether a line has bytes and gives nothing
abbrev pub is_undecodable : Decoding → ByteString → Bool
is_undecodable decoding.Bytes line = false
is_undecodable decoding.Json line = not (is_empty line) && not (is_some (object_of line))

-- the fields of an event, if there is one
abbrev pub event_fields : Option Event → Option (List NamedDatum)
event_fields None = None
event_fields (Some event) = Some event.fields
