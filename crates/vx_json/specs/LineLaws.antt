-- The laws of what lines give: the functions and the relations agree.
use Rattle.std.specs.Prelude.{◌≡◌, ◌≢◌, ◌↔◌, ◌&&◌, not, IsTrue, Option, Some, is_some, List, []}
use Rattle.vx_value.specs.Texts.{ByteString, is_empty}
use Rattle.vx_value.specs.Datum.{NamedDatum}
use Rattle.vx_json.specs.Faults.{IsEvent}
use Rattle.vx_json.specs.Objects.{object_of}
use Rattle.vx_json.specs.LineEvents.{content_of, line_fields, is_undecodable, IsContent, IsLineEvent}
use Rattle.vx_codec.specs.declared.decoding.Decoding.{Decoding}

-- bytes are an object exactly where they are an event, of the same fields
abbrev pub ObjectIsEvent : Type 0
ObjectIsEvent = (bytes : ByteString) (fields : List NamedDatum) → (object_of bytes ≡ Some fields) ↔ IsEvent bytes fields

-- a line has the fields that it gives by itself
abbrev pub ContentAgrees : Type 0
ContentAgrees =
    (d : Decoding) (line : ByteString) (fields : List NamedDatum) → (content_of d line ≡ Some fields) ↔ IsContent d line fields

-- and those of its event
abbrev pub EventAgrees : Type 0
EventAgrees =
    (d : Decoding) (type : ByteString) (path : Option ByteString) (line : ByteString) (fields : List NamedDatum) →
    (line_fields d type path line ≡ Some fields) ↔ IsLineEvent d type path line fields

-- a line is undecodable exactly where it has bytes and gives nothing by itself
abbrev pub UndecodableGivesNothing : Type 0
UndecodableGivesNothing =
    (d : Decoding) (line : ByteString) →
    IsTrue (is_undecodable d line) ↔ ((line ≢ []) × ((fields : List NamedDatum) → IsContent d line fields → ⊥))

-- so that is seen by its event, whatever the source
abbrev pub UndecodableHasNoEvent : Type 0
UndecodableHasNoEvent =
    (d : Decoding) (type : ByteString) (path : Option ByteString) (line : ByteString) →
    is_undecodable d line ≡ not (is_empty line) && not (is_some (line_fields d type path line))
