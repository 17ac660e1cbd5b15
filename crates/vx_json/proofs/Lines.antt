-- What lines give, as functions and as relations.
use Rattle.std.proofs.Common.{◌≡◌, ◌≢◌, Bool, true, false, not, ◌&&◌, IsTrue, Option, Some, None, is_some, option_map, List, [], ◌∷◌, refl, sym, ◌∙◌, ap}
use Rattle.vx_value.specs.Texts.{ByteString, is_empty}
use Rattle.vx_value.specs.Datum.{NamedDatum}
use Rattle.vx_json.specs.Objects.{object_of}
use Rattle.vx_json.specs.LineEvents.{message_of, from_source, content_of, line_fields, is_undecodable, IsContent, IsLineEvent}
use Rattle.vx_codec.specs.declared.decoding.Decoding.{Decoding}
use Rattle.vx_codec.specs.declared.decoding.Decoding.TheVariants as decoding
use Rattle.vx_json.proofs.Choices.{both_true, and_true}
use Rattle.vx_json.proofs.Objects.{object-of-event, event-of-object}

-- ---- by itself
pub content-is : (d : Decoding) (line : ByteString) (fields : List NamedDatum) → content_of d line ≡ Some fields → IsContent d line fields
content-is decoding.Bytes line fields e = let same : message_of line ≡ fields = cc in sym same
content-is decoding.Json line fields e = event-of-object line fields e

pub is-content : (d : Decoding) (line : ByteString) (fields : List NamedDatum) → IsContent d line fields → content_of d line ≡ Some fields
is-content decoding.Bytes line fields e = ap Some (sym e)
is-content decoding.Json line fields i = object-of-event line fields i

-- ---- with what its source adds
mapped : (f : List NamedDatum → List NamedDatum) (o : Option (List NamedDatum)) (fields : List NamedDatum) → option_map f o ≡ Some fields → (own : List NamedDatum) × (o ≡ Some own) × (fields ≡ f own)
mapped f None fields e = cc
mapped f (Some own) fields e = let same : f own ≡ fields = cc in (own, refl, sym same)

pub event-is : (d : Decoding) (type : ByteString) (path : Option ByteString) (line : ByteString) (fields : List NamedDatum) → line_fields d type path line ≡ Some fields → IsLineEvent d type path line fields
event-is d type path line fields e =
    let m = mapped (from_source type path) (content_of d line) fields e in (m.0, content-is d line m.0 m.1, m.2)

pub is-event : (d : Decoding) (type : ByteString) (path : Option ByteString) (line : ByteString) (fields : List NamedDatum) → IsLineEvent d type path line fields → line_fields d type path line ≡ Some fields
is-event d type path line fields g =
    ap (option_map (from_source type path)) (is-content d line g.0 g.1) ∙ ap Some (sym g.2)

-- ---- undecodable lines
has-bytes : (line : ByteString) → not (is_empty line) ≡ true → line ≢ []
has-bytes [] h e = cc
has-bytes (b ∷ line) h e = cc

bytes-there : (line : ByteString) → line ≢ [] → not (is_empty line) ≡ true
bytes-there [] n = absurd (n refl)
bytes-there (b ∷ line) n = refl

none-there : (o : Option (List NamedDatum)) (fields : List NamedDatum) → not (is_some o) ≡ true → o ≡ Some fields → ⊥
none-there None fields h e = cc
none-there (Some own) fields h e = cc

nothing-there : (o : Option (List NamedDatum)) → ((fields : List NamedDatum) → o ≡ Some fields → ⊥) → not (is_some o) ≡ true
nothing-there None n = refl
nothing-there (Some own) n = absurd (n own refl)

pub nothing-given : (d : Decoding) (line : ByteString) → IsTrue (is_undecodable d line) → (line ≢ []) × ((fields : List NamedDatum) → IsContent d line fields → ⊥)
nothing-given decoding.Bytes line h = cc
nothing-given decoding.Json line h =
    let k = both_true _ _ h in (has-bytes line k.0, λ fields i. none-there (object_of line) fields k.1 (object-of-event line fields i))

pub gives-nothing : (d : Decoding) (line : ByteString) → (line ≢ []) × ((fields : List NamedDatum) → IsContent d line fields → ⊥) → IsTrue (is_undecodable d line)
gives-nothing decoding.Bytes line h = absurd (h.1 (message_of line) refl)
gives-nothing decoding.Json line h =
    and_true _ _ (bytes-there line h.0) (nothing-there (object_of line) (λ fields e. h.1 fields (event-of-object line fields e)))

and-false : (b : Bool) → false ≡ b && false
and-false true = refl
and-false false = refl

some-mapped : (f : List NamedDatum → List NamedDatum) (o : Option (List NamedDatum)) → is_some o ≡ is_some (option_map f o)
some-mapped f None = refl
some-mapped f (Some own) = refl

pub no-event : (d : Decoding) (type : ByteString) (path : Option ByteString) (line : ByteString) → is_undecodable d line ≡ not (is_empty line) && not (is_some (line_fields d type path line))
no-event decoding.Bytes type path line = and-false (not (is_empty line))
no-event decoding.Json type path line = ap (λ t. not (is_empty line) && not t) (some-mapped (from_source type path) (object_of line))
