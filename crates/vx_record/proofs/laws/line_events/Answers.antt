use Rattle.std.proofs.Common.{◌≡◌, Option, Some, None, List, [], ◌∷◌, ◌++◌, codes, refl, ap}
use Rattle.std.specs.Str.Lossy.{utf8_lossy}
use Rattle.vx_value.specs.Texts.{ByteString}
use Rattle.vx_value.specs.Datum.{Words, NamedDatum}
use Rattle.vx_value.specs.declared.event.Event.{Event}
use Rattle.vx_plan.specs.Options.{type_name, file_read}
use Rattle.vx_json.specs.LineEvents.{line_fields}
use Rattle.vx_json.proofs.Lines.{event-is, is-event}
use Rattle.vx_codec.specs.declared.decoding.Decoding.TheVariants as decoding
use Rattle.vx_record.specs.Laws.{file_fields}
use Rattle.vx_record.specs.Reads.{event_with}
use Rattle.vx_record.proofs.laws.line_events.Goals as goal

abbrev fields-of : List Event → List NamedDatum
fields-of [] = []
fields-of (event ∷ rest) = event.fields

some-event : (o : Option (List NamedDatum)) (fields : List NamedDatum) → event_with o ≡ record { fields = fields } ∷ [] → o ≡ Some fields
some-event None fields e = cc
some-event (Some own) fields e = ap (λ events. Some (fields-of events)) e

no-event : (o : Option (List NamedDatum)) → event_with o ≡ [] → (fields : List NamedDatum) → o ≡ Some fields → ⊥
no-event None none fields e = cc
no-event (Some own) none fields e = cc

none-there : (o : Option (List NamedDatum)) → ((fields : List NamedDatum) → o ≡ Some fields → ⊥) → event_with o ≡ []
none-there None n = refl
none-there (Some own) n = absurd (n own refl)

pub returns-clause-gives : goal.returns-clause-gives
returns-clause-gives c d settings line fields = (
  (λ e. event-is d (type_name settings) (file_read settings) line.bytes fields (some-event (line_fields d (type_name settings) (file_read settings) line.bytes) fields e)),
  (λ is. ap event_with (is-event d (type_name settings) (file_read settings) line.bytes fields is)),
)

pub returns-clause-gives_none : goal.returns-clause-gives_none
returns-clause-gives_none c d settings line = (
  (λ e fields is. no-event (line_fields d (type_name settings) (file_read settings) line.bytes) e fields (is-event d (type_name settings) (file_read settings) line.bytes fields is)),
  (λ n. none-there (line_fields d (type_name settings) (file_read settings) line.bytes) (λ fields e. n fields (event-is d (type_name settings) (file_read settings) line.bytes fields e))),
)

pub returns-clause-text_gives : goal.returns-clause-text_gives
returns-clause-text_gives c settings line = go (file_read settings)
  where
    go : (path : Option ByteString) → event_with (line_fields decoding.Bytes (type_name settings) path line.bytes)
        ≡ record { fields = file_fields path ++ record { name = codes "message"; value = Words (utf8_lossy line.bytes) } ∷ record { name = codes "source_type"; value = Words (type_name settings) } ∷ [] } ∷ []
    go None = refl
    go (Some path) = refl
