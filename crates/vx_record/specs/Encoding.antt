-- The bytes of a sink batch.
use Rattle.std.specs.Prelude.{ℕ, Bool, true, false, ◌&&◌, Some, None, List, [], ◌∷◌, map, ◌==◌, if◌then◌else◌}
use Rattle.vx_value.specs.Texts.{ByteString}
use Rattle.vx_value.specs.declared.event.Event.{Event}
use Rattle.vx_json.specs.Encoding.{encoded_event, encoded as encoded_events}
use Rattle.vx_codec.specs.declared.codec.Codec.{Codec}
use Rattle.vx_plan.specs.declared.settings.Settings.{Settings}
use Rattle.vx_plan.specs.Options.{encoding}
use Rattle.vx_plan.specs.declared.component.Component.{Component}
use Rattle.vx_record.specs.declared.entry.Entry.{Entry}
use Rattle.vx_record.specs.declared.entry.Entry.TheVariants.{Attempt}
use Rattle.vx_record.specs.Records.{Record}
use Rattle.vx_record.specs.Copies.{all_of}
use Rattle.vx_record.specs.Installs.{component_or}
use Rattle.vx_record.specs.Parcels.{parcel_event}

-- an event as a sink writes it
abbrev pub encode_event : Codec → Event → ByteString
encode_event codec event = encoded_event codec event.fields

-- some events as a sink writes them, in a row
abbrev pub encode : Codec → List Event → ByteString
encode codec events = encoded_events codec events

-- the bytes that a sink with these settings gives for some events
abbrev pub bytes_for : Settings → List Event → ByteString
bytes_for settings events = elim (encoding settings) [ None ↦ [] | Some c ↦ encode c events ]

-- and those for some parcels
abbrev pub encoded : Record → ℕ → List (List ℕ) → ByteString
encoded h i parcels = component_or [] (λ (c : Component). bytes_for c.settings (map (parcel_event h) parcels)) h i

-- whether some bytes are the beginning of others
abbrev pub is_prefix : ByteString → ByteString → Bool
is_prefix [] t = true
is_prefix (a ∷ s) [] = false
is_prefix (a ∷ s) (b ∷ t) = (a == b) && is_prefix s t

-- the bytes that an entry gave to the instance's port
abbrev pub given_in : ℕ → Entry → ByteString
given_in i (Attempt j copies bytes reply) = if j == i then bytes else []
given_in i other = []

-- all the bytes that went to the instance's port
abbrev pub given : Record → ℕ → ByteString
given h i = all_of (given_in i) h
