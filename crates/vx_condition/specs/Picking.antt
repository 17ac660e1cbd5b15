-- What filter, route, sample and dedupe do with an event, by the events that came before it.
use Rattle.std.specs.Prelude.{ℕ, ◌+◌, ◌-◌, ◌^◌, ◌%◌, ◌==◌, ◌&&◌, ◌||◌, Bool, true, false, not, min, Option, Some, None, List, [], ◌∷◌, ◌++◌, length, take, map, filter, reverse, count_by, if◌then◌else◌}
use Rattle.std.specs.List.{list_any}
use Rattle.std.specs.Ordering.{is_eq}
use Rattle.vx_value.specs.Datum.{Datum, NamedDatum, named_of}
use Rattle.vx_value.specs.Texts.{ByteString, same_text}
use Rattle.vx_value.specs.Events.{value_at}
use Rattle.vx_value.specs.Orders.{datum_cmp, named_cmp}
use Rattle.vx_value.specs.declared.event.Event.{Event}
use Rattle.vx_condition.specs.Steps.{Test}
use Rattle.vx_condition.specs.declared.dedupe_fields.DedupeFields.{DedupeFields}
use Rattle.vx_condition.specs.declared.dedupe_fields.DedupeFields.TheVariants.{Match, Ignore}

-- filter passes what its condition accepts
abbrev pub filter_passes : Test → List Event → Test
filter_passes accepts earlier e = accepts e

-- the ports whose conditions accept an event, the first of them having a number
abbrev pub accepting_ports : ℕ → List Test → Event → List ℕ
accepting_ports port [] e = []
accepting_ports port (accepts ∷ tests) e = (if accepts e then port ∷ [] else []) ++ accepting_ports (port + 1) tests e

-- these ports, or the port behind all of them where there is none and events are rerouted
abbrev pub or_unmatched : Bool → ℕ → List ℕ → List ℕ
or_unmatched reroute unmatched [] = if reroute then unmatched ∷ [] else []
or_unmatched reroute unmatched (port ∷ ports) = port ∷ ports

-- the ports on which route puts an event out; with none it is discarded
abbrev pub route_ports : List Test → Bool → Event → List ℕ
route_ports tests reroute e = or_unmatched reroute (length tests) (accepting_ports 0 tests e)

-- a count, which stays at the end of 64 bits
abbrev pub held : ℕ → ℕ
held n = min n (2 ^ 64 - 1)

-- sample passes what is excluded, and of all else each whose number, from 0, is a multiple of the rate
abbrev pub sample_passes : ℕ → Test → List Event → Test
sample_passes rate excluded earlier e = excluded e || (held (count_by (λ f. not (excluded f)) earlier) % rate == 0)

-- what tells whether two events repeat each other: values, of which some may be missing, or fields
pub data Key : Type 0 where
  values : List (Option Datum) → Key
  fields : List NamedDatum → Key

-- whether two values are the same, where a missing one is the same as a missing one alone
abbrev pub same_value : Option Datum → Option Datum → Bool
same_value None None = true
same_value (Some d) (Some e) = is_eq (datum_cmp d e)
same_value d e = false

abbrev pub same_values : List (Option Datum) → List (Option Datum) → Bool
same_values [] [] = true
same_values (d ∷ ds) (e ∷ es) = same_value d e && same_values ds es
same_values ds es = false

abbrev pub same_key : Key → Key → Bool
same_key (values ds) (values es) = same_values ds es
same_key (fields fs) (fields gs) = is_eq (named_cmp (named_of fs) (named_of gs))
same_key k l = false

-- the key of the values at paths
abbrev pub key_at : List (List ByteString) → Event → Key
key_at paths e = values (map (λ path. value_at e.fields path) paths)

-- the key of an event
abbrev pub dedupe_key : DedupeFields → Event → Key
dedupe_key (Match paths) e = key_at paths e
dedupe_key (Ignore names) e = fields (filter (λ f. not (list_any (same_text f.name) names)) e.fields)

-- keys without those that stand further in front already
abbrev pub distinct : List Key → List Key
distinct [] = []
distinct (k ∷ ks) = k ∷ filter (λ l. not (same_key k l)) (distinct ks)

-- so many different keys that events had last, the latest first
abbrev pub latest_keys : ℕ → (Event → Key) → List Event → List Key
latest_keys most key earlier = take most (distinct (map key (reverse earlier)))

-- dedupe discards an event whose key is among those that earlier events had last
abbrev pub dedupe_passes : ℕ → DedupeFields → List Event → Test
dedupe_passes most by earlier e = not (list_any (same_key (dedupe_key by e)) (latest_keys most (dedupe_key by) earlier))
