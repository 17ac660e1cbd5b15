-- Transforms that discard repeats, as contracts see them.
use Rattle.std.specs.Prelude.{◌≡◌, ℕ, Bool, List, [], ◌∷◌, map, take, if◌then◌else◌}
use Rattle.std.specs.List.{list_any}
use Rattle.std.specs.Ordering.{eq_by_cmp}
use Rattle.vx_value.specs.Datum.{Datum}
use Rattle.vx_value.specs.Orders.{datum_cmp}
use Rattle.vx_value.specs.declared.event.Event.{Event}
use Rattle.vx_condition.specs.declared.dedupe_fields.DedupeFields.{DedupeFields}
use Rattle.vx_condition.specs.Picking.{latest_keys, dedupe_key}
use Rattle.vx_pick.specs.Keys.{key_datum}

-- what tells repeats apart, how many keys are kept at most, and those that are, each as one value, the latest first
pub record Deduper : Type 0 where
  pub by : DedupeFields
  pub most : ℕ
  pub keys : List Datum

-- whether two keys are the same
abbrev pub same_datum : Datum → Datum → Bool
same_datum d e = eq_by_cmp datum_cmp d e

-- keys without the first that is this one
abbrev pub without : Datum → List Datum → List Datum
without key [] = []
without key (k ∷ ks) = if same_datum key k then ks else k ∷ without key ks

-- at most so many keys, once this one came: it goes first, whether it was among them or not
abbrev pub remembering : ℕ → Datum → List Datum → List Datum
remembering most key keys = if list_any (same_datum key) keys then key ∷ without key keys else take most (key ∷ keys)

-- a deduper saw these events: it keeps the keys that they had last
abbrev pub HasSeen : Deduper → List Event → Type 0
HasSeen d earlier = d.keys ≡ map key_datum (latest_keys d.most (dedupe_key d.by) earlier)
