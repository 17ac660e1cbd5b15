-- What reduce does, by what it holds.
use Rattle.std.specs.Prelude.{◌≡◌, ℕ, ◌+◌, ◌-◌, Bool, true, false, not, is_some, nat_le, filter, Option, Some, None, List, [], ◌∷◌, ◌++◌, if◌then◌else◌}
use Rattle.vx_value.specs.Texts.{ByteString, is_empty}
use Rattle.vx_value.specs.Datum.{Datum, NamedDatum}
use Rattle.vx_value.specs.declared.event.Event.{Event}
use Rattle.vx_ledger.specs.declared.parcel.Parcel.{Parcel}
use Rattle.vx_transform.specs.Shelves.{Shelved}
use Rattle.vx_condition.specs.Picking.{held}
use Rattle.vx_condition.specs.Conditions.{Says}
use Rattle.vx_reduce.specs.declared.group.Group.{Group}
use Rattle.vx_reduce.specs.declared.reduce.Reduce.{Reduce}
use Rattle.vx_reduce.specs.Keys.{key_datum}
use Rattle.vx_reduce.specs.Groups.{outputs_of, put_all, group_of}
use Rattle.vx_reduce.specs.Merges.{fields_found, merged_event}
use Rattle.vx_reduce.specs.Answers.{groups_after, outputs_after}
use Rattle.vx_reduce.specs.Expiries.{is_old}

-- the moment of the next check, while there are groups
abbrev pub due_of : Reduce → Option ℕ
due_of r = if is_empty r.groups then None else Some (held (r.since + r.flush_period_ms))

-- the moment from which the period of checks goes on once an event came
abbrev pub since_after : Reduce → ℕ → ℕ
since_after r now = if is_empty r.groups then now else r.since

-- a condition says so of an event; where there is none, it doesn't hold
abbrev pub SaysOf : Option ByteString → Event → Bool → Type 0
SaysOf None e holds = holds ≡ false
SaysOf (Some text) e holds = Says text e.fields holds

-- what was planned for an event: by the conditions, its key, whether there is a group of it, and the event that the group is merged to
pub record IsPlanned (r : Reduce) (e : Event) (found starts ends : Bool) (key : Datum) (event : Event) : Type 0 where
  pub by_starts : SaysOf r.starts_when e starts
  pub by_ends : SaysOf r.ends_when e ends
  pub by_key : key ≡ key_datum r.rules.group_by e
  pub by_found : found ≡ is_some (group_of key r.groups)
  pub by_event : event ≡ merged_event r.rules.group_by r.rules.strategies (if starts then [] else fields_found (group_of key r.groups)) e

-- an event begins a group, ends one, or neither, by the conditions
pub record Begins (r : Reduce) (e : Event) (starts ends : Bool) : Type 0 where
  pub by_starts : SaysOf r.starts_when e starts
  pub by_ends : SaysOf r.ends_when e ends

-- the fields with which an event is merged
abbrev pub fields_before : Reduce → Bool → Event → List NamedDatum
fields_before r true e = []
fields_before r false e = fields_found (group_of (key_datum r.rules.group_by e) r.groups)

-- the groups once an event came
abbrev pub groups_then : Reduce → Bool → Bool → Parcel → ℕ → List Group
groups_then r starts ends parcel now =
    let key = key_datum r.rules.group_by parcel.event in
    groups_after (is_some (group_of key r.groups)) starts ends key
    (merged_event r.rules.group_by r.rules.strategies (fields_before r starts parcel.event) parcel.event) parcel.finalizers now r.groups

-- and what stands on the shelf
abbrev pub shelf_then : Reduce → Bool → Bool → Parcel → Shelved → Shelved
shelf_then r starts ends parcel shelf =
    let key = key_datum r.rules.group_by parcel.event in
    put_all shelf (outputs_after (is_some (group_of key r.groups)) starts ends key
    (merged_event r.rules.group_by r.rules.strategies (fields_before r starts parcel.event) parcel.event) parcel.finalizers r.groups)

-- an event that came at a moment was taken into its group, or put out with it, as the conditions say
pub record HasAnswered (old new : Reduce) (parcel : Parcel) (now : ℕ) (before after : Shelved) : Type 0 where
  pub starts : Bool
  pub ends : Bool
  pub said : Begins old parcel.event starts ends
  pub state : new ≡ record old { groups = groups_then old starts ends parcel now; since = since_after old now }
  pub shelf : after ≡ shelf_then old starts ends parcel before

-- whether a check is due at a moment
abbrev pub is_due_at : Option ℕ → ℕ → Bool
is_due_at None now = false
is_due_at (Some moment) now = nat_le moment now

-- a check, where one was due, put out the groups whose last events came so long ago, in order
pub record HasChecked (old new : Reduce) (now : ℕ) (before after : Shelved) : Type 0 where
  pub state : new ≡ (if is_due_at (due_of old) now then record old { groups = filter (λ g. not (is_old old.expire_after_ms now g)) old.groups; since = now } else old)
  pub shelf : after ≡ (if is_due_at (due_of old) now then put_all before (outputs_of (filter (is_old old.expire_after_ms now) old.groups)) else before)
