-- Groups, in the order of their first events.
use Rattle.std.specs.Prelude.{ℕ, ◌+◌, ◌&&◌, Bool, true, not, nat_lt, Option, Some, None, List, [], ◌∷◌, ◌++◌, map, find, filter, nat_le, ◌-◌, if◌then◌else◌}
use Rattle.std.specs.Ordering.{is_eq}
use Rattle.std.specs.List.{list_any}
use Rattle.vx_value.specs.Datum.{Datum}
use Rattle.vx_value.specs.Orders.{datum_cmp}
use Rattle.vx_value.specs.declared.event.Event.{Event}
use Rattle.vx_ledger.specs.Copies.{Copy, joined}
use Rattle.vx_ledger.specs.declared.parcel.Parcel.{Parcel}
use Rattle.vx_transform.specs.Shelves.{Shelved}
use Rattle.vx_transform.specs.declared.output.Output.{Output}
use Rattle.vx_reduce.specs.declared.group.Group.{Group}

-- the copies of a parcel, if it is there
abbrev pub copies_in : Option Parcel → List Copy
copies_in None = []
copies_in (Some parcel) = parcel.finalizers

-- the copies of some groups, in order
abbrev pub copies_held : List Group → List Copy
copies_held [] = []
copies_held (g ∷ gs) = copies_in g.parcel ++ copies_held gs

-- a parcel put out on the one port
abbrev pub passed : Parcel → Output
passed parcel = record { ports = 1; parcel = parcel }

-- the output of a parcel, if it is there
abbrev pub output_in : Option Parcel → List Output
output_in None = []
output_in (Some parcel) = passed parcel ∷ []

-- the outputs of some groups, in order
abbrev pub outputs_of : List Group → List Output
outputs_of [] = []
outputs_of (g ∷ gs) = output_in g.parcel ++ outputs_of gs

-- a shelf with some outputs behind the others
abbrev pub put_all : Shelved → List Output → Shelved
put_all shelf outputs = record { outputs = shelf.outputs ++ outputs; dropped = shelf.dropped }

-- a group with an event in place of its own, and with more copies
abbrev pub joined_group : Event → List Copy → ℕ → Group → Group
joined_group event copies moment g =
    record { key = g.key; moment = moment; parcel = Some (record { event = event; finalizers = copies_in g.parcel ++ copies }) }

-- a group of one event
abbrev pub new_group : Datum → Event → List Copy → ℕ → Group
new_group key event copies moment = record { key = key; moment = moment; parcel = Some (record { event = event; finalizers = copies }) }

-- whether a group has a key
abbrev pub has_key : Datum → Group → Bool
has_key key g = is_eq (datum_cmp key g.key)

-- the group of a key
abbrev pub group_of : Datum → List Group → Option Group
group_of key gs = find (has_key key) gs

-- groups, of which that of a key has changed
abbrev pub changed : Datum → (Group → Group) → List Group → List Group
changed key f [] = []
changed key f (g ∷ gs) = if has_key key g then f g ∷ gs else g ∷ changed key f gs

-- groups without that of a key
abbrev pub without : Datum → List Group → List Group
without key [] = []
without key (g ∷ gs) = if has_key key g then gs else g ∷ without key gs

-- the outputs of the group of a key, if there is one
abbrev pub output_found : Option Group → List Output
output_found None = []
output_found (Some g) = output_in g.parcel

-- the copies of a group, if there is one
abbrev pub copies_found : Option Group → List Copy
copies_found None = []
copies_found (Some g) = copies_in g.parcel
