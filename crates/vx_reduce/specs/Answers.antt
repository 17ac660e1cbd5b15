-- What reduce does with an event, by the groups that it holds.
use Rattle.std.specs.Prelude.{ℕ, Bool, true, false, List, [], ◌∷◌, ◌++◌}
use Rattle.vx_value.specs.Datum.{Datum}
use Rattle.vx_value.specs.declared.event.Event.{Event}
use Rattle.vx_ledger.specs.Copies.{Copy}
use Rattle.vx_transform.specs.declared.output.Output.{Output}
use Rattle.vx_reduce.specs.declared.group.Group.{Group}
use Rattle.vx_reduce.specs.Groups.{passed, output_found, copies_found, joined_group, new_group, group_of, changed, without}

-- the groups once an event came: whether there was one of its key, and whether it starts and ends one
abbrev pub groups_after : Bool → Bool → Bool → Datum → Event → List Copy → ℕ → List Group → List Group
groups_after false starts true key event copies now gs = gs
groups_after false starts false key event copies now gs = gs ++ new_group key event copies now ∷ []
groups_after true starts true key event copies now gs = without key gs
groups_after true true false key event copies now gs = without key gs ++ new_group key event copies now ∷ []
groups_after true false false key event copies now gs = changed key (joined_group event copies now) gs

-- what is put out then
abbrev pub outputs_after : Bool → Bool → Bool → Datum → Event → List Copy → List Group → List Output
outputs_after false starts true key event copies gs = passed (record { event = event; finalizers = copies }) ∷ []
outputs_after false starts false key event copies gs = []
outputs_after true true true key event copies gs = output_found (group_of key gs) ++ passed (record { event = event; finalizers = copies }) ∷ []
outputs_after true true false key event copies gs = output_found (group_of key gs)
outputs_after true false true key event copies gs = passed (record { event = event; finalizers = copies_found (group_of key gs) ++ copies }) ∷ []
outputs_after true false false key event copies gs = []
