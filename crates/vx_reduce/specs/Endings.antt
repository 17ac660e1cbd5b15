-- Groups that are put out.
use Rattle.std.specs.Prelude.{◌≡◌, ℕ, Option, List, [], ◌∷◌, ◌++◌, IfSome}
use Rattle.std.specs.Ordering.{nat_cmp}
use Rattle.std.specs.Map.{lookup, remove_entry}
use Rattle.std.specs.BTreeMap.{is_at}
use Rattle.vx_value.specs.Datum.{Datum}
use Rattle.vx_value.specs.declared.event.Event.{Event}
use Rattle.vx_ledger.specs.Copies.{Copy}
use Rattle.vx_transform.specs.declared.output.Output.{Output}
use Rattle.vx_reduce.specs.declared.group.Group.{Group}
use Rattle.vx_reduce.specs.declared.group.Ending.{Ending}
use Rattle.vx_reduce.specs.declared.group.Ending.TheVariants.{Apart, Joined}
use Rattle.vx_reduce.specs.Groups.{passed, output_found, copies_found}

-- what is put out of a group, if there is one, and of the event that ends it: the event goes behind the group, or takes the
-- group's copies
abbrev pub ending_outputs : Ending → Option Group → Event → List Copy → List Output
ending_outputs Apart found event copies = output_found found ++ passed (record { event = event; finalizers = copies }) ∷ []
ending_outputs Joined found event copies = passed (record { event = event; finalizers = copies_found found ++ copies }) ∷ []

-- the group under a number, whose key is told, isn't among the groups any more
pub record IsTakenOut (number : ℕ) (key : Datum) (old new : List (ℕ × Group)) : Type 0 where
  pub entries : new ≡ remove_entry (is_at (nat_cmp number)) old
  pub named : IfSome (lookup (is_at (nat_cmp number)) old) (λ g. key ≡ g.key)
