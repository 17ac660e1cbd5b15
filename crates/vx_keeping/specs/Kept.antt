-- What a keeper has, as contracts see it.
use Rattle.std.specs.Prelude.{◌≡◌, ℕ, Bool, Option, Some, None, List, [], ◌∷◌, ◌++◌}
use Rattle.vx_value.specs.Filled.{Filled}
use Rattle.vx_ledger.specs.Copies.{Copy}
use Rattle.vx_ledger.specs.declared.parcel.Parcel.{Parcel}
use Rattle.vx_transform.specs.Shelves.{Shelved, copies_dropped, copies_on}
use Rattle.vx_reduce.specs.declared.reduce.Reduce.{Reduce}
use Rattle.vx_reduce.specs.Groups.{copies_held}

-- the reduce that makes the answers, or none where a host does, the parcels that were taken since the last one with room for so many, what was put out and isn't taken off
-- yet, the copies that the next answer discards or the last one did, how many parcels these came first in, the copy that is given up
-- next, if there is one, and whether more is known of it than its copies
pub record Kept : Type 0 where
  pub maker : Option Reduce
  pub taken : Filled Parcel
  pub shelf : Shelved
  pub discarded : List Copy
  pub dropped : ℕ
  pub loose : Option Copy
  pub fit : Bool

-- nothing stands on a shelf
abbrev pub nothing : Shelved
nothing = record { outputs = []; dropped = [] }

-- a copy, if there is one
abbrev pub loose_copies : Option Copy → List Copy
loose_copies None = []
loose_copies (Some copy) = copy ∷ []

-- the copies that a maker holds from one answer to the next: those of a reduce's groups, and of a host none
abbrev pub copies_made : Option Reduce → List Copy
copies_made (Some r) = copies_held r.groups
copies_made None = []

-- a maker holds nothing: a reduce has no group, and a host never does
abbrev pub HoldsNone : Option Reduce → Type 0
HoldsNone (Some r) = r.groups ≡ []
HoldsNone None = Unit {0}

-- the copies that a keeper has
abbrev pub copies_kept : Kept → List Copy
copies_kept k = loose_copies k.loose ++ (copies_made k.maker ++ (copies_dropped k.taken.items ++ (copies_on k.shelf ++ k.discarded)))
