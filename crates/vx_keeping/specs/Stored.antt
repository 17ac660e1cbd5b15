-- What a store has, whose outputs stand in two places: those that were taken off its shelf, and behind them those that stand there.
use Rattle.std.specs.Prelude.{◌≡◌, ◌+◌, ◌<◌, ℕ, Bool, true, false, Option, Some, None, List, [], ◌++◌, length, drop, All}
use Rattle.vx_ledger.specs.Copies.{Copy}
use Rattle.vx_transform.specs.Shelves.{Shelved, copies_dropped, copies_on}
use Rattle.vx_transform.specs.declared.output.Output.{Output}
use Rattle.vx_transform.specs.Moves.{NamesPorts}
use Rattle.vx_reduce.specs.declared.reduce.Reduce.{Reduce}
use Rattle.vx_keeping.specs.Given.{IsSound}
use Rattle.vx_keeping.specs.declared.store.Store.{Store}
use Rattle.vx_keeping.specs.Kept.{Kept, nothing, copies_made, HoldsNone}
use Rattle.vx_keeping.specs.Making.{made_of}

-- outputs before those on a shelf
abbrev pub with_shelf : List Output → Shelved → Shelved
with_shelf ready shelf = record { outputs = ready ++ shelf.outputs; dropped = shelf.dropped }

-- what it put out and discarded, each the oldest first
abbrev pub shelf_of : Store → Shelved
shelf_of s = with_shelf s.ready.items s.shelf

-- its copies
abbrev pub copies_stored : Store → List Copy
copies_stored s = copies_made (made_of s.maker) ++ (copies_dropped s.taken.items ++ (copies_on (shelf_of s) ++ s.discarded.items))

-- a keeper of it
abbrev pub kept_of : Store → Option Copy → Bool → Kept
kept_of s loose fit =
    record { maker = made_of s.maker; taken = s.taken; shelf = shelf_of s; discarded = s.discarded.items; dropped = s.dropped; loose = loose; fit = fit }

-- how many parcels there are of outputs and on a shelf
abbrev pub parcels_count : List Output → Shelved → ℕ
parcels_count ready shelf = length ready + (length shelf.outputs + length shelf.dropped)

-- nothing was taken, nothing is taken off the shelf or discarded, and the maker holds nothing
pub record IsBare (s : Store) : Type 0 where
  pub taken : s.taken.items ≡ []
  pub ready : s.ready.items ≡ []
  pub discarded : s.discarded.items ≡ []
  pub maker : HoldsNone (made_of s.maker)

-- while a keeper is fit, nothing stands on its shelf, and no copy is given up next; once it isn't, there is one as long as it has copies
pub record IsSettled (s : Store) (loose : Option Copy) (fit : Bool) : Type 0 where
  pub room : 0 < s.taken.room
  pub clear : fit ≡ true → (s.shelf ≡ nothing) × (loose ≡ None)
  pub next : fit ≡ false → loose ≡ None → copies_stored s ≡ []

-- what a maker made was taken off the shelf: of a reduce it is the same as before, and of a host what is sound, with the copies that
-- are discarded behind the others
abbrev pub GathersFrom : Option Reduce → Store → Store → Type 0
GathersFrom (Some r) old new = (shelf_of new ≡ shelf_of old) × (new.taken.items ≡ old.taken.items) × (new.discarded.items ≡ old.discarded.items) × (old.shelf.dropped ≡ [] → new.shelf ≡ nothing)
GathersFrom None old new =
    (All (NamesPorts 65) old.shelf.outputs → All IsSound old.ready.items → All IsSound new.ready.items) × (new.shelf ≡ nothing) × (new.taken.items ≡ [])
    × (new.ready.items ≡ old.ready.items ++ drop (length old.ready.items) new.ready.items) × (new.discarded.items ≡ old.discarded.items ++ drop (length old.discarded.items) new.discarded.items)
