-- Which entries were added to a record: one fact in the place of many that say what stays.
use Rattle.std.specs.Prelude.{◌≡◌, List, [], ◌∷◌, ◌++◌}
use Rattle.vx_record.specs.declared.entry.Entry.{Entry}
use Rattle.vx_record.specs.Records.{Record}
use Rattle.vx_record.specs.Legal.{Follows}

-- an entry follows those before it, and is of a kind
pub record Comes (Kind : Record → Entry → Type 0) (h : Record) (e : Entry) : Type 0 where
  pub follows : Follows h e
  pub kind : Kind h e

-- each of some entries does, behind a record
abbrev pub Each : (Record → Entry → Type 0) → List Entry → Record → Type 0
Each Kind [] h = Unit {0}
Each Kind (e ∷ es) h = Comes Kind (es ++ h) e × Each Kind es h

-- only entries of a kind were added
pub record OnlyAdds (Kind : Record → Entry → Type 0) (old new : Record) : Type 0 where
  pub added : List Entry
  pub is : new ≡ added ++ old
  pub each : Each Kind added old
