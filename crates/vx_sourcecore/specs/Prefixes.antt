-- Which batches of a source may be confirmed, by what is kept of them.
use Rattle.std.specs.Prelude.{◌≡◌, ◌<◌, ◌≤◌, ℕ, Bool, true, false, ◌&&◌, ◌||◌, List, [], ◌∷◌, ◌++◌, map, Option, Some, None, IfSome, ◌==◌, if◌then◌else◌, not}
use Rattle.std.specs.VecDeque.{deque_len, deque_capacity}
use Rattle.vx_ends.specs.declared.position.Position.{Position}
use Rattle.vx_value.specs.Texts.{is_empty}
use Rattle.vx_record.specs.Confirms.{Birth, last_of_each, position_of, moved_to, same_positions}
use Rattle.vx_sourcecore.specs.declared.ends.Ends.{Ends}
use Rattle.vx_sourcecore.specs.declared.prefix.Due.{Due}
use Rattle.vx_sourcecore.specs.declared.prefix.Passing.{Passing}
use Rattle.vx_sourcecore.specs.declared.prefix.Prefix.{Prefix}

-- the first of some positions, if there is one, is of no stream below that one
abbrev pub NoneBelow : ℕ → List Position → Type 0
NoneBelow stream [] = Unit {0}
NoneBelow stream (p ∷ rest) = stream ≤ p.stream

-- where some batches end: for each stream the end of the last one
abbrev pub ends_of : List Birth → List Position
ends_of births = last_of_each [] (map position_of births)

-- a batch with a number that ends at a position
abbrev pub birth_at : Bool → ℕ → Position → Birth
birth_at waits batch position = record { batch = batch; waits = waits; stream = position.stream; end = position.end }

-- what is said of batches: whether one may be confirmed as soon as those before it are, and whether it has a notice by which it
-- never will, if it may not yet
pub record Judgement : Type 0 where
  pub may : Birth → Bool
  pub never : Birth → Bool

-- each of some batches may be confirmed
abbrev pub MayAll : Judgement → List Birth → Type 0
MayAll judged [] = Unit {0}
MayAll judged (birth ∷ rest) = (judged.may birth ≡ true) × MayAll judged rest

-- the first of them, if there is one, may not
abbrev pub MayNotFirst : Judgement → List Birth → Type 0
MayNotFirst judged [] = Unit {0}
MayNotFirst judged (birth ∷ rest) = judged.may birth ≡ false

-- none of some batches has a number
abbrev pub IsNoneOf : ℕ → List Birth → Type 0
IsNoneOf batch [] = Unit {0}
IsNoneOf batch (birth ∷ rest) = ((birth.batch == batch) ≡ false) × IsNoneOf batch rest

-- each has a number of its own
abbrev pub AreApart : List Birth → Type 0
AreApart [] = Unit {0}
AreApart (birth ∷ rest) = IsNoneOf birth.batch rest × AreApart rest

-- what is kept of a batch behind which the batches end there
pub record IsKeptOf (judged : Judgement) (reached : List Position) (row : Passing) (birth : Birth) : Type 0 where
  pub batch : row.batch ≡ birth.batch
  pub passed : row.passed ≡ judged.may birth
  pub positions : row.due.positions ≡ reached
  pub copy : row.due.copy ≡ reached

-- what is kept of some batches in order, where those before them end there: all, or those before one that may never be
-- confirmed
abbrev pub AreKeptOf : Bool → Judgement → List Position → List Passing → List Birth → Type 0
AreKeptOf blocked judged before [] [] = blocked ≡ false
AreKeptOf blocked judged before [] (birth ∷ births) = (blocked ≡ true) × (judged.never birth ≡ true) × (judged.may birth ≡ false)
AreKeptOf blocked judged before (row ∷ rows) [] = ⊥
AreKeptOf blocked judged before (row ∷ rows) (birth ∷ births) =
    IsKeptOf judged (moved_to birth.stream birth.end before) row birth × AreKeptOf blocked judged (moved_to birth.stream birth.end before) rows births

-- what is to be confirmed: where the batches end that may be confirmed, which is somewhere, and not what was asked for last
pub record IsNewDue (reached asked : List Position) (due : Due) : Type 0 where
  pub positions : due.positions ≡ reached
  pub copy : due.copy ≡ reached
  pub some : is_empty reached ≡ false
  pub new : same_positions reached asked ≡ false

-- some batches may be confirmed, and of those behind them each is kept that still may become so
pub record IsCut (prefix : Prefix) (judged : Judgement) (done rest : List Birth) (asked : List Position) : Type 0 where
  pub ends : prefix.ends ≡ ends_of (done ++ rest)
  pub behind : AreKeptOf prefix.blocked judged (ends_of done) prefix.behind.items rest
  pub passed : MayAll judged done
  pub last : prefix.asked ≡ asked
  pub none : prefix.due ≡ None → ends_of done ≡ asked
  pub some : IfSome prefix.due (IsNewDue (ends_of done) asked)

-- the same, for some first ones of all batches
pub record IsCutOf (prefix : Prefix) (judged : Judgement) (births : List Birth) (asked : List Position) : Type 0 where
  pub done : List Birth
  pub rest : List Birth
  pub all : births ≡ done ++ rest
  pub cut : IsCut prefix judged done rest asked

-- the same, for as many as may be confirmed: a prefix stands for the batches of a source, of which some may be confirmed
-- by themselves and some never may, and for what its port was asked to confirm last
pub record IsPrefixOf (prefix : Prefix) (judged : Judgement) (births : List Birth) (asked : List Position) : Type 0 where
  pub done : List Birth
  pub rest : List Birth
  pub all : births ≡ done ++ rest
  pub cut : IsCut prefix judged done rest asked
  pub halted : MayNotFirst judged rest

-- ends that are known of one batch more, and room for it
pub record IsReadyFor (prefix : Prefix) (position : Position) (ends : Ends) : Type 0 where
  pub kept : ends.kept ≡ moved_to position.stream position.end prefix.ends
  pub positions : ends.positions ≡ moved_to position.stream position.end prefix.ends
  pub copy : ends.copy ≡ moved_to position.stream position.end prefix.ends
  pub room : deque_len prefix.behind < deque_capacity prefix.behind

-- what a notice, the first of its batch, changes of what is said: where that was delivered it may be confirmed, and else it
-- never may; of no other batch anything changes
pub record NoticeChanges (batch : ℕ) (delivered : Bool) (judged next : Judgement) : Type 0 where
  pub may : (birth : Birth) → next.may birth ≡ (judged.may birth || ((batch == birth.batch) && delivered))
  pub never : (birth : Birth) → next.never birth ≡ (judged.never birth || ((batch == birth.batch) && not delivered))
  pub first : (birth : Birth) → (birth.batch == batch) ≡ true → judged.never birth ≡ false

-- what a prefix is that stands for all that another one stands for
pub record GoesOn (old new : Prefix) : Type 0 where
  pub waits : new.waits ≡ old.waits
  pub stands : (judged : Judgement) → (births : List Birth) → (asked : List Position) → IsPrefixOf old judged births asked → IsPrefixOf new judged births asked

-- what is handed out to be confirmed, and none exactly where that is what was asked for last
abbrev pub IsAskFor : Option (List Position) → List Position → List Position → Type 0
IsAskFor None reached asked = reached ≡ asked
IsAskFor (Some positions) reached asked = (positions ≡ reached) × ((is_empty reached ≡ false) × (same_positions reached asked ≡ false))

-- what stays of the front, which may be confirmed
pub record IsPopped (old new : Prefix) (due : Due) : Type 0 where
  pub row : Passing
  pub front : old.behind.items ≡ row ∷ new.behind.items
  pub passed : row.passed ≡ true
  pub due_is : row.due ≡ due
  pub rest : new ≡ record old { behind = new.behind }

-- the front, if there is one, may not be confirmed
abbrev pub IsHeld : List Passing → Type 0
IsHeld [] = Unit {0}
IsHeld (row ∷ rows) = row.passed ≡ false

-- rows, where the first with a number may be confirmed
abbrev pub passed_in : ℕ → List Passing → List Passing
passed_in batch [] = []
passed_in batch (row ∷ rows) = if row.batch == batch then record row { passed = true } ∷ rows else row ∷ passed_in batch rows

-- what is to be confirmed, unless it was asked for last
abbrev pub new_due : Due → List Position → Option Due
new_due due asked = if same_positions due.positions asked then None else Some due

-- whether a batch that isn't passed has a number
abbrev pub fails : ℕ → Passing → Bool
fails batch row = (row.batch == batch) && not row.passed

-- the rows before the first of such
abbrev pub kept_before : ℕ → List Passing → List Passing
kept_before batch [] = []
kept_before batch (row ∷ rows) = if fails batch row then [] else row ∷ kept_before batch rows

-- whether there is one
abbrev pub has_failed : ℕ → List Passing → Bool
has_failed batch [] = false
has_failed batch (row ∷ rows) = fails batch row || has_failed batch rows
