-- What moving an instance's parcels on does.
use Rattle.std.specs.Prelude.{◌≡◌, ◌⊎◌, ◌+◌, ◌<◌, ℕ, true, false, Option, IfNone, [], ◌∷◌, length}
use Rattle.vx_ends.specs.Observation.{Observation}
use Rattle.vx_status.specs.declared.outcome.Outcome.TheVariants.{NewestDropped, NoConsumer}
use Rattle.vx_record.specs.declared.entry.Entry.{Entry}
use Rattle.vx_record.specs.declared.entry.Entry.TheVariants.{Split, Push, Spent, Notice}
use Rattle.vx_record.specs.Records.{Record}
use Rattle.vx_record.specs.Additions.{OnlyAdds}
use Rattle.vx_record.specs.Stages.{stages_of, last_drops}
use Rattle.vx_record.specs.Turns.{is_out}
use Rattle.vx_places.specs.Calls.{NoneWaits, IsOldestFor}
use Rattle.vx_places.specs.Looks.{HasOutput, IsFirstRoom}
use Rattle.vx_moves.specs.Leaving.{Leaves}
use Rattle.vx_moves.specs.Stands.{Stands}
use Rattle.vx_moves.specs.declared.engine.EngineState.{EngineState}

-- a split or a push of the instance, a spend of a copy of it that nobody reads or that its target dropped, or a notice
abbrev pub IsMoveOf : ℕ → Record → Entry → Type 0
IsMoveOf i h (Split j ports copies event children) = j ≡ i
IsMoveOf i h (Push j t s copies) = j ≡ i
IsMoveOf i h (Spent j c outcome) = (j ≡ i) × ((outcome ≡ NoConsumer) ⊎ (outcome ≡ NewestDropped))
IsMoveOf i h (Notice b status) = Unit {0}
IsMoveOf i h other = ⊥

-- parcels of an instance were moved on, and nothing else was done
pub record HasMoved {P : Type 0} (observe : P → Observation) (i : ℕ) (old new : EngineState P) : Type 0 where
  pub stands : Stands observe new
  pub only : OnlyAdds (IsMoveOf i) old.log new.log
  pub leaves : Leaves old new
  pub size : length new.states ≡ length old.states

-- how many children entered a buffer
abbrev pub pushes : Record → ℕ
pushes [] = 0
pushes (Push i t s copies ∷ h) = pushes h + 1
pushes (e ∷ h) = pushes h

-- so many did in between
abbrev pub HaveEntered : ℕ → Record → Record → Type 0
HaveEntered n old new = pushes new ≡ pushes old + n

-- an entry was made in between
abbrev pub Grew : Record → Record → Type 0
Grew old new = length old < length new

-- a waiting child of an instance, the oldest for its target, may enter the target's first stage that has room, or is dropped where
-- all are full
pub record CanPass {P : Type 0} (engine : EngineState P) (i : ℕ) : Type 0 where
  pub child : ℕ
  pub target : ℕ
  pub stage : Option ℕ
  pub oldest : IsOldestFor engine.places i target child
  pub room : IsFirstRoom engine.places target stage
  pub drops : IfNone stage (last_drops (stages_of engine.log target) ≡ true)

-- so it is, or no child of it waits and it has an output
abbrev pub CanMove : {P : Type 0} → EngineState P → ℕ → Type 0
CanMove engine i = (NoneWaits engine.places i × HasOutput engine.places i) ⊎ CanPass engine i

-- no unleased instance before a number can
abbrev pub NoneMovesBelow : {P : Type 0} → ℕ → EngineState P → Type 0
NoneMovesBelow n engine = (i : ℕ) → i < n → is_out engine.log i ≡ false → CanMove engine i → ⊥

-- none at all can
abbrev pub NoneMoves : {P : Type 0} → EngineState P → Type 0
NoneMoves engine = NoneMovesBelow (length engine.states) engine
