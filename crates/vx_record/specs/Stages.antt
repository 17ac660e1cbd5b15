-- The stages of an instance's buffer, and which of them is full.
use Rattle.std.specs.Prelude.{ℕ, ◌+◌, Bool, true, false, Option, Some, None, List, [], ◌∷◌, length, if◌then◌else◌, nat_lt}
use Rattle.vx_plan.specs.declared.stage.Stage.{Stage}
use Rattle.vx_plan.specs.declared.when_full.WhenFull.{WhenFull}
use Rattle.vx_plan.specs.declared.when_full.WhenFull.TheVariants.{Block, DropNewest, Overflow}
use Rattle.vx_plan.specs.Components.{stages}
use Rattle.vx_record.specs.Records.{Record}
use Rattle.vx_record.specs.Lists.{contents}
use Rattle.vx_record.specs.Installs.{component_or}

-- the stages of an instance's buffer
abbrev pub stages_of : Record → ℕ → List Stage
stages_of = component_or [] stages

-- the first stage with room, from a number on
abbrev pub room_from : ℕ → Record → ℕ → List Stage → Option ℕ
room_from s h i [] = None
room_from s h i (stage ∷ rest) = if nat_lt (length (contents h i s)) stage.max_events then Some s else room_from (s + 1) h i rest

-- the first stage of an instance that is not full; none where all are full
abbrev pub first_room : Record → ℕ → Option ℕ
first_room h i = room_from 0 h i (stages_of h i)

-- whether a full stage drops what comes
abbrev pub drops_newest : WhenFull → Bool
drops_newest Block = false
drops_newest DropNewest = true
drops_newest Overflow = false

-- whether the last of some stages does
abbrev pub last_drops : List Stage → Bool
last_drops [] = false
last_drops (stage ∷ []) = drops_newest stage.when_full
last_drops (stage ∷ next ∷ rest) = last_drops (next ∷ rest)

-- the first stage with contents, from a number on
abbrev pub filled_from : ℕ → Record → ℕ → List Stage → Option ℕ
filled_from s h i [] = None
filled_from s h i (stage ∷ rest) = if nat_lt 0 (length (contents h i s)) then Some s else filled_from (s + 1) h i rest

-- the first stage of an instance that has a parcel
abbrev pub first_filled : Record → ℕ → Option ℕ
first_filled h i = filled_from 0 h i (stages_of h i)
