-- Which byte of a file a position of its stream is, and where reading goes on.
use Rattle.std.specs.Prelude.{ℕ, List, ◌≡◌, ◌≢◌, ◌⊎◌, ◌+◌, ◌-◌, ◌^◌, min, nat_le, nat_lt, if◌then◌else◌, Option, Some, None, IsSomeAnd}
use Rattle.vx_checkpoint.specs.declared.checkpoint.Checkpoint.{Checkpoint}
use Rattle.vx_ends_os.specs.declared.place.Place.{Place}

-- The greatest offset that a checkpoint keeps.
abbrev pub greatest : ℕ
greatest = 2 ^ 63 - 1

-- The offset of a position of the stream in a file that was begun at that position and that offset, held at the greatest
-- one. What stands before was taken of a file before this one: nothing of this file is done with there.
abbrev pub offset_at : (from base position : ℕ) → ℕ
offset_at from base position = if nat_le from position then min (base + (position - from)) greatest else 0

-- The offset from which a file is read first: that of the checkpoint, where that names its path, and else its front.
abbrev pub IsOffsetFor : Option Checkpoint → (path : List ℕ) → (offset : ℕ) → Type 0
IsOffsetFor None path offset = offset ≡ 0
IsOffsetFor (Some kept) path offset = (kept.path ≡ path → offset ≡ min kept.offset greatest) × (kept.path ≢ path → offset ≡ 0)

-- nothing was taken yet, and the file is begun at that offset
abbrev pub first_place : ℕ → Place
first_place offset = record { from = 0; base = offset; taken = 0 }

-- the offset of the next byte to take
abbrev pub next_of : Place → ℕ
next_of place = offset_at place.from place.base place.taken

-- the next byte to take is the first of a file
abbrev pub anew : Place → Place
anew place = record { from = place.taken; base = 0; taken = place.taken }

-- the place in a file of so many bytes that was opened: at its front, where it is shorter
abbrev pub opened : ℕ → Place → Place
opened length place = if nat_lt length (next_of place) then anew place else place

-- the file under way is that which was, or the next byte to take is the first of one
abbrev pub GoesOn : Place → Option Place → Type 0
GoesOn old new = IsSomeAnd new (λ place. ((place.from ≡ old.from) × (place.base ≡ old.base)) ⊎ (next_of place ≡ 0))
