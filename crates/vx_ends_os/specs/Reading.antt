-- What a read of a device brings, and how far its stream is taken then.
use Rattle.std.specs.Prelude.{ℕ, ◌<◌, ◌≤◌, ◌+◌, ◌-◌, ◌^◌, min, Option, Some, None, Result, Ok, Err}
use Rattle.vx_ends_os.specs.declared.read_result.ReadResult.{ReadResult}
use Rattle.vx_ends_os.specs.declared.read_result.ReadResult.TheVariants.{Bytes, Nothing, End}
use Rattle.vx_ends_os.specs.declared.fault.Fault.{Fault}
use Rattle.vx_ends_os.specs.declared.place.Place.{Place}

-- a read brings at least one byte, and no more than there is room for
abbrev pub IsInRoom : ℕ → ReadResult → Type 0
IsInRoom room (Bytes n) = (0 < n) × (n ≤ room)
IsInRoom room Nothing = Unit {0}
IsInRoom room End = Unit {0}

-- how many bytes of a stream were taken; none of one that was never begun
abbrev pub taken_of : Option Place → ℕ
taken_of None = 0
taken_of (Some place) = place.taken

-- how many were taken after so many more: at the end of its type a count stands still
abbrev pub more : ℕ → ℕ → ℕ
more taken count = min (taken + count) (2 ^ 64 - 1)

-- how many were taken after a read
abbrev pub after_read : ℕ → ReadResult → ℕ
after_read taken (Bytes n) = more taken n
after_read taken Nothing = taken
after_read taken End = taken

-- how many were taken after a call
abbrev pub after_call : ℕ → Result ReadResult Fault → ℕ
after_call taken (Ok read_result) = after_read taken read_result
after_call taken (Err fault) = taken
