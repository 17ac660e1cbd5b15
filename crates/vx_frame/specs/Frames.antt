-- The lines of bytes.
use Rattle.std.specs.Prelude.{ℕ, ◌+◌, ◌-◌, ◌==◌, ◌&&◌, Bool, false, true, not, min, length, filter, nat_le, List, [], ◌∷◌, if◌then◌else◌}

-- a line, and the number of bytes up to its end
pub record Frame : Type 0 where
  pub bytes : List ℕ
  pub end : ℕ

-- bytes cut at their line feeds: the part before the first one, and the parts behind each
pub record Parts : Type 0 where
  pub first : List ℕ
  pub more : List (List ℕ)

-- the line feed
abbrev pub line_feed : ℕ
line_feed = 10

-- one byte more in front
abbrev pub before : ℕ → Parts → Parts
before b parts =
    if b == line_feed then record { first = []; more = parts.first ∷ parts.more }
    else record { first = b ∷ parts.first; more = parts.more }

-- bytes cut at their line feeds
abbrev pub cut : List ℕ → Parts
cut [] = record { first = []; more = [] }
cut (b ∷ bytes) = before b (cut bytes)

-- a count, which stands still at its end
abbrev pub capped : ℕ → ℕ
capped n = min n 18446744073709551615

-- whether there is a byte
abbrev pub some_byte : List ℕ → Bool
some_byte [] = false
some_byte (b ∷ bytes) = true

-- the lines of parts from an offset on: a line for each line feed, and one for the last part, if the bytes have ended and it isn't empty
abbrev pub lines_from : (at : ℕ) (ended : Bool) (part : List ℕ) → List (List ℕ) → List Frame
lines_from at ended part [] = if ended && some_byte part then record { bytes = part; end = capped (at + length part) } ∷ [] else []
lines_from at ended part (next ∷ more) =
    let end = at + length part + 1 in
    record { bytes = part; end = capped end } ∷ lines_from end ended next more

-- the lines of bytes from an offset on, however long
abbrev pub all_lines : (at : ℕ) → List ℕ → (ended : Bool) → List Frame
all_lines at bytes ended = lines_from at ended (cut bytes).first (cut bytes).more

-- whether a line is within a limit
abbrev pub fits : (limit : ℕ) → Frame → Bool
fits limit line = nat_le (length line.bytes) limit

-- whether it is too long
abbrev pub is_overlong : (limit : ℕ) → Frame → Bool
is_overlong limit line = not (fits limit line)

-- the lines of bytes within a limit
abbrev pub frames : List ℕ → (limit : ℕ) → (ended : Bool) → List Frame
frames bytes limit ended = filter (fits limit) (all_lines 0 bytes ended)

-- how many lines of bytes are too long
abbrev pub discarded : List ℕ → (limit : ℕ) → (ended : Bool) → ℕ
discarded bytes limit ended = length (filter (is_overlong limit) (all_lines 0 bytes ended))

-- the last of some parts
abbrev pub last_part : List ℕ → List (List ℕ) → List ℕ
last_part part [] = part
last_part part (next ∷ more) = last_part next more

-- the line that bytes leave unfinished: what stands behind their last line feed
abbrev pub open_line : List ℕ → List ℕ
open_line bytes = last_part (cut bytes).first (cut bytes).more

-- the offset where that line begins
abbrev pub open_from : List ℕ → ℕ
open_from bytes = length bytes - length (open_line bytes)
