-- The lines of bytes that come in pieces, as a framer cuts them.
use Rattle.std.specs.Prelude.{ℕ, ◌+◌, ◌&&◌, ◌++◌, Bool, length, nat_le, List, [], ◌∷◌, if◌then◌else◌}
use Rattle.vx_frame.specs.Frames.{Frame, capped, some_byte, last_part}

-- a line in front of others, if it isn't too long
abbrev pub kept : ℕ → Frame → List Frame → List Frame
kept limit line lines = if nat_le (length line.bytes) limit then line ∷ lines else lines

-- the lines that parts end, where `seen` bytes stand before them, the last ones of which, `held`, belong to the first line;
-- the last part is one only where the bytes have ended and it isn't empty
abbrev pub lines_of : (limit : ℕ) (ended : Bool) (seen : ℕ) (held : List ℕ) (part : List ℕ) → List (List ℕ) → List Frame
lines_of limit ended seen held part [] =
    if ended && some_byte (held ++ part) then kept limit (record { bytes = held ++ part; end = capped (seen + length part) }) [] else []
lines_of limit ended seen held part (next ∷ more) =
    kept limit (record { bytes = held ++ part; end = capped (seen + length part + 1) }) (lines_of limit ended (capped (seen + length part + 1)) [] next more)

-- one more, if a line is too long
abbrev pub counted : ℕ → List ℕ → ℕ → ℕ
counted limit line n = if nat_le (length line) limit then n else n + 1

-- how many of those lines are too long
abbrev pub overlong_of : (limit : ℕ) (ended : Bool) (held : List ℕ) (part : List ℕ) → List (List ℕ) → ℕ
overlong_of limit ended held part [] = if ended && some_byte (held ++ part) then counted limit (held ++ part) 0 else 0
overlong_of limit ended held part (next ∷ more) = counted limit (held ++ part) (overlong_of limit ended [] next more)

-- the bytes behind the last line feed
abbrev pub last_of : (held : List ℕ) (part : List ℕ) → List (List ℕ) → List ℕ
last_of held part more = last_part (held ++ part) more
