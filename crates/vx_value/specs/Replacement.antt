-- The text that stands for any bytes: each character stays, and U+FFFD comes in place of each longest part that begins a character and isn't one.
use Rattle.std.specs.Prelude.{ℕ, ◌<◌, ◌≤◌, ◌⊎◌, List, [], ◌∷◌, ◌++◌, length, take, drop}
use Rattle.std.specs.Int.{IsInRange}

-- a byte may go on with a character
abbrev pub GoesOn : ℕ → Type 0
GoesOn b = IsInRange 0x80 0xBF b

-- two bytes begin a character of three, by the row of the first
abbrev pub BeginThree : ℕ → ℕ → Type 0
BeginThree a b =
    (IsInRange 0xE0 0xE0 a × IsInRange 0xA0 0xBF b)
    ⊎ ((IsInRange 0xE1 0xEC a × IsInRange 0x80 0xBF b)
    ⊎ ((IsInRange 0xED 0xED a × IsInRange 0x80 0x9F b) ⊎ (IsInRange 0xEE 0xEF a × IsInRange 0x80 0xBF b)))

-- two bytes begin a character of four, by the row of the first
abbrev pub BeginFour : ℕ → ℕ → Type 0
BeginFour a b =
    (IsInRange 0xF0 0xF0 a × IsInRange 0x90 0xBF b)
    ⊎ ((IsInRange 0xF1 0xF3 a × IsInRange 0x80 0xBF b) ⊎ (IsInRange 0xF4 0xF4 a × IsInRange 0x80 0x8F b))

-- the bytes are one character in UTF-8, by the nine rows of the table of its well-formed sequences
abbrev pub IsCharacter : List ℕ → Type 0
IsCharacter (a ∷ []) = IsInRange 0x00 0x7F a
IsCharacter (a ∷ b ∷ []) = IsInRange 0xC2 0xDF a × GoesOn b
IsCharacter (a ∷ b ∷ c ∷ []) = BeginThree a b × GoesOn c
IsCharacter (a ∷ b ∷ c ∷ d ∷ []) = BeginFour a b × GoesOn c × GoesOn d
IsCharacter _ = ⊥

-- the bytes begin a character that has more
abbrev pub IsBeginning : List ℕ → Type 0
IsBeginning bytes = (more : List ℕ) × (0 < length more) × IsCharacter (bytes ++ more)

-- no character begins the bytes, and their first n are the longest beginning of one, or one byte where none begins one
pub record IsIllFormed (bytes : List ℕ) (n : ℕ) : Type 0 where
  pub none : (k : ℕ) → IsCharacter (take k bytes) → ⊥
  pub some : 0 < n
  pub within : n ≤ length bytes
  pub begins : 1 < n → IsBeginning (take n bytes)
  pub longest : (k : ℕ) → n < k → k ≤ length bytes → IsBeginning (take k bytes) → ⊥

-- the text that stands for bytes, from place to place
pub data StandsFor : List ℕ → List ℕ → Type 0 where
  -- no bytes: no text
  nothing : StandsFor [] []
  -- a character stays
  character : (bytes text : List ℕ) (n : ℕ) → IsCharacter (take n bytes) → StandsFor (drop n bytes) text → StandsFor bytes (take n bytes ++ text)
  -- U+FFFD comes in place of an ill-formed part
  replaced : (bytes text : List ℕ) (n : ℕ) → IsIllFormed bytes n → StandsFor (drop n bytes) text → StandsFor bytes (0xEF ∷ 0xBF ∷ 0xBD ∷ text)
