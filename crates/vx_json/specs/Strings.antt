-- The spelling of texts in JSON, character by character.
use Rattle.std.specs.Prelude.{◌≡◌, ℕ, ◌+◌, ◌-◌, ◌*◌, Bool, false, ◌&&◌, ◌||◌, ◌==◌, nat_le, IsTrue, List, [], ◌∷◌, ◌++◌, encode_utf8, if◌then◌else◌}
use Rattle.vx_value.specs.Texts.{ByteString}
use Rattle.vx_value.specs.Replacement.{IsCharacter}

-- whether a byte is a digit of base 16, in either case
abbrev pub is_hex : ℕ → Bool
is_hex b = (nat_le 48 b && nat_le b 57) || ((nat_le 65 b && nat_le b 70) || (nat_le 97 b && nat_le b 102))

-- what a digit of base 16 counts
abbrev pub hex_value : ℕ → ℕ
hex_value b = if nat_le b 57 then b - 48 else (if nat_le b 70 then b - 55 else b - 87)

-- four digits of base 16
pub record Four : Type 0 where
  pub first : ℕ
  pub second : ℕ
  pub third : ℕ
  pub fourth : ℕ

abbrev pub are_hex : Four → Bool
are_hex h = is_hex h.first && (is_hex h.second && (is_hex h.third && is_hex h.fourth))

-- the number of four digits
abbrev pub code_of : Four → ℕ
code_of h = ((hex_value h.first * 16 + hex_value h.second) * 16 + hex_value h.third) * 16 + hex_value h.fourth

-- the escape of four digits
abbrev pub escape_of : Four → ByteString
escape_of h = 92 ∷ 117 ∷ h.first ∷ h.second ∷ h.third ∷ h.fourth ∷ []

-- a character as it may stand in a text: as itself, by a letter behind a backslash, by four digits, or by the four digits of each of two surrogates
pub data Piece : Type 0 where
  Itself : ByteString → Piece
  Short : ℕ → Piece
  Coded : Four → Piece
  Paired : Four → Four → Piece

-- whether a byte must be escaped where it stands in a text: a quote, a backslash or a control character
abbrev pub is_special : ℕ → Bool
is_special b = (b == 34) || ((b == 92) || nat_le b 31)

-- whether the first byte must be escaped
abbrev pub begins_special : ByteString → Bool
begins_special [] = false
begins_special (b ∷ w) = is_special b

-- whether a letter behind a backslash stands for a character
abbrev pub is_short : ℕ → Bool
is_short c = (c == 34) || ((c == 92) || ((c == 47) || ((c == 98) || ((c == 102) || ((c == 110) || ((c == 114) || (c == 116)))))))

-- the byte that a letter behind a backslash stands for: backspace, form feed, line feed, carriage return, tab, or itself
abbrev pub short_byte : ℕ → ℕ
short_byte c = if c == 98 then 8 else (if c == 102 then 12 else (if c == 110 then 10 else (if c == 114 then 13 else (if c == 116 then 9 else c))))

-- whether a number is that of a surrogate of the first half, or of the second
abbrev pub is_high : ℕ → Bool
is_high n = nat_le 0xD800 n && nat_le n 0xDBFF

abbrev pub is_low : ℕ → Bool
is_low n = nat_le 0xDC00 n && nat_le n 0xDFFF

-- the character that two surrogates stand for
abbrev pub paired_code : ℕ → ℕ → ℕ
paired_code high low = 0x10000 + (high - 0xD800) * 0x400 + (low - 0xDC00)

-- what may stand in a text
abbrev pub IsPiece : Piece → Type 0
IsPiece (Itself c) = IsCharacter c × (begins_special c ≡ false)
IsPiece (Short c) = IsTrue (is_short c)
IsPiece (Coded h) = IsTrue (are_hex h) × (is_high (code_of h) ≡ false) × (is_low (code_of h) ≡ false)
IsPiece (Paired h l) = IsTrue (are_hex h) × IsTrue (are_hex l) × IsTrue (is_high (code_of h)) × IsTrue (is_low (code_of l))

-- how it is spelled
abbrev pub piece_text : Piece → ByteString
piece_text (Itself c) = c
piece_text (Short c) = 92 ∷ c ∷ []
piece_text (Coded h) = escape_of h
piece_text (Paired h l) = escape_of h ++ escape_of l

-- the bytes of the character
abbrev pub piece_bytes : Piece → ByteString
piece_bytes (Itself c) = c
piece_bytes (Short c) = short_byte c ∷ []
piece_bytes (Coded h) = encode_utf8 (code_of h)
piece_bytes (Paired h l) = encode_utf8 (paired_code (code_of h) (code_of l))

-- the pieces of a text
abbrev pub ArePieces : List Piece → Type 0
ArePieces [] = Unit {0}
ArePieces (p ∷ ps) = IsPiece p × ArePieces ps

abbrev pub pieces_text : List Piece → ByteString
pieces_text [] = []
pieces_text (p ∷ ps) = piece_text p ++ pieces_text ps

abbrev pub pieces_bytes : List Piece → ByteString
pieces_bytes [] = []
pieces_bytes (p ∷ ps) = piece_bytes p ++ pieces_bytes ps

-- a text between quotes
abbrev pub string_text : List Piece → ByteString
string_text ps = 34 ∷ pieces_text ps ++ 34 ∷ []
