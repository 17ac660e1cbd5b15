-- How a name, path or input is printed.
use Rattle.std.specs.Prelude.{◌≡◌, ℕ, ◌-◌, ◌<◌, ◌≤◌, Bool, false, ◌||◌, ◌==◌, nat_le, List, [], ◌∷◌, ◌++◌, length, if◌then◌else◌, codes, encode_utf8}
use Rattle.std.specs.Char.{is_control}
use Rattle.std.specs.Fmt.{digits}
use Rattle.std.specs.Int.{is_in_range}
use Rattle.std.specs.List.{flat_map}
use Rattle.std.specs.Str.{chars}
use Rattle.vx_value.specs.Texts.{ByteString}

-- whether a character ends a line or a paragraph, beside the controls: U+2028 and U+2029
abbrev pub is_separator : ℕ → Bool
is_separator c = is_in_range 0x2028 0x2029 c

-- whether a character says in which direction text is written: U+061C, U+200E, U+200F, U+202A to U+202E, U+2066 to U+2069
abbrev pub is_direction : ℕ → Bool
is_direction c = ((c == 0x061C || is_in_range 0x200E 0x200F c) || is_in_range 0x202A 0x202E c) || is_in_range 0x2066 0x2069 c

-- whether a character could end a line, or change how the rest of it looks: a control, from U+0000 to U+001F or from U+007F to
-- U+009F, or one of the others
abbrev pub is_hidden : ℕ → Bool
is_hidden c = (is_control c || is_separator c) || is_direction c

-- a character as it is printed: one that is hidden by its code in hexadecimal, as `\u{1b}`, and each other as itself
unfoldable pub shown_char : ℕ → ByteString
shown_char c = if is_hidden c then codes "\\u{" ++ (digits 16 false c ++ codes "}") else encode_utf8 c

-- characters as they are printed where there is room for so many bytes: up to the last one that fits, and then `..` for more
abbrev pub shown_within : ℕ → List ℕ → ByteString
shown_within room [] = []
shown_within room (c ∷ cs) =
    if nat_le (length (shown_char c)) room then shown_char c ++ shown_within (room - length (shown_char c)) cs else codes ".."

-- a text as it is printed, in 256 bytes and perhaps `..`
unfoldable pub shown : ByteString → ByteString
shown text = shown_within 256 (chars text)

-- a text whose hidden characters stand by their codes, however long it is
abbrev pub spelled : ByteString → ByteString
spelled text = flat_map shown_char (chars text)

-- characters are printed up to the last one that ends within so many bytes, and then `..`
pub record IsCutAt (room : ℕ) (characters : List ℕ) (printed : ByteString) : Type 0 where
  pub front : List ℕ
  pub next : ℕ
  pub rest : List ℕ
  pub parts : characters ≡ front ++ next ∷ rest
  pub fits : length (flat_map shown_char front) ≤ room
  pub full : room < length (flat_map shown_char (front ++ next ∷ []))
  pub cut : printed ≡ flat_map shown_char front ++ codes ".."
