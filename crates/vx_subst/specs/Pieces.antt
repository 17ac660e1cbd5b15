-- The pieces of a text: bytes that stand for themselves, and the forms that begin with `$`.
use Rattle.std.specs.Prelude.{ℕ, ◌+◌, zero, suc, Bool, false, ◌||◌, ◌&&◌, ◌==◌, List, [], ◌∷◌, length, if◌then◌else◌, drop, nat_le, nat_lt, take_while}
use Rattle.std.specs.List.{prefix_len, position_or_len, before_first}
use Rattle.vx_value.specs.Texts.{ByteString}

-- a piece of a text
pub data Piece : Type 0 where
  Plain : ℕ → Piece
  Dollar : Piece
  Bare : ByteString → Piece
  Braced : ByteString → Piece
  WithDefault : ByteString → ByteString → Piece

-- the codes of `$`, `{`, `}`, `:` and `-`
abbrev pub dollar : ℕ
dollar = 36

abbrev pub brace : ℕ
brace = 123

abbrev pub end_brace : ℕ
end_brace = 125

abbrev pub colon : ℕ
colon = 58

abbrev pub dash : ℕ
dash = 45

-- whether a byte may stand in a name: a letter or digit of ASCII, `_` or `.`
abbrev pub is_name_byte : ℕ → Bool
is_name_byte b =
    (nat_le 48 b && nat_le b 57) || (nat_le 65 b && nat_le b 90) || (nat_le 97 b && nat_le b 122) || (b == 95) || (b == 46)

-- whether a text begins with a byte
abbrev pub begins_with : ℕ → ByteString → Bool
begins_with b [] = false
begins_with b (c ∷ rest) = c == b

-- whether a byte is `}`
abbrev pub is_end_brace : ℕ → Bool
is_end_brace b = b == end_brace

-- `$` and a name; without a name `$` stands for itself
unfoldable pub bare : ByteString → Piece
bare [] = Plain dollar
bare (b ∷ name) = Bare (b ∷ name)

-- `${`, a name and `:-`, by what follows: a default up to the next `}`
unfoldable pub with_default : ByteString → ByteString → Piece
with_default name rest =
    if nat_lt (position_or_len is_end_brace rest) (length rest)
    then WithDefault name (before_first is_end_brace rest) else Plain dollar

-- `${` and a name, by what follows
unfoldable pub braced : ByteString → ByteString → Piece
braced [] rest = Plain dollar
braced (b ∷ name) rest =
    if begins_with end_brace rest then Braced (b ∷ name)
    else (if begins_with colon rest && begins_with dash (drop 1 rest) then with_default (b ∷ name) (drop 2 rest) else Plain dollar)

-- the piece that begins with a `$`, by what follows it
unfoldable pub form_of : ByteString → Piece
form_of rest =
    if begins_with dollar rest then Dollar
    else (if begins_with brace rest
    then braced (take_while is_name_byte (drop 1 rest)) (drop (prefix_len is_name_byte (drop 1 rest)) (drop 1 rest))
    else bare (take_while is_name_byte rest))

-- the piece that begins with a byte, by what follows it
unfoldable pub piece_of : ℕ → ByteString → Piece
piece_of b rest = if b == dollar then form_of rest else Plain b

-- how many bytes a piece has behind its first
unfoldable pub behind : Piece → ℕ
behind (Plain b) = 0
behind Dollar = 1
behind (Bare name) = length name
behind (Braced name) = length name + 2
behind (WithDefault name default) = length name + length default + 4

-- a piece and the place where it begins
pub record Placed : Type 0 where
  pub at : ℕ
  pub piece : Piece

-- the pieces of a text that begins at a place, where its first bytes, as many as said, end the piece before
unfoldable pub pieces_after : ℕ → ℕ → ByteString → List Placed
pieces_after skip at [] = []
pieces_after zero at (b ∷ rest) =
    record { at = at; piece = piece_of b rest } ∷ pieces_after (behind (piece_of b rest)) (at + 1) rest
pieces_after (suc skip) at (b ∷ rest) = pieces_after skip (at + 1) rest

-- the pieces of a text
abbrev pub pieces : ByteString → List Placed
pieces text = pieces_after 0 0 text
