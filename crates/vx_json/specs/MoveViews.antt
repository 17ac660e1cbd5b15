-- What the moves of the code stand for.
use Rattle.std.specs.Prelude.{ℕ, Bool, true, false, Option, Some, None, [], ◌∷◌, encode_utf8}
use Rattle.vx_value.specs.Texts.{ByteString}
use Rattle.vx_json.specs.Machine.{Goes, Ends, Wrong}
use Rattle.vx_json.specs.Machine as machine
use Rattle.vx_json.specs.declared.text_place.TextPlace.{TextPlace}
use Rattle.vx_json.specs.declared.text_place.TextPlace.TheVariants as place
use Rattle.vx_json.specs.declared.text_move.TextMove.{TextMove}
use Rattle.vx_json.specs.declared.text_move.TextMove.TheVariants as move

-- what a move for a byte stands for
abbrev pub move_view : TextMove → ℕ → machine.TextMove
move_view (move.Skips q) b = Goes q []
move_view (move.Adds q) b = Goes q (b ∷ [])
move_view (move.Means c) b = Goes place.Plain (c ∷ [])
move_view (move.Codes c) b = Goes place.Plain (encode_utf8 c)
move_view move.Ends b = Ends
move_view move.Wrong b = Wrong

-- whether a place is among the digits of an escape
abbrev pub is_among_digits : TextPlace → Bool
is_among_digits place.Plain = false
is_among_digits place.Last = false
is_among_digits place.Two = false
is_among_digits place.TwoHigh = false
is_among_digits place.TwoLow = false
is_among_digits place.Three = false
is_among_digits place.ThreeHigh = false
is_among_digits place.ThreeLow = false
is_among_digits place.Escaped = false
is_among_digits p = true

-- the bytes that a move adds
abbrev pub move_bytes : machine.TextMove → ByteString
move_bytes (Goes q bytes) = bytes
move_bytes Ends = []
move_bytes Wrong = []

-- the place to which it leads, if it does
abbrev pub move_place : machine.TextMove → Option TextPlace
move_place (Goes q bytes) = Some q
move_place Ends = None
move_place Wrong = None

-- whether it ends the text
abbrev pub move_ends : machine.TextMove → Bool
move_ends (Goes q bytes) = false
move_ends Ends = true
move_ends Wrong = false
