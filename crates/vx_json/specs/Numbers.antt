-- The spelling of numbers in JSON: a minus or none, a whole part, and perhaps a fraction and an exponent.
use Rattle.std.specs.Prelude.{◌≡◌, ℕ, Bool, true, false, ◌&&◌, ◌||◌, ◌==◌, nat_le, IsTrue, [], ◌∷◌, ◌++◌, if◌then◌else◌}
use Rattle.vx_value.specs.Texts.{ByteString, is_empty}

-- whether a byte is a digit
abbrev pub is_digit : ℕ → Bool
is_digit b = nat_le 48 b && nat_le b 57

-- whether the bytes are digits, perhaps none
abbrev pub are_digits : ByteString → Bool
are_digits [] = true
are_digits (b ∷ w) = is_digit b && are_digits w

-- whether they are digits, one at least
abbrev pub some_digits : ByteString → Bool
some_digits [] = false
some_digits (b ∷ w) = is_digit b && are_digits w

-- a minus, or nothing
abbrev pub is_minus : ByteString → Bool
is_minus [] = true
is_minus (b ∷ w) = (b == 45) && is_empty w

-- a zero alone, or digits of which the first is another
abbrev pub is_whole_part : ByteString → Bool
is_whole_part [] = false
is_whole_part (b ∷ w) = if b == 48 then is_empty w else is_digit b && are_digits w

-- nothing, or a point and digits
abbrev pub is_fraction : ByteString → Bool
is_fraction [] = true
is_fraction (b ∷ w) = (b == 46) && some_digits w

-- digits behind a sign, or behind none
abbrev pub are_signed_digits : ByteString → Bool
are_signed_digits [] = false
are_signed_digits (b ∷ w) = if (b == 43) || (b == 45) then some_digits w else is_digit b && are_digits w

-- nothing, or an `e` of either case and digits that may have a sign
abbrev pub is_exponent : ByteString → Bool
is_exponent [] = true
is_exponent (b ∷ w) = ((b == 101) || (b == 69)) && are_signed_digits w

-- the bytes spell a number, by its parts
pub record NumberParts (w : ByteString) : Type 0 where
  pub minus : ByteString
  pub whole : ByteString
  pub fraction : ByteString
  pub exponent : ByteString
  pub is_minus_part : IsTrue (is_minus minus)
  pub is_whole : IsTrue (is_whole_part whole)
  pub is_fraction_part : IsTrue (is_fraction fraction)
  pub is_exponent_part : IsTrue (is_exponent exponent)
  pub joined : w ≡ minus ++ whole ++ fraction ++ exponent
