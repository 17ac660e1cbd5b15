-- Runs of bytes of one kind, and where they lead.
use Rattle.std.specs.Prelude.{◌≡◌, ℕ, Bool, true, false, ◌&&◌, ◌==◌, not, nat_le, nat_lt, List, [], ◌∷◌, ◌++◌}
use Rattle.std.specs.Str.Lossy.{utf8_lossy}
use Rattle.vx_value.specs.Texts.{ByteString}
use Rattle.vx_json.specs.declared.number_place.NumberPlace.{NumberPlace}
use Rattle.vx_json.specs.declared.number_place.NumberPlace.TheVariants as number
use Rattle.vx_json.specs.Machine.{Mode, Frame, state, step, height}

-- whether a byte inside a text is a character that stands for itself
abbrev pub is_plain : ℕ → Bool
is_plain b = nat_le 32 b && (nat_lt b 128 && (not (b == 34) && not (b == 92)))

abbrev pub are_plain : ByteString → Bool
are_plain [] = true
are_plain (b ∷ w) = is_plain b && are_plain w

-- whether each digit that comes at a place of a number leads to that place again
abbrev pub takes_digits : NumberPlace → Bool
takes_digits number.Whole = true
takes_digits number.Fraction = true
takes_digits number.Exponent = true
takes_digits p = false

-- plain bytes and a quote behind them, which together end a text
pub record IsClosed (w words : ByteString) : Type 0 where
  pub run : ByteString
  pub plain : are_plain run ≡ true
  pub bytes : w ≡ run ++ 34 ∷ []
  pub text : words ≡ utf8_lossy run

-- bytes lead from one place to another, and each of them leaves as many levels open as there were
abbrev pub LeadsLevel : Mode → List Frame → ByteString → Mode → Type 0
LeadsLevel m st [] n = m ≡ n
LeadsLevel m st (b ∷ w) n = (k : Mode) × (step m st b ≡ state k st) × (height k st ≡ height m st) × LeadsLevel k st w n
