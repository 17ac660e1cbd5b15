-- Texts of characters that stand for themselves.
use Rattle.std.proofs.Common.{◌≡◌, ℕ, zero, suc, ◌<◌, true, [], ◌∷◌, sym, arith}
use Rattle.std.proofs.lemmas.Bool.Decides.{nat_tests}
use Rattle.std.proofs.lemmas.Str.{IsUtf8-from_ascii, utf8_lossy-IsUtf8}
use Rattle.std.specs.Str.{IsAscii, IsUtf8}
use Rattle.std.specs.Str.Lossy.{utf8_lossy}
use Rattle.vx_value.specs.Texts.{ByteString}
use Rattle.vx_json.specs.Runs.{is_plain, are_plain}
use Rattle.vx_json.proofs.Choices.{both_true}

byte-ascii : (b : ℕ) → is_plain b ≡ true → b < 128
byte-ascii b h = grind (arith, nat_tests)

plain-ascii : (w : ByteString) → are_plain w ≡ true → IsAscii w
plain-ascii [] h i = omega arith
plain-ascii (b ∷ w) h zero = byte-ascii b (both_true _ _ h).0
plain-ascii (b ∷ w) h (suc i) = plain-ascii w (both_true _ _ h).1 i

-- they are UTF-8
pub plain-utf8 : (w : ByteString) → are_plain w ≡ true → IsUtf8 w
plain-utf8 w h = IsUtf8-from_ascii w (plain-ascii w h)

-- so nothing is replaced in them
pub plain-lossy : (w : ByteString) → are_plain w ≡ true → w ≡ utf8_lossy w
plain-lossy w h = sym (utf8_lossy-IsUtf8 w (plain-utf8 w h))
