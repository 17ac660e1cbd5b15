-- A whole number of 64 bits is written as a number of JSON.
use Rattle.std.proofs.Common.{◌≡◌, ℕ, zero, suc, ◌+◌, ◌%◌, ◌<◌, ◌^◌, true, false, ◌==◌, ℤ, pos, negsuc, [], ◌∷◌, ◌++◌, get_or, refl, sym, ◌∙◌, ap, arith, FitsSigned, w64}
use Rattle.std.specs.Fmt.{decimal, signed_decimal}
use Rattle.std.proofs.lemmas.Bool.Decides.{nat_tests}
use Rattle.std.proofs.lemmas.Fmt.{decimal_by_steps, first_decimal, decimal_digit}
use Rattle.std.proofs.lemmas.List.{append-nil}
use Rattle.vx_value.specs.Texts.{ByteString}
use Rattle.vx_json.specs.Numbers.{is_digit, are_digits, is_minus, is_whole_part, NumberParts}
use Rattle.vx_json.proofs.Choices.{both_true, and_true}

digit_of : (n : ℕ) → n < 10 → is_digit (48 + n) ≡ true
digit_of n h = grind (arith, nat_tests)

digits-append : (a b : ByteString) → are_digits a ≡ true → are_digits b ≡ true → are_digits (a ++ b) ≡ true
digits-append [] b h k = k
digits-append (x ∷ a) b h k = let l = both_true _ _ h in and_true _ _ l.0 (digits-append a b l.1 k)

decimal-digits : (n : ℕ) → n < 2 ^ 64 → are_digits (decimal n) ≡ true
decimal-digits n l = decimal_by_steps (λ m ds. are_digits ds ≡ true) (λ m h. and_true _ _ (digit_of m h) refl) (λ m ds h k. digits-append ds _ k (and_true _ _ (digit_of (m % 10) (omega arith)) refl)) n l

not_zero : (b : ℕ) → 48 < b → (b == 48) ≡ false
not_zero b h = grind (arith, nat_tests)

positive : (ds : ByteString) → are_digits ds ≡ true → 48 < get_or ds 0 0 → is_whole_part ds ≡ true
positive [] h l = absurd (omega arith)
positive (b ∷ ds) h l = rw (not_zero b l) h

decimal-whole : (n : ℕ) → n < 2 ^ 64 → is_whole_part (decimal n) ≡ true
decimal-whole zero l = ap is_whole_part (decimal_digit 0 (omega arith))
decimal-whole (suc n) l = positive (decimal (suc n)) (decimal-digits (suc n) l) (first_decimal (suc n) (omega arith) l)

parts-of : (minus whole : ByteString) → is_minus minus ≡ true → is_whole_part whole ≡ true → NumberParts (minus ++ whole)
parts-of minus whole h k = record {
  minus = minus;
  whole = whole;
  fraction = [];
  exponent = [];
  is_minus_part = h;
  is_whole = k;
  is_fraction_part = refl;
  is_exponent_part = refl;
  joined = sym (append-nil (minus ++ whole ++ []) ∙ append-nil (minus ++ whole));
}

pub whole-parts : (z : ℤ) → FitsSigned w64 z → NumberParts (signed_decimal z)
whole-parts (pos n) f = let l : n < 2 ^ 63 = f.sfits in parts-of [] (decimal n) refl (decimal-whole n (omega arith))
whole-parts (negsuc n) f = let l : n < 2 ^ 63 = f.sfits in parts-of (45 ∷ []) (decimal (suc n)) refl (decimal-whole (suc n) (omega arith))
