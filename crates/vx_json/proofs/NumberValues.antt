-- What a number's text stands for.
use Rattle.std.proofs.Common.{◌≡◌, ℕ, zero, suc, ◌<◌, ◌^◌, Bool, true, false, cond, ◌==◌, ◌&&◌, ◌||◌, nat_lt, ℤ, pos, negsuc, [], ◌∷◌, neg_ℤ, refl, sym, ◌∙◌, ap, subst, arith, FitsSigned, w64}
use Rattle.std.specs.Str.{IsAscii}
use Rattle.std.specs.Str.Lossy.{utf8_lossy}
use Rattle.std.specs.Str.Parse.{signed_digits_value, digits_value, without_leading_sign, starts_with_minus, IsNumeral}
use Rattle.std.specs.Char.{digit_value}
use Rattle.std.specs.Fmt.{decimal, signed_decimal}
use Rattle.std.proofs.lemmas.Bool.Decides.{nat_tests}
use Rattle.std.proofs.lemmas.Str.{utf8_lossy-IsUtf8, IsUtf8-from_ascii, IsAscii-append}
use Rattle.std.proofs.lemmas.Fmt.{decimal_is_IsNumeral}
use Rattle.vx_value.specs.Texts.{ByteString, same_text, is_empty}
use Rattle.vx_value.specs.Datum.{Whole, Spelled}
use Rattle.vx_value.proofs.Order.{same_text-true, same_text-refl}
use Rattle.vx_json.specs.Numbers.{is_digit, are_digits, some_digits, is_minus, is_whole_part, is_fraction, are_signed_digits, is_exponent, NumberParts}
use Rattle.vx_json.specs.Grammar.{Syntax, WholeNumber, OtherNumber, IsSyntax, spelling, value_of}
use Rattle.vx_json.specs.Machine.{is_whole_text, is_within, number_datum}
use Rattle.vx_json.proofs.Choices.{both_true, and_true, eq_of, lt_of}

-- ---- numbers are ASCII
digit_ascii : (b : ℕ) → is_digit b ≡ true → b < 128
digit_ascii b h = grind (arith, nat_tests)

is_ascii : (a b : ℕ) → a < 128 → (b == a) ≡ true → b < 128
is_ascii a b l h = let e = eq_of b a h in omega arith

pub ascii-cons : (b : ℕ) (w : ByteString) → b < 128 → IsAscii w → IsAscii (b ∷ w)
ascii-cons b w h k zero = h
ascii-cons b w h k (suc i) = k i

pub ascii-nil : IsAscii []
ascii-nil i = omega arith

ascii-digits : (w : ByteString) → are_digits w ≡ true → IsAscii w
ascii-digits [] h = ascii-nil
ascii-digits (b ∷ w) h = let k = both_true _ _ h in ascii-cons b w (digit_ascii b k.0) (ascii-digits w k.1)

ascii-empty : (w : ByteString) → is_empty w ≡ true → IsAscii w
ascii-empty [] h = ascii-nil
ascii-empty (b ∷ w) h = cc

ascii-some : (w : ByteString) → some_digits w ≡ true → IsAscii w
ascii-some [] h = ascii-nil
ascii-some (b ∷ w) h = ascii-digits (b ∷ w) h

ascii-minus : (w : ByteString) → is_minus w ≡ true → IsAscii w
ascii-minus [] h = ascii-nil
ascii-minus (b ∷ w) h = let k = both_true _ _ h in ascii-cons b w (is_ascii 45 b (omega arith) k.0) (ascii-empty w k.1)

whole-case : (b : ℕ) (w : ByteString) (t : Bool) → (b == 48) ≡ t → cond t (is_empty w) (is_digit b && are_digits w) ≡ true → IsAscii (b ∷ w)
whole-case b w true e h = ascii-cons b w (is_ascii 48 b (omega arith) e) (ascii-empty w h)
whole-case b w false e h = ascii-digits (b ∷ w) h

ascii-whole : (w : ByteString) → is_whole_part w ≡ true → IsAscii w
ascii-whole [] h = ascii-nil
ascii-whole (b ∷ w) h = whole-case b w (b == 48) refl h

ascii-fraction : (w : ByteString) → is_fraction w ≡ true → IsAscii w
ascii-fraction [] h = ascii-nil
ascii-fraction (b ∷ w) h = let k = both_true _ _ h in ascii-cons b w (is_ascii 46 b (omega arith) k.0) (ascii-some w k.1)

either_ascii : (b x y : ℕ) → x < 128 → y < 128 → ((b == x) || (b == y)) ≡ true → b < 128
either_ascii b x y hx hy h = grind (arith, nat_tests)

signed-case : (b : ℕ) (w : ByteString) (t : Bool) → ((b == 43) || (b == 45)) ≡ t → cond t (some_digits w) (is_digit b && are_digits w) ≡ true → IsAscii (b ∷ w)
signed-case b w true e h = ascii-cons b w (either_ascii b 43 45 (omega arith) (omega arith) e) (ascii-some w h)
signed-case b w false e h = ascii-digits (b ∷ w) h

ascii-signed : (w : ByteString) → are_signed_digits w ≡ true → IsAscii w
ascii-signed [] h = ascii-nil
ascii-signed (b ∷ w) h = signed-case b w ((b == 43) || (b == 45)) refl h

ascii-exponent : (w : ByteString) → is_exponent w ≡ true → IsAscii w
ascii-exponent [] h = ascii-nil
ascii-exponent (b ∷ w) h = let k = both_true _ _ h in ascii-cons b w (either_ascii b 101 69 (omega arith) (omega arith) k.0) (ascii-signed w k.1)

ascii-number : (w : ByteString) → NumberParts w → IsAscii w
ascii-number w p =
    subst IsAscii (sym p.joined)
    (IsAscii-append _ _ (IsAscii-append _ _ (IsAscii-append _ _ (ascii-minus p.minus p.is_minus_part) (ascii-whole p.whole p.is_whole)) (ascii-fraction p.fraction p.is_fraction_part)) (ascii-exponent p.exponent p.is_exponent_part))

pub lossy-number : (w : ByteString) → NumberParts w → utf8_lossy w ≡ w
lossy-number w p = utf8_lossy-IsUtf8 w (IsUtf8-from_ascii w (ascii-number w p))

-- ---- the whole number of what writing one gives
not_minus : (c : ℕ) → digit_value c < 10 → (c == 45) ≡ false
not_minus c h = grind (arith, nat_tests)

not_plus : (c : ℕ) → digit_value c < 10 → (c == 43) ≡ false
not_plus c h = grind (arith, nat_tests)

no_sign : (ds : ByteString) → IsNumeral 10 ds → (starts_with_minus ds ≡ false) × (without_leading_sign ds ≡ ds)
no_sign [] n = absurd (omega (arith, n.0))
no_sign (c ∷ ds) n = (not_minus c n.1.0, rw (not_minus c n.1.0, not_plus c n.1.0) refl)

at_pos : (ds : ByteString) (n : ℕ) → IsNumeral 10 ds → digits_value 10 ds ≡ n → signed_digits_value 10 ds ≡ pos n
at_pos ds n h e =
    let k = no_sign ds h in
    ap (λ t. cond t (neg_ℤ (pos (digits_value 10 (without_leading_sign ds)))) (pos (digits_value 10 (without_leading_sign ds)))) k.0
    ∙ ap (λ w. pos (digits_value 10 w)) k.1 ∙ ap pos e

pub value-signed_decimal : (z : ℤ) → FitsSigned w64 z → signed_digits_value 10 (signed_decimal z) ≡ z
value-signed_decimal (pos n) f = let l : n < 2 ^ 63 = f.sfits in let k = decimal_is_IsNumeral n (omega arith) in at_pos (decimal n) n k.0 k.1
value-signed_decimal (negsuc n) f = let l : n < 2 ^ 63 = f.sfits in ap (λ m. neg_ℤ (pos m)) (decimal_is_IsNumeral (suc n) (omega arith)).1

within-fits : (z : ℤ) → is_within z ≡ true → FitsSigned w64 z
within-fits (pos n) h = record { sfits = lt_of n (2 ^ 63) h }
within-fits (negsuc n) h = record { sfits = lt_of n (2 ^ 63) h }

lt_test : (a b : ℕ) → a < b → nat_lt a b ≡ true
lt_test a b h = grind (arith, nat_tests)

fits-within : (z : ℤ) → FitsSigned w64 z → is_within z ≡ true
fits-within (pos n) f = lt_test n (2 ^ 63) f.sfits
fits-within (negsuc n) f = lt_test n (2 ^ 63) f.sfits

whole-text : (z : ℤ) → FitsSigned w64 z → is_whole_text (signed_decimal z) ≡ true
whole-text z f =
    let e = value-signed_decimal z f in
    and_true _ _ (ap is_within e ∙ fits-within z f) (ap (λ y. same_text (signed_decimal y) (signed_decimal z)) e ∙ same_text-refl (signed_decimal z))

-- a number as it is spelled, and the value that its text has
pub record NumberSyntax (w : ByteString) : Type 0 where
  pub syntax : Syntax
  pub is : IsSyntax syntax
  pub spelled : spelling syntax ≡ w
  pub valued : value_of syntax ≡ number_datum w

pub false_true : (t : Bool) → t ≡ false → t ≡ true → ⊥
false_true t h k = cc

by-test : (w : ByteString) (t : Bool) → NumberParts w → is_whole_text w ≡ t → NumberSyntax w
unfolding number_datum
by-test w true p e =
    let k = both_true _ _ e in record {
      syntax = WholeNumber (signed_digits_value 10 w);
      is = within-fits (signed_digits_value 10 w) k.0;
      spelled = same_text-true _ _ k.1;
      valued = rw e refl;
    }
by-test w false p e = record {
  syntax = OtherNumber w;
  is = (p, λ z f s. false_true (is_whole_text w) e (ap is_whole_text s ∙ whole-text z f));
  spelled = refl;
  valued = rw e refl;
}

pub number-syntax : (w : ByteString) → NumberParts w → NumberSyntax w
number-syntax w p = by-test w (is_whole_text w) p refl

-- the values of both kinds of number
pub whole-datum : (z : ℤ) → FitsSigned w64 z → number_datum (signed_decimal z) ≡ Whole z
unfolding number_datum
whole-datum z f = rw (whole-text z f) (ap Whole (value-signed_decimal z f))

other-at : (w : ByteString) (t : Bool) → is_whole_text w ≡ t → ((z : ℤ) → FitsSigned w64 z → w ≡ signed_decimal z → ⊥) → number_datum w ≡ Spelled w
unfolding number_datum
other-at w true e h =
    let k = both_true _ _ e in absurd (h (signed_digits_value 10 w) (within-fits (signed_digits_value 10 w) k.0) (sym (same_text-true _ _ k.1)))
other-at w false e h = rw e refl

pub other-datum : (w : ByteString) → ((z : ℤ) → FitsSigned w64 z → w ≡ signed_decimal z → ⊥) → number_datum w ≡ Spelled w
other-datum w h = other-at w (is_whole_text w) refl h

-- ---- what parsing tells
numeral : (z : ℤ) → FitsSigned w64 z → IsNumeral 10 (without_leading_sign (signed_decimal z))
numeral (pos n) f = let l : n < 2 ^ 63 = f.sfits in let k = decimal_is_IsNumeral n (omega arith) in subst (IsNumeral 10) (sym (no_sign (decimal n) k.0).1) k.0
numeral (negsuc n) f = let l : n < 2 ^ 63 = f.sfits in (decimal_is_IsNumeral (suc n) (omega arith)).0

pub parsed : (w : ByteString) (z : ℤ) (t : Bool) → FitsSigned w64 (signed_digits_value 10 w) → z ≡ signed_digits_value 10 w → same_text (signed_decimal z) w ≡ t → is_whole_text w ≡ t
parsed w z t f e s = rw (fits-within (signed_digits_value 10 w) f) (ap (λ y. same_text (signed_decimal y) w) (sym e) ∙ s)

unparsed-at : (w : ByteString) (t : Bool) → is_whole_text w ≡ t → (IsNumeral 10 (without_leading_sign w) × FitsSigned w64 (signed_digits_value 10 w) → ⊥) → t ≡ false
unparsed-at w false e h = refl
unparsed-at w true e h =
    let k = both_true _ _ e in
    let f = within-fits (signed_digits_value 10 w) k.0 in
    let same : signed_decimal (signed_digits_value 10 w) ≡ w = same_text-true (signed_decimal (signed_digits_value 10 w)) w k.1 in absurd (h (subst (λ x. IsNumeral 10 (without_leading_sign x)) same (numeral (signed_digits_value 10 w) f), f))

pub unparsed : (w : ByteString) → (IsNumeral 10 (without_leading_sign w) × FitsSigned w64 (signed_digits_value 10 w) → ⊥) → is_whole_text w ≡ false
unparsed w h = unparsed-at w (is_whole_text w) refl h
