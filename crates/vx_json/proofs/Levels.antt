-- What each byte does to the levels that are open, and that it leads to places that can be reached.
use Rattle.std.proofs.Common.{◌≡◌, ℕ, suc, ◌+◌, ◌-◌, ◌≤◌, Bool, true, false, cond, ◌&&◌, ◌||◌, ◌==◌, nat_le, nat_lt, Option, Some, None, List, [], ◌∷◌, ◌++◌, length, refl, sym, ◌∙◌, subst, arith, codes}
use Rattle.std.proofs.lemmas.Bool.Decides.{nat_tests}
use Rattle.std.specs.Char.{encode_utf8}
use Rattle.std.specs.Str.Lossy.{utf8_lossy}
use Rattle.vx_value.specs.Texts.{ByteString}
use Rattle.vx_value.specs.Datum.{Datum, Null, Truth, Items, Fields, NamedDatum, data_of, named_of}
use Rattle.vx_value.specs.Events.{with_field}
use Rattle.vx_json.specs.Numbers.{is_digit}
use Rattle.vx_json.specs.Strings.{is_hex, hex_value, is_short, short_byte, is_high, code_of, paired_code}
use Rattle.vx_json.specs.Grammar.{is_blank}
use Rattle.vx_json.specs.Faults.{Inside, Outside, InString, Escaped, inside_after, count_after, open_behind}
use Rattle.vx_json.specs.Machine.{TextMove, Goes, Ends, Wrong, text_move, lead_move, code_move, first_code_move, is_character_code, is_mark, after_whole, number_move, may_end, number_datum, Frame, InItems, InFields, Mode, AtValue, AtFirstItem, AtFirstName, AtName, InName, AtColon, AtEnd, InWord, InNumber, InText, State, state, step, begin_move, end_move, after_move, name_move, words_move, digits_move, word_move, carry, reached, height}
use Rattle.vx_json.specs.declared.text_place.TextPlace.{TextPlace}
use Rattle.vx_json.specs.declared.text_place.TextPlace.TheVariants as place
use Rattle.vx_json.specs.declared.number_place.NumberPlace.{NumberPlace}
use Rattle.vx_json.specs.declared.number_place.NumberPlace.TheVariants as number
use Rattle.vx_json.proofs.Choices.{both_true, eq_of, le_of}
use Rattle.vx_json.proofs.TextTails.{four}
use Rattle.vx_json.proofs.Reaching.{IsLivePlace, IsLive, are_letters}

-- a choice has what both of its ways have
pub choose : {A : Type 0} (P : A → Type 0) (t : Bool) (x y : A) → (t ≡ true → P x) → (t ≡ false → P y) → P (cond t x y)
choose P true x y f g = f refl
choose P false x y f g = g refl

-- what holds of a byte holds of one that equals it
at_byte : (P : ℕ → Type 0) (x b : ℕ) → (b == x) ≡ true → P x → P b
at_byte P x b e h = subst P (sym (eq_of b x e)) h

abbrev pub inside_place : TextPlace → Inside
inside_place place.Escaped = Escaped
inside_place (place.Letter h) = Escaped
inside_place p = InString

-- whether a place is in a text
abbrev pub inside_of : Mode → Inside
inside_of (InName fs p w) = inside_place p
inside_of (InText p w) = inside_place p
inside_of m = Outside

-- ---- inside texts
-- where a byte leads
abbrev pub MoveFacts : Inside → ℕ → TextMove → Type 0
MoveFacts inside b (Goes q bytes) = IsLivePlace q × (inside_place q ≡ inside_after inside b)
MoveFacts inside b Ends = Outside ≡ inside_after inside b
MoveFacts inside b Wrong = Unit {0}

high_in_string : (b : ℕ) → 128 ≤ b → InString ≡ inside_after InString b
high_in_string b h = grind (arith, nat_tests)

pub hex_in_string : (b : ℕ) → is_hex b ≡ true → InString ≡ inside_after InString b
hex_in_string b h = grind (arith, nat_tests)

pub plain_in_string : (b : ℕ) → (b == 34) ≡ false → (b == 92) ≡ false → InString ≡ inside_after InString b
plain_in_string b h k = rw (h, k) refl

-- what is left of the tests on the first byte of a character
abbrev from_F4 : ℕ → TextMove
from_F4 b = cond (b == 0xF4) (Goes place.ThreeLow (b ∷ [])) Wrong

abbrev from_F1 : ℕ → TextMove
from_F1 b = cond (nat_lt b 0xF4) (Goes place.Three (b ∷ [])) (from_F4 b)

abbrev from_F0 : ℕ → TextMove
from_F0 b = cond (b == 0xF0) (Goes place.ThreeHigh (b ∷ [])) (from_F1 b)

abbrev from_E1 : ℕ → TextMove
from_E1 b = cond (nat_lt b 0xF0) (Goes place.Two (b ∷ [])) (from_F0 b)

abbrev from_ED : ℕ → TextMove
from_ED b = cond (b == 0xED) (Goes place.TwoLow (b ∷ [])) (from_E1 b)

abbrev from_E0 : ℕ → TextMove
from_E0 b = cond (b == 0xE0) (Goes place.TwoHigh (b ∷ [])) (from_ED b)

abbrev from_C2 : ℕ → TextMove
from_C2 b = cond (nat_lt b 0xE0) (Goes place.Last (b ∷ [])) (from_E0 b)

abbrev from_80 : ℕ → TextMove
from_80 b = cond (nat_lt b 0xC2) Wrong (from_C2 b)

leads : (b : ℕ) (t : Bool) (q : TextPlace) (m : TextMove) → IsLivePlace q → inside_place q ≡ inside_after InString b → MoveFacts InString b m → MoveFacts InString b (cond t (Goes q (b ∷ [])) m)
leads b t q m l e h = choose (MoveFacts InString b) t (Goes q (b ∷ [])) m (λ _. (l, e)) (λ _. h)

lead-facts : (b : ℕ) → InString ≡ inside_after InString b → MoveFacts InString b (lead_move b)
lead-facts b e =
    leads b (nat_lt b 0x80) place.Plain (from_80 b) tt e
    (choose (MoveFacts InString b) (nat_lt b 0xC2) Wrong (from_C2 b) (λ _. tt) (λ _.
    leads b (nat_lt b 0xE0) place.Last (from_E0 b) tt e
    (leads b (b == 0xE0) place.TwoHigh (from_ED b) tt e
    (leads b (b == 0xED) place.TwoLow (from_E1 b) tt e
    (leads b (nat_lt b 0xF0) place.Two (from_F0 b) tt e
    (leads b (b == 0xF0) place.ThreeHigh (from_F1 b) tt e
    (leads b (nat_lt b 0xF4) place.Three (from_F4 b) tt e
    (leads b (b == 0xF4) place.ThreeLow Wrong tt e tt))))))))

plain-facts : (b : ℕ) → MoveFacts InString b (text_move place.Plain b)
plain-facts b =
    choose (MoveFacts InString b) (b == 34) Ends (cond (b == 92) (Goes place.Escaped []) (cond (nat_lt b 32) Wrong (lead_move b))) (λ k. at_byte (λ x. Outside ≡ inside_after InString x) 34 b k refl) (λ k.
    choose (MoveFacts InString b) (b == 92) (Goes place.Escaped []) (cond (nat_lt b 32) Wrong (lead_move b)) (λ l. (tt, at_byte (λ x. Escaped ≡ inside_after InString x) 92 b l refl)) (λ l.
    choose (MoveFacts InString b) (nat_lt b 32) Wrong (lead_move b) (λ _. tt) (λ _. lead-facts b (plain_in_string b k l))))

within-facts : (low high : ℕ) (q : TextPlace) (b : ℕ) → 128 ≤ low → IsLivePlace q → inside_place q ≡ InString → MoveFacts InString b (cond (nat_le low b && nat_le b high) (Goes q (b ∷ [])) Wrong)
within-facts low high q b l live i =
    choose (MoveFacts InString b) (nat_le low b && nat_le b high) (Goes q (b ∷ [])) Wrong
    (λ k. let m = le_of low b (both_true _ _ k).0 in (live, i ∙ high_in_string b (omega arith))) (λ _. tt)

escaped-facts : (b : ℕ) → MoveFacts Escaped b (text_move place.Escaped b)
escaped-facts b =
    choose (MoveFacts Escaped b) (b == 117) (Goes place.Hex1 []) (cond (is_short b) (Goes place.Plain (short_byte b ∷ [])) Wrong) (λ _. (tt, refl)) (λ _.
    choose (MoveFacts Escaped b) (is_short b) (Goes place.Plain (short_byte b ∷ [])) Wrong (λ _. (tt, refl)) (λ _. tt))

digit-facts : (inside : Inside) (t : Bool) (q : TextPlace) (b : ℕ) → (t ≡ true → IsLivePlace q × (inside_place q ≡ inside_after inside b)) → MoveFacts inside b (cond t (Goes q []) Wrong)
digit-facts inside t q b f = choose (MoveFacts inside b) t (Goes q []) Wrong f (λ _. tt)

code-facts : (n b : ℕ) → InString ≡ inside_after InString b → MoveFacts InString b (code_move n)
code-facts n b e = choose (MoveFacts InString b) (is_character_code n) (Goes place.Plain (encode_utf8 n)) Wrong (λ _. (tt, e)) (λ _. tt)

first-code-facts : (n b : ℕ) → InString ≡ inside_after InString b → MoveFacts InString b (first_code_move n)
first-code-facts n b e = choose (MoveFacts InString b) (is_high n) (Goes (place.Backslash n) []) (code_move n) (λ k. (k, e)) (λ _. code-facts n b e)

pub text-facts : (p : TextPlace) (b : ℕ) → IsLivePlace p → MoveFacts (inside_place p) b (text_move p b)
text-facts place.Plain b l = plain-facts b
text-facts place.Last b l = within-facts 0x80 0xBF place.Plain b (omega arith) tt refl
text-facts place.Two b l = within-facts 0x80 0xBF place.Last b (omega arith) tt refl
text-facts place.TwoHigh b l = within-facts 0xA0 0xBF place.Last b (omega arith) tt refl
text-facts place.TwoLow b l = within-facts 0x80 0x9F place.Last b (omega arith) tt refl
text-facts place.Three b l = within-facts 0x80 0xBF place.Two b (omega arith) tt refl
text-facts place.ThreeHigh b l = within-facts 0x90 0xBF place.Two b (omega arith) tt refl
text-facts place.ThreeLow b l = within-facts 0x80 0x8F place.Two b (omega arith) tt refl
text-facts place.Escaped b l = escaped-facts b
text-facts place.Hex1 b l = digit-facts InString (is_hex b) (place.Hex2 b) b (λ k. (k, hex_in_string b k))
text-facts (place.Hex2 x) b l =
    digit-facts InString (is_hex b && cond (hex_value x == 13) (nat_le (hex_value b) 11) true) (place.Hex3 x b) b (λ k. let m = both_true (is_hex b) (cond (hex_value x == 13) (nat_le (hex_value b) 11) true) k in ((l, m.0, m.1), hex_in_string b m.0))
text-facts (place.Hex3 x y) b l = digit-facts InString (is_hex b) (place.Hex4 x y b) b (λ k. ((l.0, l.1, l.2, k), hex_in_string b k))
text-facts (place.Hex4 x y z) b l =
    choose (MoveFacts InString b) (is_hex b) (first_code_move (code_of (four x y z b))) Wrong (λ k. first-code-facts (code_of (four x y z b)) b (hex_in_string b k)) (λ _. tt)
text-facts (place.Backslash h) b l = digit-facts InString (b == 92) (place.Letter h) b (λ k. (l, at_byte (λ x. Escaped ≡ inside_after InString x) 92 b k refl))
text-facts (place.Letter h) b l = digit-facts Escaped (b == 117) (place.Low1 h) b (λ k. (l, refl))
text-facts (place.Low1 h) b l =
    digit-facts InString (is_hex b && (hex_value b == 13)) (place.Low2 h b) b (λ k. let m = both_true (is_hex b) (hex_value b == 13) k in ((l, m.0, m.1), hex_in_string b m.0))
text-facts (place.Low2 h x) b l =
    digit-facts InString (is_hex b && nat_le 12 (hex_value b)) (place.Low3 h x b) b (λ k. let m = both_true (is_hex b) (nat_le 12 (hex_value b)) k in ((l.0, l.1, l.2, m.0, m.1), hex_in_string b m.0))
text-facts (place.Low3 h x y) b l = digit-facts InString (is_hex b) (place.Low4 h x y b) b (λ k. ((l.0, l.1, l.2, l.3, l.4, k), hex_in_string b k))
text-facts (place.Low4 h x y z) b l =
    choose (MoveFacts InString b) (is_hex b) (code_move (paired_code h (code_of (four x y z b)))) Wrong (λ k. code-facts (paired_code h (code_of (four x y z b))) b (hex_in_string b k)) (λ _. tt)

-- ---- around values
-- where a byte leads, from so many levels
abbrev pub StepFacts : Inside → ℕ → ℕ → Option State → Type 0
StepFacts inside n b None = Unit {0}
StepFacts inside n b (Some s) = IsLive s.mode × (inside_of s.mode ≡ inside_after inside b) × (height s.mode s.stack ≡ count_after inside n b)

-- a byte that opens and closes nothing
pub record IsPlain (b : ℕ) : Type 0 where
  pub outside : Outside ≡ inside_after Outside b
  pub count : (n : ℕ) → n ≡ count_after Outside n b

plain_of : (b : ℕ) → (b == 34) ≡ false → ((b == 91) || (b == 123)) ≡ false → ((b == 93) || (b == 125)) ≡ false → IsPlain b
plain_of b h k l = record { outside = rw h refl; count = λ n. rw (k, l) refl }

blank_plain : (b : ℕ) → is_blank b ≡ true → IsPlain b
blank_plain b h = plain_of b (grind (arith, nat_tests)) (grind (arith, nat_tests)) (grind (arith, nat_tests))

digit_plain : (b : ℕ) → is_digit b ≡ true → IsPlain b
digit_plain b h = plain_of b (grind (arith, nat_tests)) (grind (arith, nat_tests)) (grind (arith, nat_tests))

mark_plain : (b : ℕ) → is_mark b ≡ true → IsPlain b
mark_plain b h = plain_of b (grind (arith, nat_tests)) (grind (arith, nat_tests)) (grind (arith, nat_tests))

sign_plain : (b : ℕ) → ((b == 43) || (b == 45)) ≡ true → IsPlain b
sign_plain b h = plain_of b (grind (arith, nat_tests)) (grind (arith, nat_tests)) (grind (arith, nat_tests))

eq_plain : (x b : ℕ) → (b == x) ≡ true → IsPlain x → IsPlain b
eq_plain x b e h = at_byte IsPlain x b e h

-- nothing opens or closes, and the place may be reached
stays : (m : Mode) (st : List Frame) (b : ℕ) → IsLive m → inside_of m ≡ Outside → IsPlain b → StepFacts Outside (height m st) b (state m st)
stays m st b l i p = (l, i ∙ p.outside, p.count (height m st))

-- ---- where a value begins
opens : (b x : ℕ) (n : ℕ) → (b == x) ≡ true → ((x == 91) || (x == 123)) ≡ true → (x == 34) ≡ false → (Outside ≡ inside_after Outside b) × (n + 1 ≡ count_after Outside n b)
opens b x n e h k = let same = eq_of b x e in (subst (λ y. Outside ≡ inside_after Outside y) (sym same) (rw k refl), subst (λ y. n + 1 ≡ count_after Outside n y) (sym same) (rw h refl))

closes : (b x : ℕ) (n : ℕ) → (b == x) ≡ true → ((x == 91) || (x == 123)) ≡ false → ((x == 93) || (x == 125)) ≡ true → (x == 34) ≡ false → (Outside ≡ inside_after Outside b) × (n - 1 ≡ count_after Outside n b)
closes b x n e h j k = let same = eq_of b x e in (subst (λ y. Outside ≡ inside_after Outside y) (sym same) (rw k refl), subst (λ y. n - 1 ≡ count_after Outside n y) (sym same) (rw (h, j) refl))

quotes : (b : ℕ) (n : ℕ) → (b == 34) ≡ true → (InString ≡ inside_after Outside b) × (n ≡ count_after Outside n b)
quotes b n e = at_byte (λ x. (InString ≡ inside_after Outside x) × (n ≡ count_after Outside n x)) 34 b e (refl, refl)

letter : (b x : ℕ) → (b == x) ≡ true → (x == 34) ≡ false → ((x == 91) || (x == 123)) ≡ false → ((x == 93) || (x == 125)) ≡ false → IsPlain b
letter b x e h k l = eq_plain x b e (plain_of x h k l)

-- what has to hold of each place to which a byte leads that begins a value
pub record Beginnings (P : Option State → Type 0) (st : List Frame) (b : ℕ) : Type 0 where
  pub text : (b == 34) ≡ true → P (state (InText place.Plain []) st)
  pub minus : (b == 45) ≡ true → P (state (InNumber number.Minus (b ∷ [])) st)
  pub zero : (b == 48) ≡ true → P (state (InNumber number.Zero (b ∷ [])) st)
  pub digit : is_digit b ≡ true → P (state (InNumber number.Whole (b ∷ [])) st)
  pub array : (b == 91) ≡ true → P (state AtFirstItem st)
  pub object : (b == 123) ≡ true → P (state AtFirstName st)
  pub null : (b == 110) ≡ true → P (state (InWord (codes "ull") Null) st)
  pub truth : (b == 116) ≡ true → P (state (InWord (codes "rue") (Truth true)) st)
  pub falsehood : (b == 102) ≡ true → P (state (InWord (codes "alse") (Truth false)) st)
  pub wrong : P None

-- holds of where the byte leads
pub begins : (P : Option State → Type 0) (st : List Frame) (b : ℕ) → Beginnings P st b → P (begin_move st b)
begins P st b h =
    choose P _ _ _ h.text (λ _. choose P _ _ _ h.minus (λ _. choose P _ _ _ h.zero (λ _. choose P _ _ _ h.digit (λ _. choose P _ _ _ h.array (λ _.
    choose P _ _ _ h.object (λ _. choose P _ _ _ h.null (λ _. choose P _ _ _ h.truth (λ _. choose P _ _ _ h.falsehood (λ _. h.wrong)))))))))

begin-facts : (st : List Frame) (b : ℕ) → StepFacts Outside (length st) b (begin_move st b)
begin-facts st b =
    let n = length st in
    begins (StepFacts Outside n b) st b (record {
      text = λ k. let q = quotes b n k in (tt, q.0, q.1);
      minus = λ k. stays (InNumber number.Minus (b ∷ [])) st b tt refl (letter b 45 k refl refl refl);
      zero = λ k. stays (InNumber number.Zero (b ∷ [])) st b tt refl (letter b 48 k refl refl refl);
      digit = λ k. stays (InNumber number.Whole (b ∷ [])) st b tt refl (digit_plain b k);
      array = λ k. let o = opens b 91 n k refl refl in (tt, o.0, o.1);
      object = λ k. let o = opens b 123 n k refl refl in (tt, o.0, o.1);
      null = λ k. stays (InWord (codes "ull") Null) st b (refl, refl) refl (letter b 110 k refl refl refl);
      truth = λ k. stays (InWord (codes "rue") (Truth true)) st b (refl, refl) refl (letter b 116 k refl refl refl);
      falsehood = λ k. stays (InWord (codes "alse") (Truth false)) st b (refl, refl) refl (letter b 102 k refl refl refl);
      wrong = tt;
    })

-- ---- behind a value
less_one : (n : ℕ) → n ≡ suc n - 1
less_one n = omega arith

end-facts : (v : Datum) (st : List Frame) (b : ℕ) → StepFacts Outside (length st) b (end_move v st b)
end-facts v [] b = tt
end-facts v (InItems ds ∷ st) b =
    let n = suc (length st) in
    choose (StepFacts Outside n b) (b == 44) (state AtValue (InItems (ds ++ v ∷ []) ∷ st)) (cond (b == 93) (state (AtEnd (Items (data_of (ds ++ v ∷ [])))) st) None) (λ k. stays AtValue (InItems (ds ++ v ∷ []) ∷ st) b tt refl (letter b 44 k refl refl refl)) (λ _.
    choose (StepFacts Outside n b) (b == 93) (state (AtEnd (Items (data_of (ds ++ v ∷ [])))) st) None (λ k. let c = closes b 93 n k refl refl refl in (tt, c.0, less_one (length st) ∙ c.1)) (λ _. tt))
end-facts v (InFields fs name ∷ st) b =
    let n = suc (length st) in
    choose (StepFacts Outside n b) (b == 44) (state (AtName (with_field fs name v)) st) (cond (b == 125) (state (AtEnd (Fields (named_of (with_field fs name v)))) st) None) (λ k. let p = letter b 44 k refl refl refl in (tt, p.outside, one_more (length st) ∙ p.count n)) (λ _.
    choose (StepFacts Outside n b) (b == 125) (state (AtEnd (Fields (named_of (with_field fs name v)))) st) None (λ k. let c = closes b 125 n k refl refl refl in (tt, c.0, less_one (length st) ∙ c.1)) (λ _. tt))
  where
    one_more : (n : ℕ) → n + 1 ≡ suc n
    one_more n = omega arith

after-facts : (v : Datum) (st : List Frame) (b : ℕ) → StepFacts Outside (length st) b (after_move v st b)
after-facts v st b = choose (StepFacts Outside (length st) b) (is_blank b) (state (AtEnd v) st) (end_move v st b) (λ k. stays (AtEnd v) st b tt refl (blank_plain b k)) (λ _. end-facts v st b)

-- ---- inside numbers
abbrev NumberFacts : ℕ → Option NumberPlace → Type 0
NumberFacts b None = Unit {0}
NumberFacts b (Some q) = IsPlain b

after-whole-facts : (b : ℕ) → NumberFacts b (after_whole b)
after-whole-facts b =
    choose (NumberFacts b) (b == 46) (Some number.Point) (cond (is_mark b) (Some number.Mark) None) (λ k. letter b 46 k refl refl refl) (λ _.
    choose (NumberFacts b) (is_mark b) (Some number.Mark) None (mark_plain b) (λ _. tt))

digit-to-facts : (b : ℕ) (q : NumberPlace) (o : Option NumberPlace) → NumberFacts b o → NumberFacts b (cond (is_digit b) (Some q) o)
digit-to-facts b q o h = choose (NumberFacts b) (is_digit b) (Some q) o (digit_plain b) (λ _. h)

number-facts : (p : NumberPlace) (b : ℕ) → NumberFacts b (number_move p b)
number-facts number.Minus b = choose (NumberFacts b) (b == 48) (Some number.Zero) (cond (is_digit b) (Some number.Whole) None) (λ k. letter b 48 k refl refl refl) (λ _. digit-to-facts b number.Whole None tt)
number-facts number.Zero b = after-whole-facts b
number-facts number.Whole b = digit-to-facts b number.Whole (after_whole b) (after-whole-facts b)
number-facts number.Point b = digit-to-facts b number.Fraction None tt
number-facts number.Fraction b = digit-to-facts b number.Fraction (cond (is_mark b) (Some number.Mark) None) (choose (NumberFacts b) (is_mark b) (Some number.Mark) None (mark_plain b) (λ _. tt))
number-facts number.Mark b = choose (NumberFacts b) ((b == 43) || (b == 45)) (Some number.Sign) (cond (is_digit b) (Some number.Exponent) None) (sign_plain b) (λ _. digit-to-facts b number.Exponent None tt)
number-facts number.Sign b = digit-to-facts b number.Exponent None tt
number-facts number.Exponent b = digit-to-facts b number.Exponent None tt

digits-facts : (o : Option NumberPlace) (p : NumberPlace) (w : ByteString) (st : List Frame) (b : ℕ) → NumberFacts b o → StepFacts Outside (length st) b (digits_move o p w st b)
digits-facts (Some q) p w st b h = stays (InNumber q (w ++ b ∷ [])) st b tt refl h
digits-facts None p w st b h = choose (StepFacts Outside (length st) b) (may_end p) (after_move (number_datum (utf8_lossy w)) st b) None (λ _. after-facts (number_datum (utf8_lossy w)) st b) (λ _. tt)

-- ---- inside words
letter_plain : (b : ℕ) → nat_le 97 b && nat_le b 122 ≡ true → IsPlain b
letter_plain b h = plain_of b (grind (arith, nat_tests)) (grind (arith, nat_tests)) (grind (arith, nat_tests))

word-facts : (rest : ByteString) (d : Datum) (st : List Frame) (b : ℕ) → IsLive (InWord rest d) → StepFacts Outside (length st) b (word_move rest d st b)
word-facts [] d st b l = tt
word-facts (a ∷ []) d st b l =
    choose (StepFacts Outside (length st) b) (a == b) (state (AtEnd d) st) None (λ k. let k' = both_true (nat_le 97 a && nat_le a 122) true l.1 in stays (AtEnd d) st b tt refl (subst IsPlain (eq_of a b k) (letter_plain a k'.0))) (λ _. tt)
word-facts (a ∷ c ∷ rest) d st b l =
    choose (StepFacts Outside (length st) b) (a == b) (state (InWord (c ∷ rest) d) st) None
    (λ k. let k' = both_true (nat_le 97 a && nat_le a 122) (are_letters (c ∷ rest)) l.1 in stays (InWord (c ∷ rest) d) st b (refl, k'.1) refl (subst IsPlain (eq_of a b k) (letter_plain a k'.0))) (λ _. tt)

-- ---- inside texts and names
count_in_text : (p : TextPlace) (n b : ℕ) → n ≡ count_after (inside_place p) n b
count_in_text place.Escaped n b = refl
count_in_text (place.Letter h) n b = refl
count_in_text p n b = refl

words-facts : (p : TextPlace) (m : TextMove) (w : ByteString) (st : List Frame) (b : ℕ) → MoveFacts (inside_place p) b m → StepFacts (inside_place p) (length st) b (words_move m w st)
words-facts p (Goes q bytes) w st b h = (h.0, h.1, count_in_text p (length st) b)
words-facts p Ends w st b h = (tt, h, count_in_text p (length st) b)
words-facts p Wrong w st b h = tt

name-facts : (p : TextPlace) (m : TextMove) (fs : List NamedDatum) (w : ByteString) (st : List Frame) (b : ℕ) → MoveFacts (inside_place p) b m → StepFacts (inside_place p) (length st + 1) b (name_move m fs w st)
name-facts p (Goes q bytes) fs w st b h = (h.0, h.1, count_in_text p (length st + 1) b)
name-facts p Ends fs w st b h = (tt, h, count_in_text p (length st + 1) b)
name-facts p Wrong fs w st b h = tt

-- ---- each byte
name-opens : (fs : List NamedDatum) (st : List Frame) (b : ℕ) → StepFacts Outside (length st + 1) b (cond (b == 34) (state (InName fs place.Plain []) st) None)
name-opens fs st b = choose (StepFacts Outside (length st + 1) b) (b == 34) (state (InName fs place.Plain []) st) None (λ k. let q = quotes b (length st + 1) k in (tt, q.0, q.1)) (λ _. tt)

minus_one : (n : ℕ) → n ≡ n + 1 - 1
minus_one n = omega arith

first-item-facts : (st : List Frame) (b : ℕ) → StepFacts Outside (length st + 1) b (step AtFirstItem st b)
first-item-facts st b =
    let n = length st + 1 in
    choose (StepFacts Outside n b) (is_blank b) (state AtFirstItem st) (cond (b == 93) (state (AtEnd (Items (data_of []))) st) (begin_move (InItems [] ∷ st) b)) (λ k. stays AtFirstItem st b tt refl (blank_plain b k)) (λ _.
    choose (StepFacts Outside n b) (b == 93) (state (AtEnd (Items (data_of []))) st) (begin_move (InItems [] ∷ st) b) (λ k. let c = closes b 93 n k refl refl refl in (tt, c.0, minus_one (length st) ∙ c.1)) (λ _.
    subst (λ k. StepFacts Outside k b (begin_move (InItems [] ∷ st) b)) (one_more (length st)) (begin-facts (InItems [] ∷ st) b)))
  where
    one_more : (n : ℕ) → suc n ≡ n + 1
    one_more n = omega arith

first-name-facts : (st : List Frame) (b : ℕ) → StepFacts Outside (length st + 1) b (step AtFirstName st b)
first-name-facts st b =
    let n = length st + 1 in
    choose (StepFacts Outside n b) (is_blank b) (state AtFirstName st) (cond (b == 125) (state (AtEnd (Fields (named_of []))) st) (cond (b == 34) (state (InName [] place.Plain []) st) None)) (λ k. stays AtFirstName st b tt refl (blank_plain b k)) (λ _.
    choose (StepFacts Outside n b) (b == 125) (state (AtEnd (Fields (named_of []))) st) (cond (b == 34) (state (InName [] place.Plain []) st) None) (λ k. let c = closes b 125 n k refl refl refl in (tt, c.0, minus_one (length st) ∙ c.1)) (λ _. name-opens [] st b))

pub step-facts : (m : Mode) (st : List Frame) (b : ℕ) → IsLive m → StepFacts (inside_of m) (height m st) b (step m st b)
step-facts AtValue st b l = choose (StepFacts Outside (length st) b) (is_blank b) (state AtValue st) (begin_move st b) (λ k. stays AtValue st b tt refl (blank_plain b k)) (λ _. begin-facts st b)
step-facts AtFirstItem st b l = first-item-facts st b
step-facts AtFirstName st b l = first-name-facts st b
step-facts (AtName fs) st b l =
    choose (StepFacts Outside (length st + 1) b) (is_blank b) (state (AtName fs) st) (cond (b == 34) (state (InName fs place.Plain []) st) None) (λ k. stays (AtName fs) st b tt refl (blank_plain b k)) (λ _. name-opens fs st b)
step-facts (InName fs p w) st b l = name-facts p (text_move p b) fs w st b (text-facts p b l)
step-facts (AtColon fs name) st b l =
    choose (StepFacts Outside (length st + 1) b) (is_blank b) (state (AtColon fs name) st) (cond (b == 58) (state AtValue (InFields fs name ∷ st)) None) (λ k. stays (AtColon fs name) st b tt refl (blank_plain b k)) (λ _.
    choose (StepFacts Outside (length st + 1) b) (b == 58) (state AtValue (InFields fs name ∷ st)) None (λ k. let p = letter b 58 k refl refl refl in (tt, p.outside, one_more (length st) ∙ p.count (length st + 1))) (λ _. tt))
  where
    one_more : (n : ℕ) → suc n ≡ n + 1
    one_more n = omega arith
step-facts (AtEnd v) st b l = after-facts v st b
step-facts (InWord rest d) st b l = word-facts rest d st b l
step-facts (InNumber p w) st b l = digits-facts (number_move p b) p w st b (number-facts p b)
step-facts (InText p w) st b l = words-facts p (text_move p b) w st b (text-facts p b l)

-- ---- what bytes lead to
pub record Stands (inside : Inside) (n : ℕ) (p : ByteString) (s : State) : Type 0 where
  pub live : IsLive s.mode
  pub count : height s.mode s.stack ≡ open_behind inside n p

stands-at : (p : ByteString) (m : Mode) (st : List Frame) (s : State) → IsLive m → reached m st p ≡ Some s → Stands (inside_of m) (height m st) p s
stands-at [] m st s l e =
    let same : record { mode = m; stack = st } ≡ s = cc e in subst (λ (t : State). Stands (inside_of m) (height m st) [] t) same (record { live = l; count = refl })
stands-at (b ∷ p) m st s l e = onward (step m st b) (step-facts m st b l) (λ n su k h. stands-at p n su s k h) e
  where
    onward : (o : Option State) → StepFacts (inside_of m) (height m st) b o → ((n : Mode) (su : List Frame) → IsLive n → reached n su p ≡ Some s → Stands (inside_of n) (height n su) p s) → carry o (λ n su. reached n su p) ≡ Some s → Stands (inside_of m) (height m st) (b ∷ p) s
    onward None f ih h = cc
    onward (Some t) f ih h = let later = ih t.mode t.stack f.0 h in record { live = later.live; count = later.count ∙ (λ k. open_behind (f.1 k) (f.2 k) p) }

pub stands : (p : ByteString) (s : State) → reached AtValue [] p ≡ Some s → Stands Outside 0 p s
stands p s e = stands-at p AtValue [] s tt e

-- a byte opens one level at most
pub count-bound : (inside : Inside) (n b : ℕ) → count_after inside n b ≤ n + 1
count-bound Outside n b =
    choose (λ k. k ≤ n + 1) ((b == 91) || (b == 123)) (n + 1) (cond ((b == 93) || (b == 125)) (n - 1) n) (λ _. omega arith) (λ _.
    choose (λ k. k ≤ n + 1) ((b == 93) || (b == 125)) (n - 1) n (λ _. omega arith) (λ _. omega arith))
count-bound InString n b = omega arith
count-bound Escaped n b = omega arith
