-- The digits of a number, byte by byte.
use Rattle.std.proofs.Common.{◌≡◌, ℕ, ◌<◌, Bool, true, false, cond, ◌&&◌, ◌||◌, ◌==◌, Option, Some, None, List, [], ◌∷◌, ◌++◌, refl, sym, ◌∙◌, ap, arith, append_assoc}
use Rattle.std.proofs.lemmas.List.{append-nil}
use Rattle.std.proofs.lemmas.Bool.Decides.{nat_tests}
use Rattle.std.specs.Str.Lossy.{utf8_lossy}
use Rattle.vx_value.specs.Texts.{ByteString, is_empty}
use Rattle.vx_json.specs.Numbers.{is_digit, are_digits, some_digits, is_minus, is_whole_part, is_fraction, are_signed_digits, is_exponent, NumberParts}
use Rattle.vx_json.specs.Grammar.{is_blank}
use Rattle.vx_json.specs.Machine.{is_mark, after_whole, number_move, may_end, number_datum, Frame, InNumber, AtValue, AtEnd, state, carry, outcome, digits_move, after_move, begin_move}
use Rattle.vx_json.specs.declared.number_place.NumberPlace.{NumberPlace}
use Rattle.vx_json.specs.declared.number_place.NumberPlace.TheVariants as number
use Rattle.vx_json.proofs.Choices.{both_true, eq_of}

-- whether bytes may follow a value: there are none, or the first is a blank, a comma, or a closing bracket or brace
abbrev pub follows : ByteString → Bool
follows [] = true
follows (b ∷ w) = is_blank b || ((b == 44) || ((b == 93) || (b == 125)))

-- one byte
go : (st : List Frame) (p : NumberPlace) (w : ByteString) (b : ℕ) (q : NumberPlace) (rest : ByteString) → number_move p b ≡ Some q → outcome (InNumber p w) st (b ∷ rest) ≡ outcome (InNumber q (w ++ b ∷ [])) st rest
go st p w b q rest e = ap (λ o. carry (digits_move o p w st b) (λ n su. outcome n su rest)) e

-- a number from a place on ends at a place where it may
pub record Runs (st : List Frame) (p : NumberPlace) (w t rest : ByteString) : Type 0 where
  pub ending : NumberPlace
  pub may : may_end ending ≡ true
  pub same : outcome (InNumber p w) st (t ++ rest) ≡ outcome (InNumber ending (w ++ t)) st rest

-- nothing more
stay : (st : List Frame) (p : NumberPlace) (w rest : ByteString) → may_end p ≡ true → Runs st p w [] rest
stay st p w rest h = record { ending = p; may = h; same = ap (λ x. outcome (InNumber p x) st rest) (sym (append-nil w)) }

-- a byte, and what comes behind it
more : (st : List Frame) (p : NumberPlace) (w : ByteString) (b : ℕ) (q : NumberPlace) (t rest : ByteString) → number_move p b ≡ Some q → Runs st q (w ++ b ∷ []) t rest → Runs st p w (b ∷ t) rest
more st p w b q t rest e r = record {
  ending = r.ending;
  may = r.may;
  same = go st p w b q (t ++ rest) e ∙ r.same ∙ ap (λ x. outcome (InNumber r.ending x) st rest) (append_assoc w (b ∷ []) t);
}

-- ---- what bytes do
digit_goes : (t : Bool) (q : NumberPlace) (o : Option NumberPlace) → t ≡ true → cond t (Some q) o ≡ Some q
digit_goes true q o h = refl
digit_goes false q o h = cc

minus_digit : (b : ℕ) → (b == 48) ≡ false → is_digit b ≡ true → number_move number.Minus b ≡ Some number.Whole
minus_digit b h k = rw (h, k) refl

minus_zero : (b : ℕ) → (b == 48) ≡ true → number_move number.Minus b ≡ Some number.Zero
minus_zero b h = rw h refl

zero_point : (b : ℕ) → (b == 46) ≡ true → after_whole b ≡ Some number.Point
zero_point b h = rw h refl

zero_mark : (b : ℕ) → is_mark b ≡ true → after_whole b ≡ Some number.Mark
zero_mark b h = grind (arith, nat_tests)

whole_point : (b : ℕ) → (b == 46) ≡ true → number_move number.Whole b ≡ Some number.Point
whole_point b h = grind (arith, nat_tests)

whole_mark : (b : ℕ) → is_mark b ≡ true → number_move number.Whole b ≡ Some number.Mark
whole_mark b h = grind (arith, nat_tests)

fraction_mark : (b : ℕ) → is_mark b ≡ true → number_move number.Fraction b ≡ Some number.Mark
fraction_mark b h = grind (arith, nat_tests)

mark_sign : (b : ℕ) → ((b == 43) || (b == 45)) ≡ true → number_move number.Mark b ≡ Some number.Sign
mark_sign b h = rw h refl

mark_digit : (b : ℕ) → ((b == 43) || (b == 45)) ≡ false → is_digit b ≡ true → number_move number.Mark b ≡ Some number.Exponent
mark_digit b h k = rw (h, k) refl

-- ---- the parts
run-exponent-digits : (st : List Frame) (w t rest : ByteString) → are_digits t ≡ true → Runs st number.Exponent w t rest
run-exponent-digits st w [] rest h = stay st number.Exponent w rest refl
run-exponent-digits st w (b ∷ t) rest h =
    let k = both_true _ _ h in more st number.Exponent w b number.Exponent t rest (digit_goes (is_digit b) number.Exponent None k.0) (run-exponent-digits st (w ++ b ∷ []) t rest k.1)

run-sign : (st : List Frame) (w t rest : ByteString) → some_digits t ≡ true → Runs st number.Sign w t rest
run-sign st w [] rest h = cc
run-sign st w (b ∷ t) rest h =
    let k = both_true _ _ h in more st number.Sign w b number.Exponent t rest (digit_goes (is_digit b) number.Exponent None k.0) (run-exponent-digits st (w ++ b ∷ []) t rest k.1)

mark-case : (st : List Frame) (w : ByteString) (b : ℕ) (t rest : ByteString) (s : Bool) → ((b == 43) || (b == 45)) ≡ s → cond s (some_digits t) (is_digit b && are_digits t) ≡ true → Runs st number.Mark w (b ∷ t) rest
mark-case st w b t rest true e h = more st number.Mark w b number.Sign t rest (mark_sign b e) (run-sign st (w ++ b ∷ []) t rest h)
mark-case st w b t rest false e h =
    let k = both_true _ _ h in more st number.Mark w b number.Exponent t rest (mark_digit b e k.0) (run-exponent-digits st (w ++ b ∷ []) t rest k.1)

run-mark : (st : List Frame) (w t rest : ByteString) → are_signed_digits t ≡ true → Runs st number.Mark w t rest
run-mark st w [] rest h = cc
run-mark st w (b ∷ t) rest h = mark-case st w b t rest ((b == 43) || (b == 45)) refl h

-- an exponent, or none, from a place at which a number may end
run-exponent : (st : List Frame) (p : NumberPlace) → may_end p ≡ true → ((b : ℕ) → is_mark b ≡ true → number_move p b ≡ Some number.Mark) → (w e rest : ByteString) → is_exponent e ≡ true → Runs st p w e rest
run-exponent st p m f w [] rest h = stay st p w rest m
run-exponent st p m f w (b ∷ e) rest h = let k = both_true _ _ h in more st p w b number.Mark e rest (f b k.0) (run-mark st (w ++ b ∷ []) e rest k.1)

run-fraction-digits : (st : List Frame) (w ds e rest : ByteString) → are_digits ds ≡ true → is_exponent e ≡ true → Runs st number.Fraction w (ds ++ e) rest
run-fraction-digits st w [] e rest h k = run-exponent st number.Fraction refl fraction_mark w e rest k
run-fraction-digits st w (b ∷ ds) e rest h k =
    let l = both_true _ _ h in more st number.Fraction w b number.Fraction (ds ++ e) rest (digit_goes (is_digit b) number.Fraction (cond (is_mark b) (Some number.Mark) None) l.0) (run-fraction-digits st (w ++ b ∷ []) ds e rest l.1 k)

run-point : (st : List Frame) (w ds e rest : ByteString) → some_digits ds ≡ true → is_exponent e ≡ true → Runs st number.Point w (ds ++ e) rest
run-point st w [] e rest h k = cc
run-point st w (b ∷ ds) e rest h k =
    let l = both_true _ _ h in more st number.Point w b number.Fraction (ds ++ e) rest (digit_goes (is_digit b) number.Fraction None l.0) (run-fraction-digits st (w ++ b ∷ []) ds e rest l.1 k)

-- a fraction and an exponent, or none of them, behind a whole part
run-parts : (st : List Frame) (p : NumberPlace) → may_end p ≡ true → ((b : ℕ) → (b == 46) ≡ true → number_move p b ≡ Some number.Point) → ((b : ℕ) → is_mark b ≡ true → number_move p b ≡ Some number.Mark) → (w f e rest : ByteString) → is_fraction f ≡ true → is_exponent e ≡ true → Runs st p w (f ++ e) rest
run-parts st p m g h w [] e rest i k = run-exponent st p m h w e rest k
run-parts st p m g h w (b ∷ f) e rest i k = let l = both_true _ _ i in more st p w b number.Point (f ++ e) rest (g b l.0) (run-point st (w ++ b ∷ []) f e rest l.1 k)

run-whole-digits : (st : List Frame) (w ds f e rest : ByteString) → are_digits ds ≡ true → is_fraction f ≡ true → is_exponent e ≡ true → Runs st number.Whole w (ds ++ (f ++ e)) rest
run-whole-digits st w [] f e rest h i k = run-parts st number.Whole refl whole_point whole_mark w f e rest i k
run-whole-digits st w (b ∷ ds) f e rest h i k =
    let l = both_true _ _ h in more st number.Whole w b number.Whole (ds ++ (f ++ e)) rest (digit_goes (is_digit b) number.Whole (after_whole b) l.0) (run-whole-digits st (w ++ b ∷ []) ds f e rest l.1 i k)

run-empty : (st : List Frame) (w z f e rest : ByteString) → is_empty z ≡ true → is_fraction f ≡ true → is_exponent e ≡ true → Runs st number.Zero w (z ++ (f ++ e)) rest
run-empty st w [] f e rest h i k = run-parts st number.Zero refl zero_point zero_mark w f e rest i k
run-empty st w (b ∷ z) f e rest h i k = cc

minus-case : (st : List Frame) (w : ByteString) (b : ℕ) (ds f e rest : ByteString) (z : Bool) → (b == 48) ≡ z → cond z (is_empty ds) (is_digit b && are_digits ds) ≡ true → is_fraction f ≡ true → is_exponent e ≡ true → Runs st number.Minus w (b ∷ ds ++ (f ++ e)) rest
minus-case st w b ds f e rest true q h i k = more st number.Minus w b number.Zero (ds ++ (f ++ e)) rest (minus_zero b q) (run-empty st (w ++ b ∷ []) ds f e rest h i k)
minus-case st w b ds f e rest false q h i k =
    let l = both_true _ _ h in more st number.Minus w b number.Whole (ds ++ (f ++ e)) rest (minus_digit b q l.0) (run-whole-digits st (w ++ b ∷ []) ds f e rest l.1 i k)

run-minus : (st : List Frame) (w n f e rest : ByteString) → is_whole_part n ≡ true → is_fraction f ≡ true → is_exponent e ≡ true → Runs st number.Minus w (n ++ (f ++ e)) rest
run-minus st w [] f e rest h i k = cc
run-minus st w (b ∷ ds) f e rest h i k = minus-case st w b ds f e rest (b == 48) refl h i k

-- ---- what comes behind a number
no_digit : (b : ℕ) (w : ByteString) → follows (b ∷ w) ≡ true → is_digit b ≡ false
no_digit b w h = grind (arith, nat_tests)

no_point : (b : ℕ) (w : ByteString) → follows (b ∷ w) ≡ true → (b == 46) ≡ false
no_point b w h = grind (arith, nat_tests)

no_mark : (b : ℕ) (w : ByteString) → follows (b ∷ w) ≡ true → is_mark b ≡ false
no_mark b w h = grind (arith, nat_tests)

no_move : (p : NumberPlace) (b : ℕ) (w : ByteString) → may_end p ≡ true → follows (b ∷ w) ≡ true → number_move p b ≡ None
no_move number.Minus b w m h = cc
no_move number.Zero b w m h = rw (no_point b w h, no_mark b w h) refl
no_move number.Whole b w m h = rw (no_digit b w h, no_point b w h, no_mark b w h) refl
no_move number.Point b w m h = cc
no_move number.Fraction b w m h = rw (no_digit b w h, no_mark b w h) refl
no_move number.Mark b w m h = cc
no_move number.Sign b w m h = cc
no_move number.Exponent b w m h = rw (no_digit b w h) refl

ended : (p : NumberPlace) (w : ByteString) (st : List Frame) (b : ℕ) → may_end p ≡ true → digits_move None p w st b ≡ after_move (number_datum (utf8_lossy w)) st b
ended p w st b m = rw m refl

pub run-end : (p : NumberPlace) (w : ByteString) (st : List Frame) (rest : ByteString) → may_end p ≡ true → follows rest ≡ true → outcome (InNumber p w) st rest ≡ outcome (AtEnd (number_datum (utf8_lossy w))) st rest
run-end p w [] [] m h = rw m refl
run-end p w (f ∷ st) [] m h = refl
run-end p w st (b ∷ rest) m h =
    ap (λ o. carry o (λ n su. outcome n su rest)) (ap (λ o. digits_move o p w st b) (no_move p b rest m h) ∙ ended p w st b m)

ran : (st : List Frame) (p : NumberPlace) (w t rest : ByteString) → follows rest ≡ true → Runs st p w t rest → outcome (InNumber p w) st (t ++ rest) ≡ outcome (AtEnd (number_datum (utf8_lossy (w ++ t)))) st rest
ran st p w t rest h r = r.same ∙ run-end r.ending (w ++ t) st rest r.may h

-- ---- where a number begins
pub record Begins (w : ByteString) : Type 0 where
  pub first : ℕ
  pub behind : ByteString
  pub spelled : w ≡ first ∷ behind
  pub no_blank : is_blank first ≡ false
  pub no_bracket : (first == 93) ≡ false

begin : (st : List Frame) (b : ℕ) (p : NumberPlace) (t rest : ByteString) → is_blank b ≡ false → begin_move st b ≡ state (InNumber p (b ∷ [])) st → outcome AtValue st (b ∷ t ++ rest) ≡ outcome (InNumber p (b ∷ [])) st (t ++ rest)
begin st b p t rest n e =
    ap (λ o. carry (cond o (state AtValue st) (begin_move st b)) (λ m su. outcome m su (t ++ rest))) n
    ∙ ap (λ o. carry o (λ m su. outcome m su (t ++ rest))) e

digit_not : (b c : ℕ) → c < 48 → is_digit b ≡ true → (b == c) ≡ false
digit_not b c l h = grind (arith, nat_tests)

digit_begins : (st : List Frame) (b : ℕ) → is_digit b ≡ true → (b == 48) ≡ false → begin_move st b ≡ state (InNumber number.Whole (b ∷ [])) st
digit_begins st b h k = rw (not_quote b h, not_minus b h, k, h) refl
  where
    not_quote : (b : ℕ) → is_digit b ≡ true → (b == 34) ≡ false
    not_quote b h = digit_not b 34 (omega arith) h

    not_minus : (b : ℕ) → is_digit b ≡ true → (b == 45) ≡ false
    not_minus b h = digit_not b 45 (omega arith) h

digit_no_blank : (b : ℕ) → is_digit b ≡ true → is_blank b ≡ false
digit_no_blank b h = grind (arith, nat_tests)

digit_no_bracket : (b : ℕ) → is_digit b ≡ true → (b == 93) ≡ false
digit_no_bracket b h = grind (arith, nat_tests)

-- what a number's text leads to, with a minus or without
whole-first : (st : List Frame) (b : ℕ) (ds f e rest : ByteString) (z : Bool) → (b == 48) ≡ z → cond z (is_empty ds) (is_digit b && are_digits ds) ≡ true → is_fraction f ≡ true → is_exponent e ≡ true → follows rest ≡ true → outcome AtValue st (b ∷ (ds ++ (f ++ e)) ++ rest) ≡ outcome (AtEnd (number_datum (utf8_lossy (b ∷ ds ++ (f ++ e))))) st rest
whole-first st b ds f e rest true q h i k l =
    let same : b ≡ 48 = eq_of b 48 q in
    ap (λ x. outcome AtValue st (x ∷ (ds ++ (f ++ e)) ++ rest)) same
    ∙ ran st number.Zero (48 ∷ []) (ds ++ (f ++ e)) rest l (run-empty st (48 ∷ []) ds f e rest h i k)
    ∙ ap (λ x. outcome (AtEnd (number_datum (utf8_lossy (x ∷ ds ++ (f ++ e))))) st rest) (sym same)
whole-first st b ds f e rest false q h i k l =
    let d = both_true _ _ h in
    begin st b number.Whole (ds ++ (f ++ e)) rest (digit_no_blank b d.0) (digit_begins st b d.0 q)
    ∙ ran st number.Whole (b ∷ []) (ds ++ (f ++ e)) rest l (run-whole-digits st (b ∷ []) ds f e rest d.1 i k)

whole-part : (st : List Frame) (n f e rest : ByteString) → is_whole_part n ≡ true → is_fraction f ≡ true → is_exponent e ≡ true → follows rest ≡ true → outcome AtValue st ((n ++ (f ++ e)) ++ rest) ≡ outcome (AtEnd (number_datum (utf8_lossy (n ++ (f ++ e))))) st rest
whole-part st [] f e rest h i k l = cc
whole-part st (b ∷ ds) f e rest h i k l = whole-first st b ds f e rest (b == 48) refl h i k l

minus-part : (st : List Frame) (m n f e rest : ByteString) → is_minus m ≡ true → is_whole_part n ≡ true → is_fraction f ≡ true → is_exponent e ≡ true → follows rest ≡ true → outcome AtValue st ((m ++ (n ++ (f ++ e))) ++ rest) ≡ outcome (AtEnd (number_datum (utf8_lossy (m ++ (n ++ (f ++ e)))))) st rest
minus-part st [] n f e rest s h i k l = whole-part st n f e rest h i k l
minus-part st (b ∷ []) n f e rest s h i k l =
    let same : b ≡ 45 = eq_of b 45 (both_true _ _ s).0 in
    ap (λ x. outcome AtValue st (x ∷ (n ++ (f ++ e)) ++ rest)) same
    ∙ ran st number.Minus (45 ∷ []) (n ++ (f ++ e)) rest l (run-minus st (45 ∷ []) n f e rest h i k)
    ∙ ap (λ x. outcome (AtEnd (number_datum (utf8_lossy (x ∷ n ++ (f ++ e))))) st rest) (sym same)
minus-part st (b ∷ c ∷ m) n f e rest s h i k l = absurd (second (both_true _ _ s).1)
  where
    second : false ≡ true → ⊥
    second q = cc

parts-joined : (m n f e : ByteString) → m ++ n ++ f ++ e ≡ m ++ (n ++ (f ++ e))
parts-joined m n f e = simp append_assoc

pub run-number : (st : List Frame) (w rest : ByteString) → NumberParts w → follows rest ≡ true → outcome AtValue st (w ++ rest) ≡ outcome (AtEnd (number_datum (utf8_lossy w))) st rest
run-number st w rest p l =
    let e = p.joined ∙ parts-joined p.minus p.whole p.fraction p.exponent in
    ap (λ x. outcome AtValue st (x ++ rest)) e
    ∙ minus-part st p.minus p.whole p.fraction p.exponent rest p.is_minus_part p.is_whole p.is_fraction_part p.is_exponent_part l
    ∙ ap (λ x. outcome (AtEnd (number_datum (utf8_lossy x))) st rest) (sym e)

-- ---- the first byte of a number
first-whole : (b : ℕ) (ds more : ByteString) (z : Bool) → (b == 48) ≡ z → cond z (is_empty ds) (is_digit b && are_digits ds) ≡ true → Begins (b ∷ ds ++ more)
first-whole b ds more true q h =
    let same : b ≡ 48 = eq_of b 48 q in record { first = b; behind = ds ++ more; spelled = refl; no_blank = ap is_blank same; no_bracket = ap (λ x. x == 93) same }
first-whole b ds more false q h =
    let d = both_true _ _ h in record { first = b; behind = ds ++ more; spelled = refl; no_blank = digit_no_blank b d.0; no_bracket = digit_no_bracket b d.0 }

first-part : (n more : ByteString) → is_whole_part n ≡ true → Begins (n ++ more)
first-part [] more h = cc
first-part (b ∷ ds) more h = first-whole b ds more (b == 48) refl h

first-minus : (m n more : ByteString) → is_minus m ≡ true → is_whole_part n ≡ true → Begins (m ++ (n ++ more))
first-minus [] n more s h = first-part n more h
first-minus (b ∷ m) n more s h =
    let same : b ≡ 45 = eq_of b 45 (both_true _ _ s).0 in record { first = b; behind = m ++ (n ++ more); spelled = refl; no_blank = ap is_blank same; no_bracket = ap (λ x. x == 93) same }

pub number-begins : (w : ByteString) → NumberParts w → Begins w
number-begins w p =
    let e = p.joined ∙ parts-joined p.minus p.whole p.fraction p.exponent in
    let b = first-minus p.minus p.whole (p.fraction ++ p.exponent) p.is_minus_part p.is_whole in
    record { first = b.first; behind = b.behind; spelled = e ∙ b.spelled; no_blank = b.no_blank; no_bracket = b.no_bracket }
