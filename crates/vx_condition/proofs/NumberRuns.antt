-- How a reader goes over a whole number.
use Rattle.std.proofs.Common.{◌≡◌, ℕ, suc, ◌+◌, ◌-◌, ◌*◌, ◌^◌, ◌<◌, ◌≤◌, Bool, true, false, cond, not, ◌==◌, ◌&&◌, ◌||◌, Option, Some, None, Result, Ok, Err, ℤ, pos, negsuc, List, [], ◌∷◌, ◌++◌, refl, sym, ◌∙◌, ap, arith, nat_le, lt-ltb, ltb-true, leb-true, le-leb, ne_eqb}
use Rattle.std.specs.List.{list_all}
use Rattle.std.proofs.lemmas.Bool.{and_parts, and_from, eqb-false}
use Rattle.vx_value.specs.Texts.{ByteString}
use Rattle.vx_condition.specs.Grammar.{is_blank, is_digit, begins_well, number_behind, IsNumber, IsWhole}
use Rattle.vx_condition.specs.Moves.{at, stated, with_number, signed, fits, begins_number, number_mode, literal_mode, word_mode, behind_operand, at_some}
use Rattle.vx_condition.specs.Runs.{go_on, run, out, settled}
use Rattle.vx_condition.specs.declared.operator.Operator.{Operator}
use Rattle.vx_condition.specs.declared.operator.Operator.TheVariants.{Is, Compared}
use Rattle.vx_condition.specs.declared.expected.Expected.TheVariants as wants
use Rattle.vx_condition.specs.declared.mode.Mode.{Mode}
use Rattle.vx_condition.specs.declared.mode.Mode.TheVariants as mode
use Rattle.vx_condition.specs.declared.reader.Reader.{Reader}
use Rattle.vx_condition.specs.declared.stop.Stop.{Stop}
use Rattle.vx_condition.specs.declared.stop.Stop.TheVariants as stop
use Rattle.vx_condition.proofs.Runs.{chosen, other}

pub grows : (n : ℕ) (digits : ByteString) → n ≤ number_behind n digits
grows n [] = omega arith
grows n (b ∷ digits) = omega (arith, grows (10 * n + (b - 48)) digits)

fits_less : (negative : Bool) (m n : ℕ) → m ≤ n → fits negative n ≡ true → fits negative m ≡ true
fits_less false m n le h = lt-ltb m (2 ^ 63) (omega (arith, ltb-true n (2 ^ 63) h))
fits_less true m n le h = le-leb m (2 ^ 63) (omega (arith, leb-true n (2 ^ 63) h))

not_zero : (n : ℕ) → 0 < n → not (n == 0) ≡ true
not_zero n h = ap not (ne_eqb n 0 (λ e. omega arith))

-- digits behind a size that isn't 0
over_digits : (most : ℕ) (r : Reader) (p : List ByteString) (o : Operator) (negative : Bool) (size : ℕ) (digits more : ByteString) → list_all is_digit digits ≡ true → 0 < size
    → fits negative (number_behind size digits) ≡ true
    → run most (at r (mode.Whole p o negative size)) (digits ++ more) ≡ run most (at r (mode.Whole p o negative (number_behind size digits))) more
over_digits most r p o negative size [] more h some fit = refl
over_digits most r p o negative size (b ∷ digits) more h some fit =
    let both = and_parts (is_digit b) (list_all is_digit digits) h in
    let next = 10 * size + (b - 48) in
    let here = at r (mode.Whole p o negative size) in
    let further = λ (n : Reader). run most n (digits ++ more) in
    let test : (not (size == 0) && fits negative (10 * size + (b - 48))) ≡ true = and_from (not (size == 0)) (fits negative (10 * size + (b - 48))) (not_zero size some) (fits_less negative (10 * size + (b - 48)) (number_behind (10 * size + (b - 48)) digits) (grows (10 * size + (b - 48)) digits) fit) in
    chosen (is_digit b) (cond (not (size == 0) && fits negative (10 * size + (b - 48))) (Ok (at r (mode.Whole p o negative (10 * size + (b - 48))))) (Err stop.Refused)) (behind_operand (stated here (with_number p o (signed negative size))) b) further both.0
    ∙ chosen (not (size == 0) && fits negative (10 * size + (b - 48))) (Ok (at r (mode.Whole p o negative (10 * size + (b - 48))))) (Err stop.Refused) further test
    ∙ over_digits most r p o negative (10 * size + (b - 48)) digits more both.1 (omega arith) fit

-- whether a text may follow a number
abbrev pub may_follow : ByteString → Bool
may_follow [] = true
may_follow (c ∷ more) = not (is_digit c)

not_so : (t : Bool) → not t ≡ true → t ≡ false
not_so true h = absurd (cc)
not_so false h = refl

-- behind its last digit
behind_digits : (most : ℕ) (r : Reader) (p : List ByteString) (o : Operator) (negative : Bool) (size : ℕ) (more : ByteString) → may_follow more ≡ true
    → out most (at r (mode.Whole p o negative size)) more ≡ out most (stated r (with_number p o (signed negative size))) more
behind_digits most r p o negative size [] h = refl
behind_digits most r p o negative size (c ∷ more) h =
    ap settled (other (is_digit c) (cond (not (size == 0) && fits negative (10 * size + (c - 48))) (Ok (at r (mode.Whole p o negative (10 * size + (c - 48))))) (Err stop.Refused))
    (behind_operand (stated (at r (mode.Whole p o negative size)) (with_number p o (signed negative size))) c) (λ n. run most n more) (not_so (is_digit c) h))

-- the first byte of a number
or_right : (x y : Bool) → y ≡ true → (x || y) ≡ true
or_right true y h = refl
or_right false y h = h

or_left : (x y : Bool) → x ≡ true → (x || y) ≡ true
or_left true y h = refl
or_left false y h = absurd (cc)

some_mode : (r : Reader) (t : Bool) (m : Mode) (o : Option Mode) (f : Reader → Result Reader Stop) → t ≡ true → go_on (at_some r (cond t (Some m) o)) f ≡ f (at r m)
some_mode r true m o f h = refl
some_mode r false m o f h = absurd (cc)

begun_so : (most : ℕ) (r : Reader) (p : List ByteString) (o : Operator) (b : ℕ) (f : Reader → Result Reader Stop) → begins_number b ≡ true
    → go_on (at_some r (literal_mode p o b)) f ≡ f (at r (number_mode p o b))
begun_so most r p (Is e) b f h = some_mode r (begins_number b) (number_mode p (Is e) b) (word_mode p e b) f h
begun_so most r p (Compared c) b f h = some_mode r (begins_number b) (number_mode p (Compared c) b) None f h

high_byte : (b : ℕ) → 40 ≤ b → is_blank b ≡ false
high_byte b h = all_false (b == 9) (b == 10) (b == 13) (b == 32) (ne_eqb b 9 (λ e. omega arith)) (ne_eqb b 10 (λ e. omega arith)) (ne_eqb b 13 (λ e. omega arith)) (ne_eqb b 32 (λ e. omega arith))
  where
    all_false : (w x y z : Bool) → w ≡ false → x ≡ false → y ≡ false → z ≡ false → (w || x || y || z) ≡ false
    all_false true x y z a b c d = absurd (cc)
    all_false false true y z a b c d = absurd (cc)
    all_false false false true z a b c d = absurd (cc)
    all_false false false false z a b c d = d

first_byte : (most : ℕ) (r : Reader) (p : List ByteString) (o : Operator) (b : ℕ) (more : ByteString) → begins_number b ≡ true → 40 ≤ b
    → run most (at r (mode.Expects (wants.Literal p o))) (b ∷ more) ≡ run most (at r (number_mode p o b)) more
first_byte most r p o b more h high =
    other (is_blank b) (Ok (at r (mode.Expects (wants.Literal p o)))) (at_some (at r (mode.Expects (wants.Literal p o))) (literal_mode p o b)) (λ n. run most n more) (high_byte b high)
    ∙ begun_so most (at r (mode.Expects (wants.Literal p o))) p o b (λ n. run most n more) h

digit_bounds : (b : ℕ) → is_digit b ≡ true → (48 ≤ b) × (b ≤ 57)
digit_bounds b h = let both = and_parts (nat_le 48 b) (nat_le b 57) h in (leb-true 48 b both.0, leb-true b 57 both.1)

plain_number : (p : List ByteString) (o : Operator) (b : ℕ) → is_digit b ≡ true → number_mode p o b ≡ mode.Whole p o false (b - 48)
plain_number p o b h = let low = digit_bounds b h in choose (b == 45) (ne_eqb b 45 (λ e. omega (arith, low.0)))
  where
    choose : (t : Bool) → t ≡ false → cond t (mode.Minus p o) (mode.Whole p o false (b - 48)) ≡ mode.Whole p o false (b - 48)
    choose true e = absurd (cc)
    choose false e = refl

-- a number without a sign
over_plain : (most : ℕ) (r : Reader) (p : List ByteString) (o : Operator) (n : ℕ) (text more : ByteString) → IsNumber n text → n < 2 ^ 63 → may_follow more ≡ true
    → out most (at r (mode.Expects (wants.Literal p o))) (text ++ more) ≡ out most (stated r (with_number p o (pos n))) more
over_plain most r p o n [] more is small h = absurd (cc (is.plain))
over_plain most r p o n (b ∷ []) more is small h =
    let one = and_parts (is_digit b) true is.digits in
    let low = digit_bounds b one.0 in
    let size : b - 48 ≡ n = omega (arith, is.value) in
    ap settled (first_byte most r p o b more (or_right (b == 45) (is_digit b) one.0) (omega (arith, low.0)) ∙ ap (λ m. run most (at r m) more) (plain_number p o b one.0))
    ∙ behind_digits most r p o false (b - 48) more h
    ∙ ap (λ k. out most (stated r (with_number p o (pos k))) more) size
over_plain most r p o n (b ∷ c ∷ digits) more is small h =
    let both = and_parts (is_digit b) (list_all is_digit (c ∷ digits)) is.digits in
    let low = digit_bounds b both.0 in
    let first : 0 < b - 48 = omega (arith, low.0, λ (e : b ≡ 48). eqb-false b 48 (not_so (b == 48) is.plain) e) in
    let zeroed : 10 * 0 + (b - 48) ≡ b - 48 = omega arith in
    let value : number_behind (b - 48) (c ∷ digits) ≡ n = ap (λ k. number_behind k (c ∷ digits)) (sym zeroed) ∙ is.value in
    ap settled (first_byte most r p o b ((c ∷ digits) ++ more) (or_right (b == 45) (is_digit b) both.0) (omega (arith, low.0)) ∙ ap (λ m. run most (at r m) ((c ∷ digits) ++ more)) (plain_number p o b both.0)
    ∙ over_digits most r p o false (b - 48) (c ∷ digits) more both.1 first (lt-ltb (number_behind (b - 48) (c ∷ digits)) (2 ^ 63) (omega (arith, value))))
    ∙ behind_digits most r p o false (number_behind (b - 48) (c ∷ digits)) more h
    ∙ ap (λ k. out most (stated r (with_number p o (pos k))) more) value

-- a number behind a `-`
over_minus : (most : ℕ) (r : Reader) (p : List ByteString) (o : Operator) (n : ℕ) (text more : ByteString) → IsNumber (suc n) text → n < 2 ^ 63 → may_follow more ≡ true
    → out most (at r (mode.Minus p o)) (text ++ more) ≡ out most (stated r (with_number p o (negsuc n))) more
over_minus most r p o n [] more is small h = absurd (cc (is.plain))
over_minus most r p o n (b ∷ digits) more is small h =
    let both = and_parts (is_digit b) (list_all is_digit digits) is.digits in
    let low = digit_bounds b both.0 in
    let zeroed : 10 * 0 + (b - 48) ≡ b - 48 = omega arith in
    let value : number_behind (b - 48) digits ≡ suc n = ap (λ k. number_behind k digits) (sym zeroed) ∙ is.value in
    let first : 48 < b = begun digits both.0 is.plain value in
    let test : (nat_le 49 b && nat_le b 57) ≡ true = and_from (nat_le 49 b) (nat_le b 57) (le-leb 49 b (omega arith)) (le-leb b 57 (omega (arith, low.1))) in
    let less : number_behind (b - 48) digits - 1 ≡ n = omega (arith, value) in
    ap settled (chosen (nat_le 49 b && nat_le b 57) (Ok (at r (mode.Whole p o true (b - 48)))) (Err stop.Refused) (λ m. run most m (digits ++ more)) test
    ∙ over_digits most r p o true (b - 48) digits more both.1 (omega arith) (le-leb (number_behind (b - 48) digits) (2 ^ 63) (omega (arith, value))))
    ∙ behind_digits most r p o true (number_behind (b - 48) digits) more h
    ∙ ap (λ k. out most (stated r (with_number p o (negsuc k))) more) less
  where
    begun : (ds : ByteString) → is_digit b ≡ true → begins_well (b ∷ ds) ≡ true → number_behind (b - 48) ds ≡ suc n → 48 < b
    begun [] d w v = omega (arith, v)
    begun (c ∷ ds) d w v = omega (arith, (digit_bounds b d).0, λ (e : b ≡ 48). eqb-false b 48 (not_so (b == 48) w) e)

pub over_whole : (most : ℕ) (r : Reader) (p : List ByteString) (o : Operator) (z : ℤ) (text more : ByteString) → IsWhole z text → may_follow more ≡ true
    → out most (at r (mode.Expects (wants.Literal p o))) (text ++ more) ≡ out most (stated r (with_number p o z)) more
over_whole most r p o (pos n) text more is h = over_plain most r p o n text more is.0 is.1 h
over_whole most r p o (negsuc n) text more is h =
    ap (λ t. out most (at r (mode.Expects (wants.Literal p o))) (t ++ more)) is.0.sign
    ∙ ap settled (first_byte most r p o 45 (is.0.rest ++ more) refl (omega arith))
    ∙ over_minus most r p o n is.0.rest more is.0.number is.1 h
