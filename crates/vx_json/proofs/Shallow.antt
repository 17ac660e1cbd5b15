-- What is written opens as many levels as the value is deep, and no more.
use Rattle.std.proofs.Common.{◌≡◌, ℕ, zero, suc, ◌+◌, ◌-◌, ◌/◌, ◌%◌, ◌<◌, ◌≤◌, Bool, true, false, cond, ◌&&◌, ◌||◌, ◌==◌, nat_le, nat_lt, [], ◌∷◌, ◌++◌, take, refl, sym, ◌∙◌, ap, subst, arith, append_assoc}
use Rattle.std.proofs.lemmas.List.{append-nil}
use Rattle.std.proofs.lemmas.Bool.Decides.{nat_tests}
use Rattle.vx_value.specs.Texts.{ByteString, is_empty}
use Rattle.vx_value.specs.Datum.{Datum, Null, Truth, Whole, Spelled, Words, Items, Fields, Data, no_data, datum, NamedData, no_named, named, depth, data_depth, named_depth}
use Rattle.vx_json.specs.Numbers.{is_digit, are_digits, some_digits, is_minus, is_whole_part, is_fraction, are_signed_digits, is_exponent, NumberParts}
use Rattle.vx_json.specs.Written.{hex_digit, escaped, escapes, quoted, written, items_written, fields_written}
use Rattle.vx_json.specs.Writable.{IsWritable, AreWritable, AreWritableFields}
use Rattle.vx_json.specs.Faults.{Inside, Outside, InString, inside_after, count_after, open_behind, open_levels}
use Rattle.vx_json.proofs.Choices.{both_true, and_true, eq_of, lt_of}
use Rattle.vx_json.proofs.Levels.{choose, hex_in_string}
use Rattle.vx_json.proofs.WholeNumbers.{whole-parts}
use Rattle.vx_json.proofs.WrittenTexts.{hex_of, items_behind, items-split, fields_behind, fields-split}

-- no more than m levels are open before, among and behind the bytes
abbrev pub Low : ℕ → Inside → ℕ → ByteString → Type 0
Low m inside n [] = n ≤ m
Low m inside n (b ∷ w) = (n ≤ m) × Low m (inside_after inside b) (count_after inside n b) w

low-head : (m : ℕ) (inside : Inside) (n : ℕ) (w : ByteString) → Low m inside n w → n ≤ m
low-head m inside n [] h = h
low-head m inside n (b ∷ w) h = h.0

low-take : (m : ℕ) (inside : Inside) (n : ℕ) (w : ByteString) (k : ℕ) → Low m inside n w → open_behind inside n (take k w) ≤ m
low-take m inside n [] zero h = h
low-take m inside n [] (suc k) h = h
low-take m inside n (b ∷ w) zero h = h.0
low-take m inside n (b ∷ w) (suc k) h = low-take m (inside_after inside b) (count_after inside n b) w k h.1

-- ---- inside texts
string-byte : (m n b : ℕ) (rest : ByteString) → InString ≡ inside_after InString b → Low m InString n rest → Low m InString n (b ∷ rest)
string-byte m n b rest e h = (low-head m InString n rest h, subst (λ i. Low m i n rest) e h)

escaped-low : (m n b : ℕ) (rest : ByteString) → Low m InString n rest → Low m InString n (escaped b ++ rest)
unfolding escaped
escaped-low m n b rest h =
    let l = low-head m InString n rest h in
    let P : ByteString → Type 0 = λ e. Low m InString n (e ++ rest) in
    choose P ((b == 34) || (b == 92)) (92 ∷ b ∷ []) (short_8 b) (λ _. (l, (l, h))) (λ q.
    choose P (b == 8) (92 ∷ 98 ∷ []) (short_12 b) (λ _. (l, (l, h))) (λ _.
    choose P (b == 12) (92 ∷ 102 ∷ []) (short_10 b) (λ _. (l, (l, h))) (λ _.
    choose P (b == 10) (92 ∷ 110 ∷ []) (short_13 b) (λ _. (l, (l, h))) (λ _.
    choose P (b == 13) (92 ∷ 114 ∷ []) (short_9 b) (λ _. (l, (l, h))) (λ _.
    choose P (b == 9) (92 ∷ 116 ∷ []) (long b) (λ _. (l, (l, h))) (λ _.
    choose P (nat_lt b 32) (92 ∷ 117 ∷ 48 ∷ 48 ∷ hex_digit (b / 16) ∷ hex_digit (b % 16) ∷ []) (b ∷ [])
    (λ k. let s : b < 32 = lt_of b 32 k in (l, (l, (l, (l, string-byte m n (hex_digit (b / 16)) (hex_digit (b % 16) ∷ rest) (hex_in_string (hex_digit (b / 16)) (hex_of (b / 16) (omega arith))) (string-byte m n (hex_digit (b % 16)) rest (hex_in_string (hex_digit (b % 16)) (hex_of (b % 16) (omega arith))) h))))))
    (λ _. string-byte m n b rest (neither b q) h)))))))
  where
    long : ℕ → ByteString
    long b = cond (nat_lt b 32) (92 ∷ 117 ∷ 48 ∷ 48 ∷ hex_digit (b / 16) ∷ hex_digit (b % 16) ∷ []) (b ∷ [])

    short_9 : ℕ → ByteString
    short_9 b = cond (b == 9) (92 ∷ 116 ∷ []) (long b)

    short_13 : ℕ → ByteString
    short_13 b = cond (b == 13) (92 ∷ 114 ∷ []) (short_9 b)

    short_10 : ℕ → ByteString
    short_10 b = cond (b == 10) (92 ∷ 110 ∷ []) (short_13 b)

    short_12 : ℕ → ByteString
    short_12 b = cond (b == 12) (92 ∷ 102 ∷ []) (short_10 b)

    short_8 : ℕ → ByteString
    short_8 b = cond (b == 8) (92 ∷ 98 ∷ []) (short_12 b)

    neither : (b : ℕ) → (b == 34) || (b == 92) ≡ false → InString ≡ inside_after InString b
    neither b q = grind (arith, nat_tests)

escapes-low : (m n : ℕ) (w rest : ByteString) → Low m InString n rest → Low m InString n (escapes w ++ rest)
escapes-low m n [] rest h = h
escapes-low m n (b ∷ w) rest h =
    subst (Low m InString n) (sym (append_assoc (escaped b) (escapes w) rest)) (escaped-low m n b (escapes w ++ rest) (escapes-low m n w rest h))

quoted-low : (m n : ℕ) (w rest : ByteString) → Low m Outside n rest → Low m Outside n (quoted w ++ rest)
quoted-low m n w rest h =
    let l = low-head m Outside n rest h in
    (l, subst (Low m InString n) (sym (append_assoc (escapes w) (34 ∷ []) rest)) (escapes-low m n w (34 ∷ rest) (l, h)))

-- ---- numbers
-- a byte that numbers may have
abbrev calm : ℕ → Bool
calm b = (nat_le 43 b && nat_le b 57) || ((b == 101) || (b == 69))

abbrev are_calm : ByteString → Bool
are_calm [] = true
are_calm (b ∷ w) = calm b && are_calm w

calm-low : (m n : ℕ) (w rest : ByteString) → are_calm w ≡ true → Low m Outside n rest → Low m Outside n (w ++ rest)
calm-low m n [] rest c h = h
calm-low m n (b ∷ w) rest c h =
    let k = both_true (calm b) (are_calm w) c in
    let later = calm-low m n w rest k.1 h in
    (low-head m Outside n (w ++ rest) later, subst (λ x. Low m x (count_after Outside n b) (w ++ rest)) (outside b k.0) (subst (λ x. Low m Outside x (w ++ rest)) (count n b k.0) later))
  where
    outside : (b : ℕ) → calm b ≡ true → Outside ≡ inside_after Outside b
    outside b c = grind (arith, nat_tests)

    count : (n b : ℕ) → calm b ≡ true → n ≡ count_after Outside n b
    count n b c = grind (arith, nat_tests)

digit_calm : (b : ℕ) → is_digit b ≡ true → calm b ≡ true
digit_calm b h = grind (arith, nat_tests)

byte_calm : (x b : ℕ) → (b == x) ≡ true → calm x ≡ true → calm b ≡ true
byte_calm x b e h = ap calm (eq_of b x e) ∙ h

calm-digits : (w : ByteString) → are_digits w ≡ true → are_calm w ≡ true
calm-digits [] h = refl
calm-digits (b ∷ w) h = let k = both_true _ _ h in and_true _ _ (digit_calm b k.0) (calm-digits w k.1)

calm-empty : (w : ByteString) → is_empty w ≡ true → are_calm w ≡ true
calm-empty [] h = refl
calm-empty (b ∷ w) h = cc

calm-some : (w : ByteString) → some_digits w ≡ true → are_calm w ≡ true
calm-some [] h = refl
calm-some (b ∷ w) h = calm-digits (b ∷ w) h

calm-minus : (w : ByteString) → is_minus w ≡ true → are_calm w ≡ true
calm-minus [] h = refl
calm-minus (b ∷ w) h = let k = both_true _ _ h in and_true _ _ (byte_calm 45 b k.0 refl) (calm-empty w k.1)

whole-calm : (b : ℕ) (w : ByteString) (t : Bool) → (b == 48) ≡ t → cond t (is_empty w) (is_digit b && are_digits w) ≡ true → are_calm (b ∷ w) ≡ true
whole-calm b w true e h = and_true _ _ (byte_calm 48 b e refl) (calm-empty w h)
whole-calm b w false e h = calm-digits (b ∷ w) h

calm-whole : (w : ByteString) → is_whole_part w ≡ true → are_calm w ≡ true
calm-whole [] h = refl
calm-whole (b ∷ w) h = whole-calm b w (b == 48) refl h

calm-fraction : (w : ByteString) → is_fraction w ≡ true → are_calm w ≡ true
calm-fraction [] h = refl
calm-fraction (b ∷ w) h = let k = both_true _ _ h in and_true _ _ (byte_calm 46 b k.0 refl) (calm-some w k.1)

sign_calm : (b : ℕ) → ((b == 43) || (b == 45)) ≡ true → calm b ≡ true
sign_calm b h = grind (arith, nat_tests)

mark_calm : (b : ℕ) → ((b == 101) || (b == 69)) ≡ true → calm b ≡ true
mark_calm b h = grind (arith, nat_tests)

signed-calm : (b : ℕ) (w : ByteString) (t : Bool) → ((b == 43) || (b == 45)) ≡ t → cond t (some_digits w) (is_digit b && are_digits w) ≡ true → are_calm (b ∷ w) ≡ true
signed-calm b w true e h = and_true _ _ (sign_calm b e) (calm-some w h)
signed-calm b w false e h = calm-digits (b ∷ w) h

calm-signed : (w : ByteString) → are_signed_digits w ≡ true → are_calm w ≡ true
calm-signed [] h = refl
calm-signed (b ∷ w) h = signed-calm b w ((b == 43) || (b == 45)) refl h

calm-exponent : (w : ByteString) → is_exponent w ≡ true → are_calm w ≡ true
calm-exponent [] h = refl
calm-exponent (b ∷ w) h = let k = both_true _ _ h in and_true _ _ (mark_calm b k.0) (calm-signed w k.1)

calm-append : (a b : ByteString) → are_calm a ≡ true → are_calm b ≡ true → are_calm (a ++ b) ≡ true
calm-append [] b h k = k
calm-append (x ∷ a) b h k = let l = both_true _ _ h in and_true _ _ l.0 (calm-append a b l.1 k)

calm-number : (w : ByteString) → NumberParts w → are_calm w ≡ true
calm-number w p =
    ap are_calm p.joined
    ∙ calm-append (p.minus ++ p.whole ++ p.fraction) p.exponent (calm-append (p.minus ++ p.whole) p.fraction (calm-append p.minus p.whole (calm-minus p.minus p.is_minus_part) (calm-whole p.whole p.is_whole)) (calm-fraction p.fraction p.is_fraction_part)) (calm-exponent p.exponent p.is_exponent_part)

-- ---- values
less_again : (n : ℕ) → n ≡ n + 1 - 1
less_again n = omega arith

field-joined : (a q b c r : ByteString) → (a ++ (q ++ b)) ++ c ++ r ≡ a ++ (q ++ b ++ (c ++ r))
field-joined a q b c r = simp append_assoc

mutual
  value-low : (d : Datum) → IsWritable d → (m n : ℕ) (rest : ByteString) → n + depth d ≤ m → Low m Outside n rest → Low m Outside n (written d ++ rest)
  value-low Null h m n rest l r = let k = low-head m Outside n rest r in (k, (k, (k, (k, r))))
  value-low (Truth true) h m n rest l r = let k = low-head m Outside n rest r in (k, (k, (k, (k, r))))
  value-low (Truth false) h m n rest l r = let k = low-head m Outside n rest r in (k, (k, (k, (k, (k, r)))))
  value-low (Whole z) h m n rest l r = calm-low m n (written (Whole z)) rest (calm-number (written (Whole z)) (whole-parts z h)) r
  value-low (Spelled w) h m n rest l r = calm-low m n w rest (calm-number w h.0) r
  value-low (Words w) h m n rest l r = quoted-low m n w rest r
  value-low (Items ds) h m n rest l r = (
    omega arith,
    subst (Low m Outside (n + 1)) (sym (append_assoc (items_written ds) (93 ∷ []) rest))
        (items-low ds h m (n + 1) (93 ∷ rest) (omega arith) (omega arith, subst (λ x. Low m Outside x rest) (less_again n) r)),
  )
  value-low (Fields ns) h m n rest l r = (
    omega arith,
    subst (Low m Outside (n + 1)) (sym (append_assoc (fields_written ns) (125 ∷ []) rest))
        (fields-low ns h.1 m (n + 1) (125 ∷ rest) (omega arith) (omega arith, subst (λ x. Low m Outside x rest) (less_again n) r)),
  )

  items-low : (ds : Data) → AreWritable ds → (m n : ℕ) (rest : ByteString) → n + data_depth ds ≤ m → Low m Outside n rest → Low m Outside n (items_written ds ++ rest)
  items-low no_data h m n rest l r = r
  items-low (datum d ds) h m n rest l r =
      subst (Low m Outside n) (sym (ap (λ x. x ++ rest) (items-split d ds) ∙ append_assoc (written d) (items_behind ds) rest))
      (value-low d h.0 m n (items_behind ds ++ rest) (omega arith) (items-behind-low ds h.1 m n rest (omega arith) r))

  items-behind-low : (ds : Data) → AreWritable ds → (m n : ℕ) (rest : ByteString) → n + data_depth ds ≤ m → Low m Outside n rest → Low m Outside n (items_behind ds ++ rest)
  items-behind-low no_data h m n rest l r = r
  items-behind-low (datum d ds) h m n rest l r = (
    low-head m Outside n rest r,
    subst (Low m Outside n) (sym (ap (λ x. x ++ rest) (items-split d ds) ∙ append_assoc (written d) (items_behind ds) rest))
        (value-low d h.0 m n (items_behind ds ++ rest) (omega arith) (items-behind-low ds h.1 m n rest (omega arith) r)),
  )

  fields-low : (ns : NamedData) → AreWritableFields ns → (m n : ℕ) (rest : ByteString) → n + named_depth ns ≤ m → Low m Outside n rest → Low m Outside n (fields_written ns ++ rest)
  fields-low no_named h m n rest l r = r
  fields-low (named k d ns) h m n rest l r =
      let later = fields-behind-low ns h.2 m n rest (omega arith) r in
      subst (Low m Outside n) (sym (ap (λ x. x ++ rest) (fields-split k d ns) ∙ field-joined (quoted k) (58 ∷ []) (written d) (fields_behind ns) rest))
      (quoted-low m n k (58 ∷ written d ++ (fields_behind ns ++ rest)) (low-head m Outside n (fields_behind ns ++ rest) later, value-low d h.1 m n (fields_behind ns ++ rest) (omega arith) later))

  fields-behind-low : (ns : NamedData) → AreWritableFields ns → (m n : ℕ) (rest : ByteString) → n + named_depth ns ≤ m → Low m Outside n rest → Low m Outside n (fields_behind ns ++ rest)
  fields-behind-low no_named h m n rest l r = r
  fields-behind-low (named k d ns) h m n rest l r =
      let later = fields-behind-low ns h.2 m n rest (omega arith) r in (
        low-head m Outside n rest r,
        subst (Low m Outside n) (sym (ap (λ x. x ++ rest) (fields-split k d ns) ∙ field-joined (quoted k) (58 ∷ []) (written d) (fields_behind ns) rest))
            (quoted-low m n k (58 ∷ written d ++ (fields_behind ns ++ rest)) (low-head m Outside n (fields_behind ns ++ rest) later, value-low d h.1 m n (fields_behind ns ++ rest) (omega arith) later)),
      )

-- what is written of a value that is at most 32 deep opens no more levels
pub written-shallow : (d : Datum) → IsWritable d → depth d ≤ 32 → (k : ℕ) → open_levels (take k (written d)) ≤ 32
written-shallow d h l k =
    low-take 32 Outside 0 (written d) k (subst (Low 32 Outside 0) (append-nil (written d)) (value-low d h 32 0 [] (omega arith) (omega arith)))
