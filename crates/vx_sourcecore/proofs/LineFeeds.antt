-- How many line feeds there are in the lines that are made: one for each.
use Rattle.std.proofs.Common.{◌≡◌, ℕ, zero, suc, ◌+◌, ◌/◌, ◌%◌, ◌<◌, ◌≤◌, Bool, true, false, List, [], ◌∷◌, ◌++◌, length, cond, eqb, arith, refl, sym, subst, ◌∙◌, ap}
use Rattle.std.specs.Prelude.{◌==◌, ◌&&◌, not, if◌then◌else◌, slice_index_or, decimal}
use Rattle.std.specs.List.{list_all}
use Rattle.std.specs.Fmt.{digit_glyph, digits_onto, digits}
use Rattle.std.proofs.lemmas.Bool.{and_from as both_true, and_parts}
use Rattle.std.proofs.lemmas.Bool.Decides.{nat_tests}
use Rattle.vx_value.specs.Texts.{ByteString}
use Rattle.vx_frame.specs.Frames.{Parts, cut}
use Rattle.vx_demo.specs.DemoLines.{word_at, line_mark, demo_line}
use Rattle.vx_demo.specs.declared.demo_settings.DemoSettings.{DemoSettings}
use Rattle.vx_record.specs.Copies.{count}
use Rattle.vx_record.specs.Generating.{lines_from}
use Rattle.vx_record.proofs.Counts.{count-append}
use Rattle.vx_sourcecore.specs.Lines.{is_unbroken}

-- a text without a line feed has none
unbroken_count : (text : ByteString) → is_unbroken text ≡ true → count 10 text ≡ 0
unbroken_count [] is = refl
unbroken_count (b ∷ text) is =
    let both = and_parts (not (b == 10)) (is_unbroken text) is in
    go (b == 10) both.0 (unbroken_count text both.1)
  where
    go : (t : Bool) → not t ≡ true → count 10 text ≡ 0 → (if t then 1 else 0) + count 10 text ≡ 0
    go true is rest = cc
    go false is rest = omega (arith, rest)

-- none of some texts has one, whichever is chosen
unbroken_at : (texts : List ByteString) (j : ℕ) → list_all is_unbroken texts ≡ true → is_unbroken (slice_index_or texts j []) ≡ true
unbroken_at [] j all = refl
unbroken_at (text ∷ texts) zero all = (and_parts (is_unbroken text) (list_all is_unbroken texts) all).0
unbroken_at (text ∷ texts) (suc j) all = unbroken_at texts j (and_parts (is_unbroken text) (list_all is_unbroken texts) all).1

-- NUMBERS
glyph_fine : (d : ℕ) → not (digit_glyph false d == 10) ≡ true
glyph_fine d = grind (arith, nat_tests)

onto_unbroken : (k base n : ℕ) (behind : ByteString) → is_unbroken behind ≡ true → is_unbroken (digits_onto k base false n behind) ≡ true
onto_unbroken zero base n behind is = is
onto_unbroken (suc k) base n behind is = go (n / base == 0) more (onto_unbroken k base (n / base) (digit_glyph false (n % base) ∷ behind) more)
  where
    more : is_unbroken (digit_glyph false (n % base) ∷ behind) ≡ true
    more = both_true (not (digit_glyph false (n % base) == 10)) (is_unbroken behind) (glyph_fine (n % base)) is

    go : (t : Bool) → is_unbroken (digit_glyph false (n % base) ∷ behind) ≡ true → is_unbroken (digits_onto k base false (n / base) (digit_glyph false (n % base) ∷ behind)) ≡ true →
        is_unbroken (if t then digit_glyph false (n % base) ∷ behind else digits_onto k base false (n / base) (digit_glyph false (n % base) ∷ behind)) ≡ true
    go true here rest = here
    go false here rest = rest

digits_unbroken : (base n : ℕ) → is_unbroken (digits base false n) ≡ true
unfolding digits
digits_unbroken base n = onto_unbroken 64 base n [] refl

decimal_count : (n : ℕ) → count 10 (decimal n) ≡ 0
decimal_count n = unbroken_count (digits 10 false n) (digits_unbroken 10 n)

-- LINES
mark_count : (sequence : Bool) (k : ℕ) → count 10 (line_mark sequence k) ≡ 0
mark_count false k = refl
mark_count true k = count-append 10 (decimal k) (32 ∷ []) ∙ omega (arith, decimal_count k)

-- a line has none
line_count : (demo : DemoSettings) (k : ℕ) → list_all is_unbroken demo.lines ≡ true → count 10 (demo_line demo k) ≡ 0
line_count demo k all =
    let text : ByteString = slice_index_or demo.lines (word_at demo.seed k % length demo.lines) [] in
    let none = unbroken_count text (unbroken_at demo.lines (word_at demo.seed k % length demo.lines) all) in
    count-append 10 (line_mark demo.sequence k) text ∙ omega (arith, none, mark_count demo.sequence k)

-- so some lines have one each
pub lines_count : (demo : DemoSettings) (k n : ℕ) → list_all is_unbroken demo.lines ≡ true → count 10 (lines_from demo k n) ≡ n
lines_count demo k zero all = refl
lines_count demo k (suc n) all =
    let line = line_count demo k all in
    let rest = lines_count demo (k + 1) n all in
    let fed : count 10 (10 ∷ lines_from demo (k + 1) n) ≡ 1 + n = omega (arith, rest) in
    count-append 10 (demo_line demo k) (10 ∷ lines_from demo (k + 1) n) ∙ omega (arith, line, fed)

-- bytes of which there is one are some
pub count_some : (c : ℕ) (bytes : ByteString) → 0 < count c bytes → 0 < length bytes
count_some c [] some = some
count_some c (b ∷ bytes) some = omega arith

-- bytes are cut at each line feed
pub cut_count : (bytes : ByteString) → length (cut bytes).more ≡ count 10 bytes
cut_count [] = refl
cut_count (b ∷ bytes) = go (eqb b 10) (cut_count bytes)
  where
    go : (f : Bool) → length (cut bytes).more ≡ count 10 bytes →
        length (cond {A = Parts} f (record { first = []; more = (cut bytes).first ∷ (cut bytes).more }) (record { first = b ∷ (cut bytes).first; more = (cut bytes).more })).more ≡ (if f then 1 else 0) + count 10 bytes
    go true rest = omega (arith, rest)
    go false rest = omega (arith, rest)
