-- Where bytes lead, part by part, and that more may always come.
use Rattle.std.proofs.Common.{◌≡◌, ℕ, ◌+◌, ◌*◌, ◌<◌, ◌≤◌, Bool, true, false, cond, ◌&&◌, ◌==◌, nat_le, Option, Some, None, ⊎_elim, List, [], ◌∷◌, ◌++◌, refl, sym, ◌∙◌, ap, arith, codes}
use Rattle.std.proofs.lemmas.Bool.Decides.{nat_tests}
use Rattle.std.specs.Char.{encode_utf8}
use Rattle.std.specs.Str.Lossy.{utf8_lossy}
use Rattle.vx_value.specs.Texts.{ByteString, is_empty}
use Rattle.vx_value.specs.Datum.{Datum, Null, Words, Items, Fields, NamedDatum, data_of, named_of}
use Rattle.vx_value.specs.Events.{with_field}
use Rattle.vx_json.specs.Strings.{is_hex, hex_value, is_high, is_low, code_of, paired_code}
use Rattle.vx_json.specs.Grammar.{BeginsText}
use Rattle.vx_json.specs.Machine.{Goes, text_move, may_end, number_datum, Frame, InItems, InFields, Mode, AtValue, AtFirstItem, AtFirstName, AtName, InName, AtColon, AtEnd, InWord, InNumber, InText, State, state, step, carry, reached, outcome}
use Rattle.vx_json.specs.declared.text_place.TextPlace.{TextPlace}
use Rattle.vx_json.specs.declared.text_place.TextPlace.TheVariants as place
use Rattle.vx_json.specs.declared.number_place.NumberPlace.{NumberPlace}
use Rattle.vx_json.specs.declared.number_place.NumberPlace.TheVariants as number
use Rattle.std.proofs.str.Laws.{order}
use Rattle.vx_json.proofs.Choices.{and_true, eq_of, ne_of, le_of}
use Rattle.vx_json.proofs.TextTails.{four, hex_bound, low_code}
use Rattle.vx_json.proofs.PieceTexts.{code_small}
use Rattle.vx_json.proofs.TextRuns.{IsTextMode, in-text, in-name, digit-goes, code-goes, first-code-goes, high-goes, character_code, paired_character}
use Rattle.vx_json.proofs.NumberRuns.{follows, run-end}
use Rattle.vx_json.proofs.Soundness.{text-of}
use Rattle.vx_json.proofs.Completeness.{text-outcome}

-- ---- parts
-- what comes of bytes in two parts, behind the byte that leads to them
carry-parts : {A : Type 0} (o : Option State) (whole : Mode → List Frame → Option A) (front : Mode → List Frame → Option State) (rest : Mode → List Frame → Option A)
    → ((n : Mode) (su : List Frame) → whole n su ≡ carry (front n su) rest) → carry o whole ≡ carry (carry o front) rest
carry-parts None whole front rest h = refl
carry-parts (Some s) whole front rest h = h s.mode s.stack

pub reached-append : (p q : ByteString) (m : Mode) (st : List Frame) → reached m st (p ++ q) ≡ carry (reached m st p) (λ n su. reached n su q)
reached-append [] q m st = refl
reached-append (b ∷ p) q m st = carry-parts (step m st b) (λ n su. reached n su (p ++ q)) (λ n su. reached n su p) (λ n su. reached n su q) (λ n su. reached-append p q n su)

pub outcome-append : (p q : ByteString) (m : Mode) (st : List Frame) → outcome m st (p ++ q) ≡ carry (reached m st p) (λ n su. outcome n su q)
outcome-append [] q m st = refl
outcome-append (b ∷ p) q m st = carry-parts (step m st b) (λ n su. outcome n su (p ++ q)) (λ n su. reached n su p) (λ n su. outcome n su q) (λ n su. outcome-append p q n su)

-- what leads nowhere begins no text
pub no-beginning : (p : ByteString) → reached AtValue [] p ≡ None → BeginsText p → ⊥
no-beginning p e b =
    let o : outcome AtValue [] (p ++ b.0) ≡ Some b.1 = text-outcome (p ++ b.0) b.1 b.2 in
    let n : outcome AtValue [] (p ++ b.0) ≡ None = outcome-append p b.0 AtValue [] ∙ ap (λ s. carry s (λ m su. outcome m su b.0)) e in
    none_some b.1 (sym n ∙ o)
  where
    none_some : (d : Datum) → None ≡ Some d → ⊥
    none_some d h = cc

-- ---- what may come at each place
-- some bytes lead from a place to a value
pub record Lives (m : Mode) (st : List Frame) : Type 0 where
  pub more : ByteString
  pub value : Datum
  pub leads : outcome m st more ≡ Some value

closing : (st : List Frame) (v : Datum) → Lives (AtEnd v) st
closing [] v = record { more = []; value = v; leads = refl }
closing (InItems ds ∷ st) v = let c = closing st (Items (data_of (ds ++ v ∷ []))) in record { more = 93 ∷ c.more; value = c.value; leads = c.leads }
closing (InFields fs name ∷ st) v = let c = closing st (Fields (named_of (with_field fs name v))) in record { more = 125 ∷ c.more; value = c.value; leads = c.leads }

-- a place at which some bytes lead to another from which a value can be reached
leading : (m : Mode) (st : List Frame) (front : ByteString) (n : Mode) (su : List Frame) → reached m st front ≡ state n su → Lives n su → Lives m st
leading m st front n su e l = record {
  more = front ++ l.more;
  value = l.value;
  leads = outcome-append front l.more m st ∙ ap (λ s. carry s (λ k sv. outcome k sv l.more)) e ∙ l.leads;
}

live-value : (st : List Frame) → Lives AtValue st
live-value st = leading AtValue st (codes "null") (AtEnd Null) st refl (closing st Null)

live-first-item : (st : List Frame) → Lives AtFirstItem st
live-first-item st = leading AtFirstItem st (codes "]") (AtEnd (Items (data_of []))) st refl (closing st (Items (data_of [])))

live-first-name : (st : List Frame) → Lives AtFirstName st
live-first-name st = leading AtFirstName st (codes "}") (AtEnd (Fields (named_of []))) st refl (closing st (Fields (named_of [])))

live-colon : (fs : List NamedDatum) (name : ByteString) (st : List Frame) → Lives (AtColon fs name) st
live-colon fs name st = leading (AtColon fs name) st (codes ":") AtValue (InFields fs name ∷ st) refl (live-value (InFields fs name ∷ st))

live-name : (fs : List NamedDatum) (st : List Frame) → Lives (AtName fs) st
live-name fs st = leading (AtName fs) st (34 ∷ 34 ∷ []) (AtColon fs (utf8_lossy [])) st refl (live-colon fs (utf8_lossy []) st)

closing-follows : (st : List Frame) (v : Datum) → follows (closing st v).more ≡ true
unfolding closing
closing-follows [] v = refl
closing-follows (InItems ds ∷ st) v = refl
closing-follows (InFields fs name ∷ st) v = refl

live-number-at : (p : NumberPlace) (w : ByteString) (st : List Frame) → may_end p ≡ true → Lives (InNumber p w) st
live-number-at p w st e =
    let c = closing st (number_datum (utf8_lossy w)) in
    record { more = c.more; value = c.value; leads = run-end p w st c.more e (closing-follows st (number_datum (utf8_lossy w))) ∙ c.leads }

live-number : (p : NumberPlace) (w : ByteString) (st : List Frame) → Lives (InNumber p w) st
live-number number.Minus w st = leading (InNumber number.Minus w) st (48 ∷ []) (InNumber number.Zero (w ++ 48 ∷ [])) st refl (live-number-at number.Zero (w ++ 48 ∷ []) st refl)
live-number number.Zero w st = live-number-at number.Zero w st refl
live-number number.Whole w st = live-number-at number.Whole w st refl
live-number number.Point w st = leading (InNumber number.Point w) st (48 ∷ []) (InNumber number.Fraction (w ++ 48 ∷ [])) st refl (live-number-at number.Fraction (w ++ 48 ∷ []) st refl)
live-number number.Fraction w st = live-number-at number.Fraction w st refl
live-number number.Mark w st = leading (InNumber number.Mark w) st (48 ∷ []) (InNumber number.Exponent (w ++ 48 ∷ [])) st refl (live-number-at number.Exponent (w ++ 48 ∷ []) st refl)
live-number number.Sign w st = leading (InNumber number.Sign w) st (48 ∷ []) (InNumber number.Exponent (w ++ 48 ∷ [])) st refl (live-number-at number.Exponent (w ++ 48 ∷ []) st refl)
live-number number.Exponent w st = live-number-at number.Exponent w st refl

live-word : (rest : ByteString) (d : Datum) (st : List Frame) → is_empty rest ≡ false → Lives (InWord rest d) st
live-word [] d st h = cc
live-word (a ∷ []) d st h = leading (InWord (a ∷ []) d) st (a ∷ []) (AtEnd d) st (rw (same a) refl) (closing st d)
  where
    same : (a : ℕ) → (a == a) ≡ true
    same a = grind (arith, nat_tests)
live-word (a ∷ b ∷ rest) d st h = leading (InWord (a ∷ b ∷ rest) d) st (a ∷ []) (InWord (b ∷ rest) d) st (rw (same a) refl) (live-word (b ∷ rest) d st refl)
  where
    same : (a : ℕ) → (a == a) ≡ true
    same a = grind (arith, nat_tests)

-- ---- inside texts
-- the places of a text that can be reached
abbrev pub IsLivePlace : TextPlace → Type 0
IsLivePlace (place.Hex2 a) = is_hex a ≡ true
IsLivePlace (place.Hex3 a b) = (is_hex a ≡ true) × (is_hex b ≡ true) × (cond (hex_value a == 13) (nat_le (hex_value b) 11) true ≡ true)
IsLivePlace (place.Hex4 a b c) = (is_hex a ≡ true) × (is_hex b ≡ true) × (cond (hex_value a == 13) (nat_le (hex_value b) 11) true ≡ true) × (is_hex c ≡ true)
IsLivePlace (place.Backslash h) = is_high h ≡ true
IsLivePlace (place.Letter h) = is_high h ≡ true
IsLivePlace (place.Low1 h) = is_high h ≡ true
IsLivePlace (place.Low2 h a) = (is_high h ≡ true) × (is_hex a ≡ true) × ((hex_value a == 13) ≡ true)
IsLivePlace (place.Low3 h a b) = (is_high h ≡ true) × (is_hex a ≡ true) × ((hex_value a == 13) ≡ true) × (is_hex b ≡ true) × (nat_le 12 (hex_value b) ≡ true)
IsLivePlace (place.Low4 h a b c) = (is_high h ≡ true) × (is_hex a ≡ true) × ((hex_value a == 13) ≡ true) × (is_hex b ≡ true) × (nat_le 12 (hex_value b) ≡ true) × (is_hex c ≡ true)
IsLivePlace p = Unit {0}

on : (mode : TextPlace → ByteString → Mode) (st : List Frame) → IsTextMode mode st → (p : TextPlace) (w : ByteString) (b : ℕ) (q : TextPlace) (bytes : ByteString) → text_move p b ≡ Goes q bytes → Lives (mode q (w ++ bytes)) st → Lives (mode p w) st
on mode st t p w b q bytes e l = record {
  more = b ∷ l.more;
  value = l.value;
  leads = ap (λ o. carry o (λ n su. outcome n su l.more)) (t.goes p w b q bytes e) ∙ l.leads;
}

live-last : (mode : TextPlace → ByteString → Mode) (st : List Frame) → IsTextMode mode st → ((w : ByteString) → Lives (mode place.Plain w) st) → (w : ByteString) → Lives (mode place.Last w) st
live-last mode st t plain w = on mode st t place.Last w 0x80 place.Plain (0x80 ∷ []) refl (plain (w ++ 0x80 ∷ []))

live-two : (mode : TextPlace → ByteString → Mode) (st : List Frame) → IsTextMode mode st → ((w : ByteString) → Lives (mode place.Plain w) st) → (w : ByteString) → Lives (mode place.Two w) st
live-two mode st t plain w = on mode st t place.Two w 0x80 place.Last (0x80 ∷ []) refl (live-last mode st t plain (w ++ 0x80 ∷ []))

low4-code : (h a b c : ℕ) → IsLivePlace (place.Low4 h a b c) → text_move (place.Low4 h a b c) 48 ≡ Goes place.Plain (encode_utf8 (paired_code h (code_of (four a b c 48))))
low4-code h a b c l =
    let low : is_low (code_of (four a b c 48)) ≡ true = low_code a b c 48 (eq_of (hex_value a) 13 l.2) (le_of 12 (hex_value b) l.4) (hex_bound b l.3) (hex_bound c l.5) (omega arith) in
    code-goes (paired_code h (code_of (four a b c 48))) (paired_character h (code_of (four a b c 48)) l.0 low)

live-low4 : (mode : TextPlace → ByteString → Mode) (st : List Frame) → IsTextMode mode st → ((w : ByteString) → Lives (mode place.Plain w) st) → (h a b c : ℕ) (w : ByteString) → IsLivePlace (place.Low4 h a b c) → Lives (mode (place.Low4 h a b c) w) st
live-low4 mode st t plain h a b c w l =
    let bytes = encode_utf8 (paired_code h (code_of (four a b c 48))) in on mode st t (place.Low4 h a b c) w 48 place.Plain bytes (low4-code h a b c l) (plain (w ++ bytes))

live-low3 : (mode : TextPlace → ByteString → Mode) (st : List Frame) → IsTextMode mode st → ((w : ByteString) → Lives (mode place.Plain w) st) → (h a b : ℕ) (w : ByteString) → IsLivePlace (place.Low3 h a b) → Lives (mode (place.Low3 h a b) w) st
live-low3 mode st t plain h a b w l = on mode st t (place.Low3 h a b) w 48 (place.Low4 h a b 48) [] refl (live-low4 mode st t plain h a b 48 (w ++ []) (l.0, l.1, l.2, l.3, l.4, refl))

live-low2 : (mode : TextPlace → ByteString → Mode) (st : List Frame) → IsTextMode mode st → ((w : ByteString) → Lives (mode place.Plain w) st) → (h a : ℕ) (w : ByteString) → IsLivePlace (place.Low2 h a) → Lives (mode (place.Low2 h a) w) st
live-low2 mode st t plain h a w l = on mode st t (place.Low2 h a) w 99 (place.Low3 h a 99) [] refl (live-low3 mode st t plain h a 99 (w ++ []) (l.0, l.1, l.2, refl, refl))

live-low1 : (mode : TextPlace → ByteString → Mode) (st : List Frame) → IsTextMode mode st → ((w : ByteString) → Lives (mode place.Plain w) st) → (h : ℕ) (w : ByteString) → is_high h ≡ true → Lives (mode (place.Low1 h) w) st
live-low1 mode st t plain h w l = on mode st t (place.Low1 h) w 100 (place.Low2 h 100) [] refl (live-low2 mode st t plain h 100 (w ++ []) (l, refl, refl))

live-letter : (mode : TextPlace → ByteString → Mode) (st : List Frame) → IsTextMode mode st → ((w : ByteString) → Lives (mode place.Plain w) st) → (h : ℕ) (w : ByteString) → is_high h ≡ true → Lives (mode (place.Letter h) w) st
live-letter mode st t plain h w l = on mode st t (place.Letter h) w 117 (place.Low1 h) [] refl (live-low1 mode st t plain h (w ++ []) l)

live-backslash : (mode : TextPlace → ByteString → Mode) (st : List Frame) → IsTextMode mode st → ((w : ByteString) → Lives (mode place.Plain w) st) → (h : ℕ) (w : ByteString) → is_high h ≡ true → Lives (mode (place.Backslash h) w) st
live-backslash mode st t plain h w l = on mode st t (place.Backslash h) w 92 (place.Letter h) [] refl (live-letter mode st t plain h (w ++ []) l)

outside_low : (n : ℕ) → n < 0xDC00 → is_low n ≡ false
outside_low n h = grind (arith, nat_tests)

above_low : (n : ℕ) → 0xDFFF < n → is_low n ≡ false
above_low n h = grind (arith, nat_tests)

not_low_at : (x y u v : ℕ) (t : Bool) → (x == 13) ≡ t → y ≤ 15 → u ≤ 15 → v ≤ 15 → cond t (nat_le y 11) true ≡ true → is_low (((x * 16 + y) * 16 + u) * 16 + v) ≡ false
not_low_at x y u v true e hy hu hv h =
    let same : x ≡ 13 = eq_of x 13 e in let l : y ≤ 11 = le_of y 11 h in outside_low (((x * 16 + y) * 16 + u) * 16 + v) (omega arith)
not_low_at x y u v false e hy hu hv h = ⊎_elim
    (λ k. outside_low (((x * 16 + y) * 16 + u) * 16 + v) (omega arith))
    (λ k. let d = ne_of x 13 e in let m : 13 < x = above x k d in above_low (((x * 16 + y) * 16 + u) * 16 + v) (omega arith))
    (order x 13)
  where
    above : (x : ℕ) → 13 ≤ x → (x ≡ 13 → ⊥) → 13 < x
    above x k d = grind arith

live-code : (mode : TextPlace → ByteString → Mode) (st : List Frame) → IsTextMode mode st → ((w : ByteString) → Lives (mode place.Plain w) st) → (a b c : ℕ) (w : ByteString) (t : Bool) → is_high (code_of (four a b c 48)) ≡ t → is_low (code_of (four a b c 48)) ≡ false → code_of (four a b c 48) < 0x10000 → Lives (mode (place.Hex4 a b c) w) st
live-code mode st t plain a b c w true e l s = on mode st t (place.Hex4 a b c) w 48 (place.Backslash (code_of (four a b c 48))) [] (high-goes (code_of (four a b c 48)) e) (live-backslash mode st t plain (code_of (four a b c 48)) (w ++ []) e)
live-code mode st t plain a b c w false e l s =
    let n = code_of (four a b c 48) in
    on mode st t (place.Hex4 a b c) w 48 place.Plain (encode_utf8 n) (first-code-goes n e (character_code n (omega arith) e l)) (plain (w ++ encode_utf8 n))

live-hex4 : (mode : TextPlace → ByteString → Mode) (st : List Frame) → IsTextMode mode st → ((w : ByteString) → Lives (mode place.Plain w) st) → (a b c : ℕ) (w : ByteString) → IsLivePlace (place.Hex4 a b c) → Lives (mode (place.Hex4 a b c) w) st
live-hex4 mode st t plain a b c w l =
    let hb = hex_bound b l.1 in
    let hc = hex_bound c l.3 in
    live-code mode st t plain a b c w (is_high (code_of (four a b c 48))) refl
    (not_low_at (hex_value a) (hex_value b) (hex_value c) 0 (hex_value a == 13) refl hb hc (omega arith) l.2)
    (code_small (four a b c 48) (and_true _ _ l.0 (and_true _ _ l.1 (and_true _ _ l.3 refl))))

live-hex3 : (mode : TextPlace → ByteString → Mode) (st : List Frame) → IsTextMode mode st → ((w : ByteString) → Lives (mode place.Plain w) st) → (a b : ℕ) (w : ByteString) → IsLivePlace (place.Hex3 a b) → Lives (mode (place.Hex3 a b) w) st
live-hex3 mode st t plain a b w l = on mode st t (place.Hex3 a b) w 48 (place.Hex4 a b 48) [] refl (live-hex4 mode st t plain a b 48 (w ++ []) (l.0, l.1, l.2, refl))

zero_fits : (t : Bool) → cond t true true ≡ true
zero_fits true = refl
zero_fits false = refl

live-hex2 : (mode : TextPlace → ByteString → Mode) (st : List Frame) → IsTextMode mode st → ((w : ByteString) → Lives (mode place.Plain w) st) → (a : ℕ) (w : ByteString) → is_hex a ≡ true → Lives (mode (place.Hex2 a) w) st
live-hex2 mode st t plain a w l =
    on mode st t (place.Hex2 a) w 48 (place.Hex3 a 48) [] (digit-goes (cond (hex_value a == 13) true true) (place.Hex3 a 48) (zero_fits (hex_value a == 13)))
    (live-hex3 mode st t plain a 48 (w ++ []) (l, refl, zero_fits (hex_value a == 13)))

live-hex1 : (mode : TextPlace → ByteString → Mode) (st : List Frame) → IsTextMode mode st → ((w : ByteString) → Lives (mode place.Plain w) st) → (w : ByteString) → Lives (mode place.Hex1 w) st
live-hex1 mode st t plain w = on mode st t place.Hex1 w 48 (place.Hex2 48) [] refl (live-hex2 mode st t plain 48 (w ++ []) refl)

live-text : (mode : TextPlace → ByteString → Mode) (st : List Frame) → IsTextMode mode st → ((w : ByteString) → Lives (mode place.Plain w) st) → (p : TextPlace) (w : ByteString) → IsLivePlace p → Lives (mode p w) st
live-text mode st t plain place.Plain w l = plain w
live-text mode st t plain place.Last w l = live-last mode st t plain w
live-text mode st t plain place.Two w l = live-two mode st t plain w
live-text mode st t plain place.TwoHigh w l = on mode st t place.TwoHigh w 0xA0 place.Last (0xA0 ∷ []) refl (live-last mode st t plain (w ++ 0xA0 ∷ []))
live-text mode st t plain place.TwoLow w l = on mode st t place.TwoLow w 0x80 place.Last (0x80 ∷ []) refl (live-last mode st t plain (w ++ 0x80 ∷ []))
live-text mode st t plain place.Three w l = on mode st t place.Three w 0x80 place.Two (0x80 ∷ []) refl (live-two mode st t plain (w ++ 0x80 ∷ []))
live-text mode st t plain place.ThreeHigh w l = on mode st t place.ThreeHigh w 0x90 place.Two (0x90 ∷ []) refl (live-two mode st t plain (w ++ 0x90 ∷ []))
live-text mode st t plain place.ThreeLow w l = on mode st t place.ThreeLow w 0x80 place.Two (0x80 ∷ []) refl (live-two mode st t plain (w ++ 0x80 ∷ []))
live-text mode st t plain place.Escaped w l = on mode st t place.Escaped w 34 place.Plain (34 ∷ []) refl (plain (w ++ 34 ∷ []))
live-text mode st t plain place.Hex1 w l = live-hex1 mode st t plain w
live-text mode st t plain (place.Hex2 a) w l = live-hex2 mode st t plain a w l
live-text mode st t plain (place.Hex3 a b) w l = live-hex3 mode st t plain a b w l
live-text mode st t plain (place.Hex4 a b c) w l = live-hex4 mode st t plain a b c w l
live-text mode st t plain (place.Backslash h) w l = live-backslash mode st t plain h w l
live-text mode st t plain (place.Letter h) w l = live-letter mode st t plain h w l
live-text mode st t plain (place.Low1 h) w l = live-low1 mode st t plain h w l
live-text mode st t plain (place.Low2 h a) w l = live-low2 mode st t plain h a w l
live-text mode st t plain (place.Low3 h a b) w l = live-low3 mode st t plain h a b w l
live-text mode st t plain (place.Low4 h a b c) w l = live-low4 mode st t plain h a b c w l

-- whether bytes are lower-case letters
abbrev pub are_letters : ByteString → Bool
are_letters [] = true
are_letters (b ∷ w) = (nat_le 97 b && nat_le b 122) && are_letters w

-- ---- any place that can be reached
abbrev pub IsLive : Mode → Type 0
IsLive (InName fs p w) = IsLivePlace p
IsLive (InText p w) = IsLivePlace p
IsLive (InWord rest d) = (is_empty rest ≡ false) × (are_letters rest ≡ true)
IsLive m = Unit {0}

plain-words : (st : List Frame) (w : ByteString) → Lives (InText place.Plain w) st
plain-words st w = leading (InText place.Plain w) st (34 ∷ []) (AtEnd (Words (utf8_lossy w))) st refl (closing st (Words (utf8_lossy w)))

plain-name : (fs : List NamedDatum) (st : List Frame) (w : ByteString) → Lives (InName fs place.Plain w) st
plain-name fs st w = leading (InName fs place.Plain w) st (34 ∷ []) (AtColon fs (utf8_lossy w)) st refl (live-colon fs (utf8_lossy w) st)

pub lives : (m : Mode) (st : List Frame) → IsLive m → Lives m st
lives AtValue st l = live-value st
lives AtFirstItem st l = live-first-item st
lives AtFirstName st l = live-first-name st
lives (AtName fs) st l = live-name fs st
lives (InName fs p w) st l = live-text (λ q x. InName fs q x) st (in-name fs st) (plain-name fs st) p w l
lives (AtColon fs name) st l = live-colon fs name st
lives (AtEnd v) st l = closing st v
lives (InWord rest d) st l = live-word rest d st l.0
lives (InNumber p w) st l = live-number p w st
lives (InText p w) st l = live-text (λ q x. InText q x) st (in-text st) (plain-words st) p w l

-- some text begins with what leads to such a place
pub beginning : (p : ByteString) (m : Mode) (st : List Frame) → reached AtValue [] p ≡ state m st → IsLive m → BeginsText p
beginning p m st e l =
    let v = lives m st l in (
      v.more,
      v.value,
      text-of (p ++ v.more) v.value (outcome-append p v.more AtValue [] ∙ ap (λ s. carry s (λ n su. outcome n su v.more)) e ∙ v.leads),
    )
