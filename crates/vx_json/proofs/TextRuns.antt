-- The pieces of a text, byte by byte.
use Rattle.std.proofs.Common.{◌≡◌, ℕ, ◌+◌, ◌*◌, ◌<◌, ◌≤◌, Bool, true, false, cond, ◌&&◌, ◌==◌, nat_le, ⊎_elim, List, [], ◌∷◌, ◌++◌, refl, sym, ◌∙◌, ap, arith, append_assoc}
use Rattle.std.proofs.lemmas.List.{append-nil}
use Rattle.std.proofs.lemmas.Bool.Decides.{nat_tests}
use Rattle.std.specs.Char.{encode_utf8}
use Rattle.std.specs.Int.{IsInRange}
use Rattle.vx_value.specs.Texts.{ByteString}
use Rattle.vx_value.specs.Datum.{Words, NamedDatum}
use Rattle.vx_value.specs.Replacement.{GoesOn}
use Rattle.vx_json.specs.Strings.{is_hex, hex_value, is_short, short_byte, is_special, is_high, is_low, paired_code, Four, are_hex, code_of, escape_of, Piece, Itself, Short, Coded, Paired, ArePieces, IsPiece, piece_text, piece_bytes, pieces_text, pieces_bytes}
use Rattle.vx_json.specs.Machine.{TextMove, Goes, Wrong, text_move, code_move, first_code_move, is_character_code, Mode, Frame, InText, InName, AtEnd, AtColon, state, step, carry, outcome, words_move, name_move}
use Rattle.vx_json.specs.declared.text_place.TextPlace.{TextPlace}
use Rattle.vx_json.specs.declared.text_place.TextPlace.TheVariants as place
use Rattle.vx_json.proofs.Choices.{both_true, and_true, eq_of, gt_of, range_of}
use Rattle.vx_json.proofs.TextTails.{hex_bound, is_low_at, four}
use Rattle.vx_json.proofs.NumberValues.{false_true}
use Rattle.vx_json.proofs.PieceTexts.{code_small, lossy-pieces}

-- a mode inside a text, of which each byte leads where the text's places say
pub record IsTextMode (mode : TextPlace → ByteString → Mode) (st : List Frame) : Type 0 where
  pub goes : (p : TextPlace) (w : ByteString) (b : ℕ) (q : TextPlace) (bytes : ByteString) → text_move p b ≡ Goes q bytes → step (mode p w) st b ≡ state (mode q (w ++ bytes)) st

pub in-text : (st : List Frame) → IsTextMode (λ p w. InText p w) st
in-text st = record { goes = λ p w b q bytes e. ap (λ m. words_move m w st) e }

pub in-name : (fs : List NamedDatum) (st : List Frame) → IsTextMode (λ p w. InName fs p w) st
in-name fs st = record { goes = λ p w b q bytes e. ap (λ m. name_move m fs w st) e }

-- one byte
go : (mode : TextPlace → ByteString → Mode) (st : List Frame) → IsTextMode mode st → (p : TextPlace) (w : ByteString) (b : ℕ) (q : TextPlace) (bytes rest : ByteString) → text_move p b ≡ Goes q bytes → outcome (mode p w) st (b ∷ rest) ≡ outcome (mode q (w ++ bytes)) st rest
go mode st t p w b q bytes rest e = ap (λ o. carry o (λ n su. outcome n su rest)) (t.goes p w b q bytes e)

-- one byte that adds nothing
skip : (mode : TextPlace → ByteString → Mode) (st : List Frame) → IsTextMode mode st → (p : TextPlace) (w : ByteString) (b : ℕ) (q : TextPlace) (rest : ByteString) → text_move p b ≡ Goes q [] → outcome (mode p w) st (b ∷ rest) ≡ outcome (mode q w) st rest
skip mode st t p w b q rest e = go mode st t p w b q [] rest e ∙ ap (λ x. outcome (mode q x) st rest) (append-nil w)

-- ---- what bytes do
ascii-goes : (a : ℕ) → a ≤ 0x7F → is_special a ≡ false → text_move place.Plain a ≡ Goes place.Plain (a ∷ [])
ascii-goes a h s = grind (arith, nat_tests)

two-lead : (a : ℕ) → 0xC2 ≤ a → a ≤ 0xDF → text_move place.Plain a ≡ Goes place.Last (a ∷ [])
two-lead a h k = grind (arith, nat_tests)

three-lead : (a : ℕ) → 0xE1 ≤ a → a ≤ 0xEF → (a == 0xED) ≡ false → text_move place.Plain a ≡ Goes place.Two (a ∷ [])
three-lead a h k n = grind (arith, nat_tests)

four-lead : (a : ℕ) → 0xF1 ≤ a → a ≤ 0xF3 → text_move place.Plain a ≡ Goes place.Three (a ∷ [])
four-lead a h k = grind (arith, nat_tests)

in-range : (low high b : ℕ) → low ≤ b → b ≤ high → (nat_le low b && nat_le b high) ≡ true
in-range low high b h k = grind (arith, nat_tests)

within-goes : (low high : ℕ) (q : TextPlace) (b : ℕ) → IsInRange low high b → cond (nat_le low b && nat_le b high) (Goes q (b ∷ [])) Wrong ≡ Goes q (b ∷ [])
within-goes low high q b h = rw (in-range low high b h.0 h.1) refl

not_eq : (a b : ℕ) → a < b → (a == b) ≡ false
not_eq a b h = grind (arith, nat_tests)

not_eq' : (a b : ℕ) → b < a → (a == b) ≡ false
not_eq' a b h = grind (arith, nat_tests)

-- ---- a character that stands for itself
run-two : (mode : TextPlace → ByteString → Mode) (st : List Frame) → IsTextMode mode st → (p : TextPlace) (w : ByteString) (a b : ℕ) (rest : ByteString) → text_move place.Plain a ≡ Goes p (a ∷ []) → text_move p b ≡ Goes place.Plain (b ∷ []) → outcome (mode place.Plain w) st (a ∷ b ∷ rest) ≡ outcome (mode place.Plain (w ++ a ∷ b ∷ [])) st rest
run-two mode st t p w a b rest e f =
    go mode st t place.Plain w a p (a ∷ []) (b ∷ rest) e ∙ go mode st t p (w ++ a ∷ []) b place.Plain (b ∷ []) rest f
    ∙ ap (λ x. outcome (mode place.Plain x) st rest) (append_assoc w (a ∷ []) (b ∷ []))

run-three : (mode : TextPlace → ByteString → Mode) (st : List Frame) → IsTextMode mode st → (p q : TextPlace) (w : ByteString) (a b c : ℕ) (rest : ByteString) → text_move place.Plain a ≡ Goes p (a ∷ []) → text_move p b ≡ Goes q (b ∷ []) → text_move q c ≡ Goes place.Plain (c ∷ []) → outcome (mode place.Plain w) st (a ∷ b ∷ c ∷ rest) ≡ outcome (mode place.Plain (w ++ a ∷ b ∷ c ∷ [])) st rest
run-three mode st t p q w a b c rest e f g =
    go mode st t place.Plain w a p (a ∷ []) (b ∷ c ∷ rest) e ∙ go mode st t p (w ++ a ∷ []) b q (b ∷ []) (c ∷ rest) f
    ∙ go mode st t q (w ++ a ∷ [] ++ b ∷ []) c place.Plain (c ∷ []) rest g
    ∙ ap (λ x. outcome (mode place.Plain x) st rest) (append_assoc (w ++ a ∷ []) (b ∷ []) (c ∷ []) ∙ append_assoc w (a ∷ []) (b ∷ c ∷ []))

run-four : (mode : TextPlace → ByteString → Mode) (st : List Frame) → IsTextMode mode st → (p : TextPlace) (w : ByteString) (a b c d : ℕ) (rest : ByteString) → text_move place.Plain a ≡ Goes p (a ∷ []) → text_move p b ≡ Goes place.Two (b ∷ []) → GoesOn c → GoesOn d → outcome (mode place.Plain w) st (a ∷ b ∷ c ∷ d ∷ rest) ≡ outcome (mode place.Plain (w ++ a ∷ b ∷ c ∷ d ∷ [])) st rest
run-four mode st t p w a b c d rest e f g h =
    go mode st t place.Plain w a p (a ∷ []) (b ∷ c ∷ d ∷ rest) e ∙ go mode st t p (w ++ a ∷ []) b place.Two (b ∷ []) (c ∷ d ∷ rest) f
    ∙ go mode st t place.Two (w ++ a ∷ [] ++ b ∷ []) c place.Last (c ∷ []) (d ∷ rest) (within-goes 0x80 0xBF place.Last c g)
    ∙ go mode st t place.Last (w ++ a ∷ [] ++ b ∷ [] ++ c ∷ []) d place.Plain (d ∷ []) rest (within-goes 0x80 0xBF place.Plain d h)
    ∙ ap (λ x. outcome (mode place.Plain x) st rest)
    (append_assoc (w ++ a ∷ [] ++ b ∷ []) (c ∷ []) (d ∷ []) ∙ append_assoc (w ++ a ∷ []) (b ∷ []) (c ∷ d ∷ []) ∙ append_assoc w (a ∷ []) (b ∷ c ∷ d ∷ []))

eq_in : (x a : ℕ) → IsInRange x x a → a ≡ x
eq_in x a h = omega arith

run-character : (mode : TextPlace → ByteString → Mode) (st : List Frame) → IsTextMode mode st → (c w rest : ByteString) → IsPiece (Itself c) → outcome (mode place.Plain w) st (c ++ rest) ≡ outcome (mode place.Plain (w ++ c)) st rest
run-character mode st t [] w rest h = absurd h.0
run-character mode st t (a ∷ []) w rest h = go mode st t place.Plain w a place.Plain (a ∷ []) rest (ascii-goes a h.0.1 h.1)
run-character mode st t (a ∷ b ∷ []) w rest h = run-two mode st t place.Last w a b rest (two-lead a h.0.0.0 h.0.0.1) (within-goes 0x80 0xBF place.Plain b h.0.1)
run-character mode st t (a ∷ b ∷ c ∷ []) w rest h = ⊎_elim
    (λ k. run-three mode st t place.TwoHigh place.Last w a b c rest (rw (eq_in 0xE0 a k.0) refl) (within-goes 0xA0 0xBF place.Last b k.1) (within-goes 0x80 0xBF place.Plain c h.0.1))
    (λ k. ⊎_elim
    (λ l. run-three mode st t place.Two place.Last w a b c rest (three-lead a l.0.0 (omega arith) (not_eq a 0xED (omega arith))) (within-goes 0x80 0xBF place.Last b l.1) (within-goes 0x80 0xBF place.Plain c h.0.1))
    (λ l. ⊎_elim
    (λ m. run-three mode st t place.TwoLow place.Last w a b c rest (rw (eq_in 0xED a m.0) refl) (within-goes 0x80 0x9F place.Last b m.1) (within-goes 0x80 0xBF place.Plain c h.0.1))
    (λ m. run-three mode st t place.Two place.Last w a b c rest (three-lead a (omega arith) m.0.1 (not_eq' a 0xED (omega arith))) (within-goes 0x80 0xBF place.Last b m.1) (within-goes 0x80 0xBF place.Plain c h.0.1))
    l) k) h.0.0
run-character mode st t (a ∷ b ∷ c ∷ d ∷ []) w rest h = ⊎_elim
    (λ k. run-four mode st t place.ThreeHigh w a b c d rest (rw (eq_in 0xF0 a k.0) refl) (within-goes 0x90 0xBF place.Two b k.1) h.0.1 h.0.2)
    (λ k. ⊎_elim
    (λ l. run-four mode st t place.Three w a b c d rest (four-lead a l.0.0 l.0.1) (within-goes 0x80 0xBF place.Two b l.1) h.0.1 h.0.2)
    (λ l. run-four mode st t place.ThreeLow w a b c d rest (rw (eq_in 0xF4 a l.0) refl) (within-goes 0x80 0x8F place.Two b l.1) h.0.1 h.0.2)
    k) h.0.0
run-character mode st t (a ∷ b ∷ c ∷ d ∷ e ∷ more) w rest h = absurd h.0

-- ---- escapes
short_not_u : (c : ℕ) → is_short c ≡ true → (c == 117) ≡ false
short_not_u c h = grind (arith, nat_tests)

short-goes : (c : ℕ) → is_short c ≡ true → text_move place.Escaped c ≡ Goes place.Plain (short_byte c ∷ [])
short-goes c h = rw (short_not_u c h, h) refl

second_low : (x y u v : ℕ) (t : Bool) → (x == 13) ≡ true → y ≤ 15 → u ≤ 15 → v ≤ 15 → is_low (((x * 16 + y) * 16 + u) * 16 + v) ≡ false → nat_le y 11 ≡ t → t ≡ true
second_low x y u v true e hy hu hv l k = refl
second_low x y u v false e hy hu hv l k =
    let same : x ≡ 13 = eq_of x 13 e in
    let more : 11 < y = gt_of y 11 k in
    absurd (false_true _ l (is_low_at (((x * 16 + y) * 16 + u) * 16 + v) (omega arith) (omega arith)))

second_case : (x y u v : ℕ) (t : Bool) → (x == 13) ≡ t → y ≤ 15 → u ≤ 15 → v ≤ 15 → is_low (((x * 16 + y) * 16 + u) * 16 + v) ≡ false → cond t (nat_le y 11) true ≡ true
second_case x y u v true e hy hu hv l = second_low x y u v (nat_le y 11) e hy hu hv l refl
second_case x y u v false e hy hu hv l = refl

pub digit-goes : (t : Bool) (q : TextPlace) → t ≡ true → cond t (Goes q []) Wrong ≡ Goes q []
digit-goes true q h = refl
digit-goes false q h = cc

hex4-goes : (a b c d : ℕ) (m : TextMove) → is_hex d ≡ true → first_code_move (code_of (four a b c d)) ≡ m → text_move (place.Hex4 a b c) d ≡ m
hex4-goes a b c d m h e = rw h e

low4-goes : (n a b c d : ℕ) (m : TextMove) → is_hex d ≡ true → code_move (paired_code n (code_of (four a b c d))) ≡ m → text_move (place.Low4 n a b c) d ≡ m
low4-goes n a b c d m h e = rw h e

-- the four digits behind a backslash and an `u`
run-digits : (mode : TextPlace → ByteString → Mode) (st : List Frame) → IsTextMode mode st → (f : Four) (w rest : ByteString) → are_hex f ≡ true → is_low (code_of f) ≡ false → outcome (mode place.Plain w) st (escape_of f ++ rest) ≡ outcome (mode (place.Hex4 f.first f.second f.third) w) st (f.fourth ∷ rest)
run-digits mode st t f w rest a l =
    let k = both_true _ _ a in
    let m = both_true _ _ k.1 in
    let n = both_true _ _ m.1 in
    skip mode st t place.Plain w 92 place.Escaped (117 ∷ f.first ∷ f.second ∷ f.third ∷ f.fourth ∷ rest) refl
    ∙ skip mode st t place.Escaped w 117 place.Hex1 (f.first ∷ f.second ∷ f.third ∷ f.fourth ∷ rest) refl
    ∙ skip mode st t place.Hex1 w f.first (place.Hex2 f.first) (f.second ∷ f.third ∷ f.fourth ∷ rest) (digit-goes (is_hex f.first) (place.Hex2 f.first) k.0)
    ∙ skip mode st t (place.Hex2 f.first) w f.second (place.Hex3 f.first f.second) (f.third ∷ f.fourth ∷ rest)
    (digit-goes (is_hex f.second && cond (hex_value f.first == 13) (nat_le (hex_value f.second) 11) true) (place.Hex3 f.first f.second) (and_true _ _ m.0 (second_case (hex_value f.first) (hex_value f.second) (hex_value f.third) (hex_value f.fourth) (hex_value f.first == 13) refl (hex_bound f.second m.0) (hex_bound f.third n.0) (hex_bound f.fourth n.1) l)))
    ∙ skip mode st t (place.Hex3 f.first f.second) w f.third (place.Hex4 f.first f.second f.third) (f.fourth ∷ rest) (digit-goes (is_hex f.third) (place.Hex4 f.first f.second f.third) n.0)

pub character_code : (n : ℕ) → n < 0x110000 → is_high n ≡ false → is_low n ≡ false → is_character_code n ≡ true
character_code n h k l = grind (arith, nat_tests)

pub code-goes : (n : ℕ) → is_character_code n ≡ true → code_move n ≡ Goes place.Plain (encode_utf8 n)
code-goes n h = rw h refl

pub first-code-goes : (n : ℕ) → is_high n ≡ false → is_character_code n ≡ true → first_code_move n ≡ Goes place.Plain (encode_utf8 n)
first-code-goes n h k = rw h (code-goes n k)

pub high-goes : (n : ℕ) → is_high n ≡ true → first_code_move n ≡ Goes (place.Backslash n) []
high-goes n h = rw h refl

fourth_hex : (f : Four) → are_hex f ≡ true → is_hex f.fourth ≡ true
fourth_hex f h =
    let k = both_true (is_hex f.first) (is_hex f.second && (is_hex f.third && is_hex f.fourth)) h in
    let m = both_true (is_hex f.second) (is_hex f.third && is_hex f.fourth) k.1 in (both_true (is_hex f.third) (is_hex f.fourth) m.1).1

run-coded : (mode : TextPlace → ByteString → Mode) (st : List Frame) → IsTextMode mode st → (f : Four) (w rest : ByteString) → IsPiece (Coded f) → outcome (mode place.Plain w) st (escape_of f ++ rest) ≡ outcome (mode place.Plain (w ++ encode_utf8 (code_of f))) st rest
run-coded mode st t f w rest h =
    let fourth = fourth_hex f h.0 in
    let small = code_small f h.0 in
    run-digits mode st t f w rest h.0 h.2
    ∙ go mode st t (place.Hex4 f.first f.second f.third) w f.fourth place.Plain (encode_utf8 (code_of f)) rest
    (hex4-goes f.first f.second f.third f.fourth (Goes place.Plain (encode_utf8 (code_of f))) fourth (first-code-goes (code_of f) h.1 (character_code (code_of f) (omega arith) h.1 h.2)))

high_not_low : (n : ℕ) → is_high n ≡ true → is_low n ≡ false
high_not_low n h = grind (arith, nat_tests)

low_range : (n : ℕ) → is_low n ≡ true → (0xDC00 ≤ n) × (n ≤ 0xDFFF)
low_range n h = range_of 0xDC00 0xDFFF n h

eq_test : (a b : ℕ) → a ≡ b → (a == b) ≡ true
eq_test a b h = grind (arith, nat_tests)

le_test : (a b : ℕ) → a ≤ b → nat_le a b ≡ true
le_test a b h = grind (arith, nat_tests)

low_digits : (x y u v : ℕ) → x ≤ 15 → y ≤ 15 → u ≤ 15 → v ≤ 15 → is_low (((x * 16 + y) * 16 + u) * 16 + v) ≡ true → ((x == 13) ≡ true) × (nat_le 12 y ≡ true)
low_digits x y u v hx hy hu hv l =
    let r = low_range (((x * 16 + y) * 16 + u) * 16 + v) l in (eq_test x 13 (omega arith), le_test 12 y (omega arith))

pub paired_character : (h l : ℕ) → is_high h ≡ true → is_low l ≡ true → is_character_code (paired_code h l) ≡ true
paired_character h l a b = grind (arith, nat_tests)

run-paired : (mode : TextPlace → ByteString → Mode) (st : List Frame) → IsTextMode mode st → (f g : Four) (w rest : ByteString) → IsPiece (Paired f g) → outcome (mode place.Plain w) st (escape_of f ++ escape_of g ++ rest) ≡ outcome (mode place.Plain (w ++ encode_utf8 (paired_code (code_of f) (code_of g)))) st rest
run-paired mode st t f g w rest h =
    let fourth = fourth_hex f h.0 in
    let k = both_true _ _ h.1 in
    let m = both_true _ _ k.1 in
    let n = both_true _ _ m.1 in
    let low = low_digits (hex_value g.first) (hex_value g.second) (hex_value g.third) (hex_value g.fourth) (hex_bound g.first k.0) (hex_bound g.second m.0) (hex_bound g.third n.0) (hex_bound g.fourth n.1) h.3 in
    let high = code_of f in
    run-digits mode st t f w (escape_of g ++ rest) h.0 (high_not_low high h.2)
    ∙ skip mode st t (place.Hex4 f.first f.second f.third) w f.fourth (place.Backslash high) (escape_of g ++ rest) (hex4-goes f.first f.second f.third f.fourth (Goes (place.Backslash high) []) fourth (high-goes high h.2))
    ∙ skip mode st t (place.Backslash high) w 92 (place.Letter high) (117 ∷ g.first ∷ g.second ∷ g.third ∷ g.fourth ∷ rest) refl
    ∙ skip mode st t (place.Letter high) w 117 (place.Low1 high) (g.first ∷ g.second ∷ g.third ∷ g.fourth ∷ rest) refl
    ∙ skip mode st t (place.Low1 high) w g.first (place.Low2 high g.first) (g.second ∷ g.third ∷ g.fourth ∷ rest) (digit-goes (is_hex g.first && (hex_value g.first == 13)) (place.Low2 high g.first) (and_true _ _ k.0 low.0))
    ∙ skip mode st t (place.Low2 high g.first) w g.second (place.Low3 high g.first g.second) (g.third ∷ g.fourth ∷ rest) (digit-goes (is_hex g.second && nat_le 12 (hex_value g.second)) (place.Low3 high g.first g.second) (and_true _ _ m.0 low.1))
    ∙ skip mode st t (place.Low3 high g.first g.second) w g.third (place.Low4 high g.first g.second g.third) (g.fourth ∷ rest) (digit-goes (is_hex g.third) (place.Low4 high g.first g.second g.third) n.0)
    ∙ go mode st t (place.Low4 high g.first g.second g.third) w g.fourth place.Plain (encode_utf8 (paired_code high (code_of g))) rest
    (low4-goes high g.first g.second g.third g.fourth (Goes place.Plain (encode_utf8 (paired_code high (code_of g)))) n.1 (code-goes (paired_code high (code_of g)) (paired_character high (code_of g) h.2 h.3)))

-- ---- any piece, and all of them
run-piece : (mode : TextPlace → ByteString → Mode) (st : List Frame) → IsTextMode mode st → (p : Piece) (w rest : ByteString) → IsPiece p → outcome (mode place.Plain w) st (piece_text p ++ rest) ≡ outcome (mode place.Plain (w ++ piece_bytes p)) st rest
run-piece mode st t (Itself c) w rest h = run-character mode st t c w rest h
run-piece mode st t (Short c) w rest h =
    skip mode st t place.Plain w 92 place.Escaped (c ∷ rest) refl ∙ go mode st t place.Escaped w c place.Plain (short_byte c ∷ []) rest (short-goes c h)
run-piece mode st t (Coded f) w rest h = run-coded mode st t f w rest h
run-piece mode st t (Paired f g) w rest h = run-paired mode st t f g w rest h

pub run-pieces : (mode : TextPlace → ByteString → Mode) (st : List Frame) → IsTextMode mode st → (ps : List Piece) (w rest : ByteString) → ArePieces ps → outcome (mode place.Plain w) st (pieces_text ps ++ rest) ≡ outcome (mode place.Plain (w ++ pieces_bytes ps)) st rest
run-pieces mode st t [] w rest h = ap (λ x. outcome (mode place.Plain x) st rest) (sym (append-nil w))
run-pieces mode st t (p ∷ ps) w rest h =
    ap (λ r. outcome (mode place.Plain w) st r) (append_assoc (piece_text p) (pieces_text ps) rest)
    ∙ run-piece mode st t p w (pieces_text ps ++ rest) h.0
    ∙ run-pieces mode st t ps (w ++ piece_bytes p) rest h.1
    ∙ ap (λ x. outcome (mode place.Plain x) st rest) (append_assoc w (piece_bytes p) (pieces_bytes ps))

-- ---- a text between quotes
pub run-text : (ps : List Piece) (st : List Frame) (rest : ByteString) → ArePieces ps → outcome (InText place.Plain []) st (pieces_text ps ++ 34 ∷ rest) ≡ outcome (AtEnd (Words (pieces_bytes ps))) st rest
run-text ps st rest h =
    run-pieces (λ p w. InText p w) st (in-text st) ps [] (34 ∷ rest) h ∙ ap (λ x. outcome (AtEnd (Words x)) st rest) (lossy-pieces ps h)

pub run-name : (ps : List Piece) (fs : List NamedDatum) (st : List Frame) (rest : ByteString) → ArePieces ps → outcome (InName fs place.Plain []) st (pieces_text ps ++ 34 ∷ rest) ≡ outcome (AtColon fs (pieces_bytes ps)) st rest
run-name ps fs st rest h =
    run-pieces (λ p w. InName fs p w) st (in-name fs st) ps [] (34 ∷ rest) h ∙ ap (λ x. outcome (AtColon fs x) st rest) (lossy-pieces ps h)
