-- What may come inside a text, place by place, and that each byte leads there.
use Rattle.std.proofs.Common.{◌≡◌, ℕ, ◌<◌, ◌≤◌, Bool, true, false, cond, ◌&&◌, ◌==◌, nat_le, nat_lt, ◌⊎◌, ⊎_elim, inl, inr, List, [], ◌∷◌, ◌++◌, refl, sym, ◌∙◌, ap, subst, arith, append_assoc}
use Rattle.std.specs.Char.{encode_utf8}
use Rattle.vx_value.specs.Texts.{ByteString}
use Rattle.std.specs.Int.{IsInRange}
use Rattle.std.proofs.lemmas.Bool.Decides.{nat_tests}
use Rattle.vx_value.specs.Replacement.{BeginThree, BeginFour}
use Rattle.vx_value.proofs.Characters.{begin-three, begin-four}
use Rattle.vx_json.specs.Strings.{is_hex, hex_value, is_short, short_byte, is_special, is_high, is_low, paired_code, Four, are_hex, code_of, escape_of, Piece, Itself, Short, Coded, Paired, ArePieces, IsPiece, piece_text, piece_bytes, pieces_text, pieces_bytes}
use Rattle.vx_json.specs.Machine.{TextMove, Goes, Ends, Wrong, text_move, lead_move, within_move, digit_move, code_move, first_code_move, is_character_code}
use Rattle.vx_json.specs.declared.text_place.TextPlace.{TextPlace}
use Rattle.vx_json.specs.declared.text_place.TextPlace.TheVariants as place
use Rattle.vx_json.proofs.Choices.{chosen, choice, both_true, and_true, eq_of, ne_of, lt_of, ge_of, le_of, range_of}

-- bytes are the pieces of a text, a quote and more
pub record HasText (rest : ByteString) (next : ByteString → ByteString → Type 0) : Type 0 where
  pub pieces : List Piece
  pub more : ByteString
  pub are : ArePieces pieces
  pub spelled : rest ≡ pieces_text pieces ++ 34 ∷ more
  pub then : next (pieces_bytes pieces) more

-- bytes are one that passes a test, and more
pub record HasByte (test : ℕ → Bool) (rest : ByteString) (next : ℕ → ByteString → Type 0) : Type 0 where
  pub byte : ℕ
  pub more : ByteString
  pub fits : test byte ≡ true
  pub spelled : rest ≡ byte ∷ more
  pub then : next byte more

-- the next behind a byte that was added
abbrev pub added : ByteString → (ByteString → ByteString → Type 0) → ByteString → ByteString → Type 0
added front next text more = next (front ++ text) more

abbrev pub within : ℕ → ℕ → ℕ → Bool
within low high b = nat_le low b && nat_le b high

abbrev pub LastTail : ByteString → (ByteString → ByteString → Type 0) → Type 0
LastTail rest next = HasByte (within 0x80 0xBF) rest (λ b more. HasText more (added (b ∷ []) next))

abbrev pub TwoTail : ℕ → ℕ → ByteString → (ByteString → ByteString → Type 0) → Type 0
TwoTail low high rest next = HasByte (within low high) rest (λ b more. LastTail more (added (b ∷ []) next))

abbrev pub ThreeTail : ℕ → ℕ → ByteString → (ByteString → ByteString → Type 0) → Type 0
ThreeTail low high rest next = HasByte (within low high) rest (λ b more. TwoTail 0x80 0xBF more (added (b ∷ []) next))

abbrev pub CodeTail : ℕ → ByteString → (ByteString → ByteString → Type 0) → Type 0
CodeTail n rest next = (is_character_code n ≡ true) × HasText rest (added (encode_utf8 n) next)

abbrev pub four : ℕ → ℕ → ℕ → ℕ → Four
four a b c d = record { first = a; second = b; third = c; fourth = d }

abbrev pub Low4Tail : ℕ → ℕ → ℕ → ℕ → ByteString → (ByteString → ByteString → Type 0) → Type 0
Low4Tail h a b c rest next = HasByte is_hex rest (λ d more. CodeTail (paired_code h (code_of (four a b c d))) more next)

abbrev pub Low3Tail : ℕ → ℕ → ℕ → ByteString → (ByteString → ByteString → Type 0) → Type 0
Low3Tail h a b rest next = HasByte is_hex rest (λ c more. Low4Tail h a b c more next)

abbrev pub Low2Tail : ℕ → ℕ → ByteString → (ByteString → ByteString → Type 0) → Type 0
Low2Tail h a rest next = HasByte (λ b. is_hex b && nat_le 12 (hex_value b)) rest (λ b more. Low3Tail h a b more next)

abbrev pub Low1Tail : ℕ → ByteString → (ByteString → ByteString → Type 0) → Type 0
Low1Tail h rest next = HasByte (λ a. is_hex a && (hex_value a == 13)) rest (λ a more. Low2Tail h a more next)

abbrev pub LetterTail : ℕ → ByteString → (ByteString → ByteString → Type 0) → Type 0
LetterTail h rest next = HasByte (λ b. b == 117) rest (λ b more. Low1Tail h more next)

abbrev pub BackslashTail : ℕ → ByteString → (ByteString → ByteString → Type 0) → Type 0
BackslashTail h rest next = HasByte (λ b. b == 92) rest (λ b more. LetterTail h more next)

abbrev pub FirstCodeTail : ℕ → ByteString → (ByteString → ByteString → Type 0) → Type 0
FirstCodeTail n rest next = ((is_high n ≡ true) × BackslashTail n rest next) ⊎ ((is_high n ≡ false) × CodeTail n rest next)

abbrev pub Hex4Tail : ℕ → ℕ → ℕ → ByteString → (ByteString → ByteString → Type 0) → Type 0
Hex4Tail a b c rest next = HasByte is_hex rest (λ d more. FirstCodeTail (code_of (four a b c d)) more next)

abbrev pub Hex3Tail : ℕ → ℕ → ByteString → (ByteString → ByteString → Type 0) → Type 0
Hex3Tail a b rest next = HasByte is_hex rest (λ c more. Hex4Tail a b c more next)

abbrev pub Hex2Tail : ℕ → ByteString → (ByteString → ByteString → Type 0) → Type 0
Hex2Tail a rest next = HasByte is_hex rest (λ b more. Hex3Tail a b more next)

abbrev pub Hex1Tail : ByteString → (ByteString → ByteString → Type 0) → Type 0
Hex1Tail rest next = HasByte is_hex rest (λ a more. Hex2Tail a more next)

abbrev pub EscapedTail : ByteString → (ByteString → ByteString → Type 0) → Type 0
EscapedTail rest next = HasByte (λ b. b == 117) rest (λ b more. Hex1Tail more next) ⊎ HasByte is_short rest (λ b more. HasText more (added (short_byte b ∷ []) next))

-- the rest of bytes from a place in a text on
abbrev pub TextTail : TextPlace → ByteString → (ByteString → ByteString → Type 0) → Type 0
TextTail place.Plain rest next = HasText rest next
TextTail place.Last rest next = LastTail rest next
TextTail place.Two rest next = TwoTail 0x80 0xBF rest next
TextTail place.TwoHigh rest next = TwoTail 0xA0 0xBF rest next
TextTail place.TwoLow rest next = TwoTail 0x80 0x9F rest next
TextTail place.Three rest next = ThreeTail 0x80 0xBF rest next
TextTail place.ThreeHigh rest next = ThreeTail 0x90 0xBF rest next
TextTail place.ThreeLow rest next = ThreeTail 0x80 0x8F rest next
TextTail place.Escaped rest next = EscapedTail rest next
TextTail place.Hex1 rest next = Hex1Tail rest next
TextTail (place.Hex2 a) rest next = Hex2Tail a rest next
TextTail (place.Hex3 a b) rest next = Hex3Tail a b rest next
TextTail (place.Hex4 a b c) rest next = Hex4Tail a b c rest next
TextTail (place.Backslash h) rest next = BackslashTail h rest next
TextTail (place.Letter h) rest next = LetterTail h rest next
TextTail (place.Low1 h) rest next = Low1Tail h rest next
TextTail (place.Low2 h a) rest next = Low2Tail h a rest next
TextTail (place.Low3 h a b) rest next = Low3Tail h a b rest next
TextTail (place.Low4 h a b c) rest next = Low4Tail h a b c rest next

-- what comes behind a byte, by what it did
abbrev pub Moved : TextMove → ByteString → (ByteString → ByteString → Type 0) → Type 0
Moved (Goes next bytes) rest further = TextTail next rest (added bytes further)
Moved Ends rest further = further [] rest
Moved Wrong rest further = ⊥

byte_before : (test : ℕ → Bool) (b : ℕ) (rest : ByteString) (next : ℕ → ByteString → Type 0) → test b ≡ true → next b rest → HasByte test (b ∷ rest) next
byte_before test b rest next fits then = record { byte = b; more = rest; fits = fits; spelled = refl; then = then }

-- ---- each byte but one between characters
within-sound : (low high : ℕ) (q : TextPlace) (b : ℕ) (rest : ByteString) (next : ByteString → ByteString → Type 0) → Moved (within_move low high q b) rest next → HasByte (within low high) (b ∷ rest) (λ c more. TextTail q more (added (c ∷ []) next))
within-sound low high q b rest next h = ⊎_elim
    (λ k. byte_before (within low high) b rest (λ c more. TextTail q more (added (c ∷ []) next)) k.0 k.1)
    (λ k. absurd k.1)
    (chosen (λ m. Moved m rest next) (within low high b) (Goes q (b ∷ [])) Wrong h)

-- ---- characters between others
text_piece : (p : Piece) (rest : ByteString) (next : ByteString → ByteString → Type 0) → IsPiece p → HasText rest (added (piece_bytes p) next) → HasText (piece_text p ++ rest) next
text_piece p rest next i h = record {
  pieces = p ∷ h.pieces;
  more = h.more;
  are = (i, h.are);
  spelled = ap (λ r. piece_text p ++ r) h.spelled ∙ sym (append_assoc (piece_text p) (pieces_text h.pieces) (34 ∷ h.more));
  then = h.then;
}

-- the same, where the bytes behind are known by an equation
piece_at : (p : Piece) (bytes rest : ByteString) (next : ByteString → ByteString → Type 0) → IsPiece p → bytes ≡ piece_text p ++ rest → HasText rest (added (piece_bytes p) next) → HasText bytes next
piece_at p bytes rest next i e h = subst (λ b. HasText b next) (sym e) (text_piece p rest next i h)

plain_byte : (b : ℕ) → 128 ≤ b → is_special b ≡ false
plain_byte b h = grind (arith, nat_tests)

one-sound : (b : ℕ) (rest : ByteString) (next : ByteString → ByteString → Type 0) → b < 0x80 → is_special b ≡ false → HasText rest (added (b ∷ []) next) → HasText (b ∷ rest) next
one-sound b rest next l s h = text_piece (Itself (b ∷ [])) rest next ((omega arith, omega arith), s) h

last-sound : (b : ℕ) (rest : ByteString) (next : ByteString → ByteString → Type 0) → 0xC2 ≤ b → b < 0xE0 → LastTail rest (added (b ∷ []) next) → HasText (b ∷ rest) next
last-sound b rest next l u h =
    let r = range_of 0x80 0xBF h.byte h.fits in
    piece_at (Itself (b ∷ h.byte ∷ [])) (b ∷ rest) h.more next (((omega arith, omega arith), r), plain_byte b (omega arith)) (ap (λ t. b ∷ t) h.spelled) h.then

two-sound : (b low high : ℕ) (rest : ByteString) (next : ByteString → ByteString → Type 0) → 128 ≤ b → ((c : ℕ) → IsInRange low high c → BeginThree b c) → TwoTail low high rest (added (b ∷ []) next) → HasText (b ∷ rest) next
two-sound b low high rest next l begin h =
    let r = range_of low high h.byte h.fits in
    let s = range_of 0x80 0xBF h.then.byte h.then.fits in
    piece_at (Itself (b ∷ h.byte ∷ h.then.byte ∷ [])) (b ∷ rest) h.then.more next ((begin h.byte r, s), plain_byte b l)
    (ap (λ t. b ∷ t) (h.spelled ∙ ap (λ t. h.byte ∷ t) h.then.spelled)) h.then.then

three-sound : (b low high : ℕ) (rest : ByteString) (next : ByteString → ByteString → Type 0) → 128 ≤ b → ((c : ℕ) → IsInRange low high c → BeginFour b c) → ThreeTail low high rest (added (b ∷ []) next) → HasText (b ∷ rest) next
three-sound b low high rest next l begin h =
    let r = range_of low high h.byte h.fits in
    let s = range_of 0x80 0xBF h.then.byte h.then.fits in
    let t = range_of 0x80 0xBF h.then.then.byte h.then.then.fits in
    piece_at (Itself (b ∷ h.byte ∷ h.then.byte ∷ h.then.then.byte ∷ [])) (b ∷ rest) h.then.then.more next ((begin h.byte r, s, t), plain_byte b l)
    (ap (λ t. b ∷ t) (h.spelled ∙ ap (λ t. h.byte ∷ t) (h.then.spelled ∙ ap (λ t. h.then.byte ∷ t) h.then.then.spelled))) h.then.then.then

-- the first byte of a character
lead-sound : (b : ℕ) (rest : ByteString) (next : ByteString → ByteString → Type 0) → is_special b ≡ false → Moved (lead_move b) rest next → HasText (b ∷ rest) next
lead-sound b rest next s h =
    choice (λ z. Moved z rest next) _ _ _ h (λ e k. one-sound b rest next (lt_of b 0x80 e) s k) (λ _ h.
    choice (λ z. Moved z rest next) _ _ _ h (λ e k. absurd k) (λ from_C2 h.
    choice (λ z. Moved z rest next) _ _ _ h (λ e k. last-sound b rest next (ge_of b 0xC2 from_C2) (lt_of b 0xE0 e) k) (λ from_E0 h.
    choice (λ z. Moved z rest next) _ _ _ h (λ e k.
    let same = eq_of b 0xE0 e in two-sound b 0xA0 0xBF rest next (omega arith) (λ c r. begin-three b c (omega arith, omega arith) (omega arith, omega arith) (λ _. r.0) (λ x. omega arith)) k) (λ not_E0 h.
    choice (λ z. Moved z rest next) _ _ _ h (λ e k.
    let same = eq_of b 0xED e in two-sound b 0x80 0x9F rest next (omega arith) (λ c r. begin-three b c (omega arith, omega arith) (omega arith, omega arith) (λ x. omega arith) (λ _. r.1)) k) (λ not_ED h.
    choice (λ z. Moved z rest next) _ _ _ h (λ e k.
    let low = ge_of b 0xE0 from_E0 in
    let high = lt_of b 0xF0 e in
    two-sound b 0x80 0xBF rest next (omega arith) (λ c r. begin-three b c (omega arith, omega arith) r (λ x. absurd (ne_of b 0xE0 not_E0 x)) (λ x. absurd (ne_of b 0xED not_ED x))) k) (λ from_F0 h.
    choice (λ z. Moved z rest next) _ _ _ h (λ e k.
    let same = eq_of b 0xF0 e in three-sound b 0x90 0xBF rest next (omega arith) (λ c r. begin-four b c (omega arith, omega arith) (omega arith, omega arith) (λ _. r.0) (λ x. omega arith)) k) (λ not_F0 h.
    choice (λ z. Moved z rest next) _ _ _ h (λ e k.
    let low = ge_of b 0xF0 from_F0 in
    let high = lt_of b 0xF4 e in
    three-sound b 0x80 0xBF rest next (omega arith) (λ c r. begin-four b c (omega arith, omega arith) r (λ x. absurd (ne_of b 0xF0 not_F0 x)) (λ x. omega arith)) k) (λ _ h.
    choice (λ z. Moved z rest next) _ _ _ h (λ e k.
    let same = eq_of b 0xF4 e in three-sound b 0x80 0x8F rest next (omega arith) (λ c r. begin-four b c (omega arith, omega arith) (omega arith, omega arith) (λ x. omega arith) (λ _. r.1)) k) (λ _ h. absurd h)))))))))

-- ---- escapes
code-sound : (n : ℕ) (rest : ByteString) (next : ByteString → ByteString → Type 0) → Moved (code_move n) rest next → CodeTail n rest next
code-sound n rest next h = ⊎_elim (λ k. k) (λ k. absurd k.1) (chosen (λ z. Moved z rest next) _ _ _ h)

first-code-sound : (n : ℕ) (rest : ByteString) (next : ByteString → ByteString → Type 0) → Moved (first_code_move n) rest next → FirstCodeTail n rest next
first-code-sound n rest next h =
    ⊎_elim (λ k. inl k) (λ k. inr (k.0, code-sound n rest next k.1)) (chosen (λ z. Moved z rest next) (is_high n) (Goes (place.Backslash n) []) (code_move n) h)

digit-sound : (test : ℕ → Bool) (q : ℕ → TextPlace) (b : ℕ) (rest : ByteString) (next : ByteString → ByteString → Type 0) → Moved (digit_move (test b) (q b)) rest next → HasByte test (b ∷ rest) (λ c more. TextTail (q c) more next)
digit-sound test q b rest next h =
    ⊎_elim (λ k. byte_before test b rest (λ c more. TextTail (q c) more next) k.0 k.1) (λ k. absurd k.1) (chosen (λ z. Moved z rest next) (test b) (Goes (q b) []) Wrong h)

last-digit-sound : (move : ℕ → TextMove) (tail : ℕ → ByteString → (ByteString → ByteString → Type 0) → Type 0) (b : ℕ) (rest : ByteString) (next : ByteString → ByteString → Type 0) → ((c : ℕ) → Moved (move c) rest next → tail c rest next) → Moved (cond (is_hex b) (move b) Wrong) rest next → HasByte is_hex (b ∷ rest) (λ c more. tail c more next)
last-digit-sound move tail b rest next sound h =
    ⊎_elim (λ k. byte_before is_hex b rest (λ c more. tail c more next) k.0 (sound b k.1)) (λ k. absurd k.1) (chosen (λ z. Moved z rest next) (is_hex b) (move b) Wrong h)

weaker : (test other : ℕ → Bool) (rest : ByteString) (next : ℕ → ByteString → Type 0) → ((b : ℕ) → test b ≡ true → other b ≡ true) → HasByte test rest next → HasByte other rest next
weaker test other rest next f h = record { byte = h.byte; more = h.more; fits = f h.byte h.fits; spelled = h.spelled; then = h.then }

pub hex_bound : (b : ℕ) → is_hex b ≡ true → hex_value b ≤ 15
hex_bound b h = grind (arith, nat_tests)

not_low : (n : ℕ) → is_character_code n ≡ true → is_low n ≡ false
not_low n h = grind (arith, nat_tests)

pub is_low_at : (n : ℕ) → 0xDC00 ≤ n → n ≤ 0xDFFF → is_low n ≡ true
is_low_at n h k = grind (arith, nat_tests)

pub low_code : (a b c d : ℕ) → hex_value a ≡ 13 → 12 ≤ hex_value b → hex_value b ≤ 15 → hex_value c ≤ 15 → hex_value d ≤ 15 → is_low (code_of (four a b c d)) ≡ true
low_code a b c d ha hb hb' hc hd = is_low_at (code_of (four a b c d)) (omega arith) (omega arith)

four_hex : (a b c d : ℕ) → is_hex a ≡ true → is_hex b ≡ true → is_hex c ≡ true → is_hex d ≡ true → are_hex (four a b c d) ≡ true
four_hex a b c d ha hb hc hd = and_true _ _ ha (and_true _ _ hb (and_true _ _ hc hd))

coded-sound : (a b c d : ℕ) (bytes rest : ByteString) (next : ByteString → ByteString → Type 0) → are_hex (four a b c d) ≡ true → bytes ≡ escape_of (four a b c d) ++ rest → FirstCodeTail (code_of (four a b c d)) rest next → HasText bytes next
coded-sound a b c d bytes rest next x e (inr k) = piece_at (Coded (four a b c d)) bytes rest next (x, k.0, not_low (code_of (four a b c d)) k.1.0) e k.1.1
coded-sound a b c d bytes rest next x e (inl k) =
    let s = k.1 in
    let t = s.then in
    let u = t.then in
    let v = u.then in
    let w = v.then in
    let y = w.then in
    let one = both_true _ _ u.fits in
    let two = both_true _ _ v.fits in
    let es : s.byte ≡ 92 = eq_of _ _ s.fits in
    let et : t.byte ≡ 117 = eq_of _ _ t.fits in
    let l = four u.byte v.byte w.byte y.byte in
    piece_at (Paired (four a b c d) l) bytes y.more next (
      x,
      four_hex u.byte v.byte w.byte y.byte one.0 two.0 w.fits y.fits,
      k.0,
      low_code u.byte v.byte w.byte y.byte (eq_of _ _ one.1) (le_of _ _ two.1) (hex_bound v.byte two.0) (hex_bound w.byte w.fits) (hex_bound y.byte y.fits),
    )
    (e ∙ ap (λ r. escape_of (four a b c d) ++ r)
    (s.spelled ∙ (λ i. es i ∷ t.spelled i) ∙ (λ i. 92 ∷ et i ∷ u.spelled i) ∙ ap (λ r. 92 ∷ 117 ∷ u.byte ∷ r) (v.spelled ∙ ap (λ r. v.byte ∷ r) (w.spelled ∙ ap (λ r. w.byte ∷ r) y.spelled))))
    y.then.1

escaped-sound : (rest : ByteString) (next : ByteString → ByteString → Type 0) → EscapedTail rest next → HasText (92 ∷ rest) next
escaped-sound rest next (inr h) = piece_at (Short h.byte) (92 ∷ rest) h.more next h.fits (ap (λ r. 92 ∷ r) h.spelled) h.then
escaped-sound rest next (inl h) =
    let a = h.then in
    let b = a.then in
    let c = b.then in
    let d = c.then in
    let e : h.byte ≡ 117 = eq_of _ _ h.fits in
    coded-sound a.byte b.byte c.byte d.byte (92 ∷ rest) d.more next (four_hex a.byte b.byte c.byte d.byte a.fits b.fits c.fits d.fits)
    (ap (λ r. 92 ∷ r) (h.spelled ∙ (λ i. e i ∷ a.spelled i) ∙ ap (λ r. 117 ∷ a.byte ∷ r) (b.spelled ∙ ap (λ r. b.byte ∷ r) (c.spelled ∙ ap (λ r. c.byte ∷ r) d.spelled))))
    d.then

special_not : (b : ℕ) → (b == 34) ≡ false → (b == 92) ≡ false → nat_lt b 32 ≡ false → is_special b ≡ false
special_not b h k l = grind (arith, nat_tests)

plain-sound : (b : ℕ) (rest : ByteString) (next : ByteString → ByteString → Type 0) → Moved (text_move place.Plain b) rest next → HasText (b ∷ rest) next
plain-sound b rest next h = ⊎_elim
    (λ k. let e = eq_of b 34 k.0 in record { pieces = []; more = rest; are = tt; spelled = ap (λ x. x ∷ rest) e; then = k.1 })
    (λ k. ⊎_elim
    (λ l. let e = eq_of b 92 l.0 in subst (λ x. HasText (x ∷ rest) next) (sym e) (escaped-sound rest next l.1))
    (λ l. ⊎_elim (λ m. absurd m.1) (λ m. lead-sound b rest next (special_not b k.0 l.0 m.0) m.1) (chosen (λ z. Moved z rest next) (nat_lt b 32) Wrong (lead_move b) l.1))
    (chosen (λ z. Moved z rest next) (b == 92) (Goes place.Escaped []) (cond (nat_lt b 32) Wrong (lead_move b)) k.1))
    (chosen (λ z. Moved z rest next) (b == 34) Ends (cond (b == 92) (Goes place.Escaped []) (cond (nat_lt b 32) Wrong (lead_move b))) h)

behind-backslash : (b : ℕ) (rest : ByteString) (next : ByteString → ByteString → Type 0) → Moved (text_move place.Escaped b) rest next → EscapedTail (b ∷ rest) next
behind-backslash b rest next h = ⊎_elim
    (λ k. inl (byte_before (λ x. x == 117) b rest (λ x more. Hex1Tail more next) k.0 k.1))
    (λ k. ⊎_elim (λ l. inr (byte_before is_short b rest (λ x more. HasText more (added (short_byte x ∷ []) next)) l.0 l.1)) (λ l. absurd l.1) (chosen (λ z. Moved z rest next) (is_short b) (Goes place.Plain (short_byte b ∷ [])) Wrong k.1))
    (chosen (λ z. Moved z rest next) (b == 117) (Goes place.Hex1 []) (cond (is_short b) (Goes place.Plain (short_byte b ∷ [])) Wrong) h)

-- ---- each byte leads where it says
pub text-sound : (p : TextPlace) (b : ℕ) (rest : ByteString) (next : ByteString → ByteString → Type 0) → Moved (text_move p b) rest next → TextTail p (b ∷ rest) next
text-sound place.Plain b rest next h = plain-sound b rest next h
text-sound place.Last b rest next h = within-sound 0x80 0xBF place.Plain b rest next h
text-sound place.Two b rest next h = within-sound 0x80 0xBF place.Last b rest next h
text-sound place.TwoHigh b rest next h = within-sound 0xA0 0xBF place.Last b rest next h
text-sound place.TwoLow b rest next h = within-sound 0x80 0x9F place.Last b rest next h
text-sound place.Three b rest next h = within-sound 0x80 0xBF place.Two b rest next h
text-sound place.ThreeHigh b rest next h = within-sound 0x90 0xBF place.Two b rest next h
text-sound place.ThreeLow b rest next h = within-sound 0x80 0x8F place.Two b rest next h
text-sound place.Escaped b rest next h = behind-backslash b rest next h
text-sound place.Hex1 b rest next h = digit-sound is_hex (λ x. place.Hex2 x) b rest next h
text-sound (place.Hex2 x) b rest next h =
    weaker (λ c. is_hex c && cond (hex_value x == 13) (nat_le (hex_value c) 11) true) is_hex (b ∷ rest) (λ c more. Hex3Tail x c more next) (λ c e. (both_true _ _ e).0)
    (digit-sound (λ c. is_hex c && cond (hex_value x == 13) (nat_le (hex_value c) 11) true) (λ c. place.Hex3 x c) b rest next h)
text-sound (place.Hex3 x y) b rest next h = digit-sound is_hex (λ c. place.Hex4 x y c) b rest next h
text-sound (place.Hex4 x y z) b rest next h =
    last-digit-sound (λ c. first_code_move (code_of (four x y z c))) (λ c more n. FirstCodeTail (code_of (four x y z c)) more n) b rest next (λ c. first-code-sound (code_of (four x y z c)) rest next) h
text-sound (place.Backslash n) b rest next h = digit-sound (λ c. c == 92) (λ c. place.Letter n) b rest next h
text-sound (place.Letter n) b rest next h = digit-sound (λ c. c == 117) (λ c. place.Low1 n) b rest next h
text-sound (place.Low1 n) b rest next h = digit-sound (λ c. is_hex c && (hex_value c == 13)) (λ c. place.Low2 n c) b rest next h
text-sound (place.Low2 n x) b rest next h = digit-sound (λ c. is_hex c && nat_le 12 (hex_value c)) (λ c. place.Low3 n x c) b rest next h
text-sound (place.Low3 n x y) b rest next h = digit-sound is_hex (λ c. place.Low4 n x y c) b rest next h
text-sound (place.Low4 n x y z) b rest next h =
    last-digit-sound (λ c. code_move (paired_code n (code_of (four x y z c)))) (λ c more k. CodeTail (paired_code n (code_of (four x y z c))) more k) b rest next (λ c. code-sound (paired_code n (code_of (four x y z c))) rest next) h
