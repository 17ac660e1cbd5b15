-- What is printed of a text has no hidden character, and no byte of a control of ASCII.
use Rattle.std.proofs.Common.{◌≡◌, ◌∙◌, ℕ, ◌+◌, ◌-◌, ◌/◌, ◌%◌, ◌<◌, ◌≤◌, zero, suc, false, List, [], ◌∷◌, ◌++◌, ◌==◌, nat_le, ⊎_elim, length, get_or, codes, length-append, rules, arith}
use Rattle.std.specs.Char.{encode_utf8}
use Rattle.std.specs.Fmt.{digits, digits_onto, digit_glyph}
use Rattle.std.specs.Int.{IsInRange}
use Rattle.std.specs.List.{All, AllByRecursion}
use Rattle.std.specs.Str.{NoCharPasses, chars}
use Rattle.std.proofs.lemmas.Bool.{cases_lt, cond_both, leb-true}
use Rattle.std.proofs.lemmas.Bool.Decides.{nat_tests}
use Rattle.std.proofs.lemmas.List.{append-nil}
use Rattle.std.proofs.lemmas.List.Elements.{All-from_get_or}
use Rattle.std.proofs.lemmas.Str.{NoCharPasses-nil, NoCharPasses-append, NoCharPasses-byte, encode_ascii}
use Rattle.vx_value.specs.Texts.{ByteString}
use Rattle.vx_cli.specs.Lines.{IsPlainByte}
use Rattle.vx_cli.specs.Shown.{is_hidden, shown, shown_char, shown_within}

-- no character of ASCII that prints is hidden
not_hidden : (b : ℕ) → IsInRange 32 126 b → is_hidden b ≡ false
not_hidden b h = grind (arith, nat_tests)

-- and no text of such characters has a hidden one
unhidden : (bs : ByteString) → AllByRecursion (IsInRange 32 126) bs → NoCharPasses is_hidden bs
unhidden [] h = NoCharPasses-nil is_hidden
unhidden (b ∷ bs) h =
    let one : NoCharPasses is_hidden (b ∷ []) = (b ∷ [], append-nil (encode_utf8 b) ∙ encode_ascii b (omega arith), (not_hidden b h.0, tt)) in
    NoCharPasses-append is_hidden (b ∷ []) bs one (unhidden bs h.1)

-- a digit is such a character
glyph : (d : ℕ) → d < 16 → IsInRange 32 126 (digit_glyph false d)
glyph d h = grind (arith, nat_tests)

digits_so_far : (k base n : ℕ) (acc : ByteString) → 0 < base → base ≤ 16 → AllByRecursion (IsInRange 32 126) acc
    → AllByRecursion (IsInRange 32 126) (digits_onto k base false n acc)
digits_so_far zero base n acc low high h = h
digits_so_far (suc k) base n acc low high h =
    let more : AllByRecursion (IsInRange 32 126) (digit_glyph false (n % base) ∷ acc) = (glyph (n % base) (omega arith), h) in
    let acc' = digit_glyph false (n % base) ∷ acc in
    cond_both (n / base == 0) acc' (digits_onto k base false (n / base) acc') (AllByRecursion (IsInRange 32 126)) (λ _. more)
    (λ _. digits_so_far k base (n / base) acc' low high more)

-- the digits of a number are
pub plain_digits : (base n : ℕ) → 0 < base → base ≤ 16 → AllByRecursion (IsInRange 32 126) (digits base false n)
unfolding digits
plain_digits base n low high = digits_so_far 64 base n [] low high tt

-- one character
char_unhidden : (c : ℕ) → NoCharPasses is_hidden (shown_char c)
unfolding shown_char
char_unhidden c = cond_both _ _ _ (NoCharPasses is_hidden)
    (λ _. NoCharPasses-append is_hidden _ _ (unhidden (codes "\\u{") (search rules))
    (NoCharPasses-append is_hidden _ _ (unhidden _ (plain_digits 16 c (omega arith) (omega arith))) (unhidden (codes "}") (search rules))))
    (λ e. (c ∷ [], append-nil (encode_utf8 c), (e, tt)))

-- characters in some room
within_unhidden : (room : ℕ) (cs : List ℕ) → NoCharPasses is_hidden (shown_within room cs)
within_unhidden room [] = NoCharPasses-nil is_hidden
within_unhidden room (c ∷ cs) = cond_both _ _ _ (NoCharPasses is_hidden)
    (λ _. NoCharPasses-append is_hidden _ _ (char_unhidden c) (within_unhidden (room - length (shown_char c)) cs))
    (λ _. unhidden (codes "..") (search rules))

pub shown_unhidden : (text : ByteString) → NoCharPasses is_hidden (shown text)
unfolding shown
shown_unhidden text = within_unhidden 256 (chars text)

-- a byte of a text without hidden characters
seen : (b : ℕ) → is_hidden b ≡ false → IsPlainByte b
seen b h = grind (arith, nat_tests)

plain_byte : (text : ByteString) (i : ℕ) → NoCharPasses is_hidden text → i < length text → IsPlainByte (get_or text i 0)
plain_byte text i h at = ⊎_elim
    (λ low. let shown : is_hidden (get_or text i 0) ≡ false = NoCharPasses-byte is_hidden text i h at low in seen (get_or text i 0) shown)
    (λ high. (omega arith, omega arith)) (cases_lt (get_or text i 0) 128)

pub plain_bytes : (text : ByteString) → NoCharPasses is_hidden text → All IsPlainByte text
plain_bytes text h = All-from_get_or IsPlainByte text 0 (λ i at. plain_byte text i h at)

-- what is printed in some room
within_bounded : (room : ℕ) (cs : List ℕ) → length (shown_within room cs) ≤ room + 2
within_bounded room [] = omega arith
within_bounded room (c ∷ cs) =
    let front = shown_char c in
    let rest = shown_within (room - length (shown_char c)) cs in
    cond_both (nat_le (length front) room) (front ++ rest) (codes "..") (λ text. length text ≤ room + 2)
    (λ e. omega (arith, length-append front rest, leb-true (length front) room e, within_bounded (room - length front) cs))
    (λ _. omega arith)

pub bounded : (text : ByteString) → length (shown text) ≤ 258
unfolding shown
bounded text = within_bounded 256 (chars text)
