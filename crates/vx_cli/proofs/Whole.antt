-- What is printed of a text is the whole text, or a front of it and `..`.
use Rattle.std.proofs.Common.{◌≡◌, ◌∙◌, sym, ap, refl, ℕ, ◌-◌, ◌<◌, ◌≤◌, ⊎_elim, List, [], ◌∷◌, ◌++◌, length, codes, append_assoc, length-append, arith}
use Rattle.std.specs.Char.{encode_utf8}
use Rattle.std.specs.List.{flat_map}
use Rattle.std.specs.Str.{IsUtf8, NoCharPasses, NonePass, chars, encode_utf8_all}
use Rattle.std.proofs.lemmas.Bool.{cases_lt, cond-false}
use Rattle.std.proofs.lemmas.Str.{chars_from_encodes}
use Rattle.vx_value.specs.Texts.{ByteString}
use Rattle.vx_cli.specs.Shown.{IsCutAt, is_hidden, shown, shown_char, shown_within, spelled}
use Rattle.vx_cli.proofs.Fitting.{fitting, cut}

within_whole : (room : ℕ) (cs : List ℕ) → length (flat_map shown_char cs) ≤ room → shown_within room cs ≡ flat_map shown_char cs
within_whole room [] h = refl
within_whole room (c ∷ cs) h =
    let total = length-append (shown_char c) (flat_map shown_char cs) in
    fitting room c cs (omega arith) ∙ ap (λ rest. shown_char c ++ rest) (within_whole (room - length (shown_char c)) cs (omega arith))

-- what has room is whole
pub whole : (text : ByteString) → length (spelled text) ≤ 256 → shown text ≡ spelled text
unfolding shown
whole text h = within_whole 256 (chars text) h

cut_later : (room c : ℕ) (cs : List ℕ) → length (shown_char c) ≤ room
    → IsCutAt (room - length (shown_char c)) cs (shown_within (room - length (shown_char c)) cs) → IsCutAt room (c ∷ cs) (shown_within room (c ∷ cs))
cut_later room c cs h later =
    let front = length-append (shown_char c) (flat_map shown_char later.front) in
    let full = length-append (shown_char c) (flat_map shown_char (later.front ++ later.next ∷ [])) in
    record {
      front = c ∷ later.front;
      next = later.next;
      rest = later.rest;
      parts = ap (λ cs. c ∷ cs) later.parts;
      fits = omega arith;
      full = omega arith;
      cut = fitting room c cs h ∙ ap (λ rest. shown_char c ++ rest) later.cut ∙ sym (append_assoc (shown_char c) (flat_map shown_char later.front) (codes ".."));
    }

within_cut : (room : ℕ) (cs : List ℕ) → room < length (flat_map shown_char cs) → IsCutAt room cs (shown_within room cs)
within_cut room [] h = absurd (omega arith)
within_cut room (c ∷ cs) h =
    let total = length-append (shown_char c) (flat_map shown_char cs) in
    let alone = length-append (shown_char c) [] in
    ⊎_elim
    (λ (long : room < length (shown_char c)). record { front = []; next = c; rest = cs; parts = refl; fits = omega arith; full = omega arith; cut = cut room c cs long })
    (λ (short : length (shown_char c) ≤ room). cut_later room c cs short (within_cut (room - length (shown_char c)) cs (omega arith)))
    (cases_lt room (length (shown_char c)))

-- what hasn't is cut
pub is_cut : (text : ByteString) → 256 < length (spelled text) → IsCutAt 256 (chars text) (shown text)
unfolding shown
is_cut text h = within_cut 256 (chars text) h

-- characters of which none is hidden are spelled as themselves
itself : (cs : List ℕ) → NonePass is_hidden cs → flat_map shown_char cs ≡ encode_utf8_all cs
unfolding shown_char
itself [] h = refl
itself (c ∷ cs) h =
    ap (λ front. front ++ flat_map shown_char cs) (cond-false (is_hidden c) _ (encode_utf8 c) h.0) ∙ ap (λ rest. encode_utf8 c ++ rest) (itself cs h.1)

-- a short text without a hidden character stands as it is
pub same : (text : ByteString) → IsUtf8 text → NoCharPasses is_hidden text → length text ≤ 256 → shown text ≡ text
same text utf8 plain short =
    let characters : chars text ≡ plain.0 = sym (chars_from_encodes plain.0 text utf8 plain.1) in
    let alike : spelled text ≡ text = ap (flat_map shown_char) characters ∙ itself plain.0 plain.2 ∙ plain.1 in
    whole text (omega (arith, ap length alike)) ∙ alike
