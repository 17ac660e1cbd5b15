-- What is printed of characters where there is so much room.
use Rattle.std.proofs.Common.{◌≡◌, ◌∙◌, sym, ap, ℕ, ◌+◌, ◌-◌, ◌<◌, ◌≤◌, List, ◌∷◌, ◌++◌, length, get_or, drop, codes, append_assoc, arith}
use Rattle.std.proofs.lemmas.Bool.{cond-true, cond-false, le-leb, lt-leb}
use Rattle.std.proofs.lemmas.List.{at_drop_more, at_drop_all, append-nil}
use Rattle.vx_value.specs.Texts.{ByteString}
use Rattle.vx_cli.specs.Shown.{shown_char, shown_within}

-- a character that fits is printed, and what follows has the room that is left
pub fitting : (room c : ℕ) (cs : List ℕ) → length (shown_char c) ≤ room
    → shown_within room (c ∷ cs) ≡ shown_char c ++ shown_within (room - length (shown_char c)) cs
fitting room c cs h = cond-true _ _ _ (le-leb _ _ h)

-- one that doesn't fit is where the text is cut
pub cut : (room c : ℕ) (cs : List ℕ) → room < length (shown_char c) → shown_within room (c ∷ cs) ≡ codes ".."
cut room c cs h = cond-false _ _ _ (lt-leb _ _ h)

-- the character at a place is the first of what stands from there
at_place : (room n c : ℕ) (cs : List ℕ) → n < length cs → c ≡ get_or cs n c → shown_within room (drop n cs) ≡ shown_within room (c ∷ drop (n + 1) cs)
at_place room n c cs h e = at_drop_more (shown_within room) cs n c h ∙ ap (λ d. shown_within room (d ∷ drop (n + 1) cs)) (sym e)

-- a line with one more character, which fits, and the rest of the text
pub fits_next : (room left n m c : ℕ) (line piece longer all : ByteString) (cs : List ℕ) → (n < length cs) × (c ≡ get_or cs n c)
    → piece ≡ shown_char c → length piece ≤ room → left ≡ room - length piece → m ≡ n + 1 → longer ≡ line ++ piece
    → line ++ shown_within room (drop n cs) ≡ all → longer ++ shown_within left (drop m cs) ≡ all
fits_next room left n m c line piece longer all cs at is short rest next more observed =
    let short' : length (shown_char c) ≤ room = omega (arith, ap length is) in
    let rest' : room - length (shown_char c) ≡ left = omega (arith, ap length is) in
    let first : shown_within room (drop n cs) ≡ shown_char c ++ shown_within (room - length (shown_char c)) (drop (n + 1) cs) =
    at_place room n c cs at.0 at.1 ∙ fitting room c _ short' in
    let whole = append_assoc line piece (shown_within left (drop m cs)) in
    cc

-- a line that is whole
pub ended : (room n : ℕ) (line all : ByteString) (cs : List ℕ) → length cs ≤ n → line ++ shown_within room (drop n cs) ≡ all → line ≡ all
ended room n line all cs h observed = sym (append-nil line) ∙ ap (λ rest. line ++ rest) (sym (at_drop_all (shown_within room) cs n h)) ∙ observed

-- a line that is cut at the next character
pub cut_next : (room n c : ℕ) (line piece all : ByteString) (cs : List ℕ) → (n < length cs) × (c ≡ get_or cs n c) → piece ≡ shown_char c
    → room < length piece → line ++ shown_within room (drop n cs) ≡ all → line ++ codes ".." ≡ all
cut_next room n c line piece all cs at is long observed =
    let long' : room < length (shown_char c) = omega (arith, ap length is) in
    ap (λ rest. line ++ rest) (sym (at_place room n c cs at.0 at.1 ∙ cut room c _ long')) ∙ observed
