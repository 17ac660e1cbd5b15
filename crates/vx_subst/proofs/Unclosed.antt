-- Where no `}` stands among the last bytes of a text.
use Rattle.std.proofs.Common.{◌≡◌, ◌≢◌, ℕ, ◌+◌, ◌-◌, ◌≤◌, List, ◌++◌, length, drop, get_or, false, nat_lt, ap, sym, ◌∙◌, arith}
use Rattle.std.proofs.lemmas.Bool.Decides.{nat_tests}
use Rattle.std.proofs.lemmas.List.{get_or-drop, get_or-append-add, length-drop, length-append}
use Rattle.std.proofs.lemmas.List.Sums.{position_or_len_is}
use Rattle.std.specs.List.{position_or_len}
use Rattle.vx_subst.specs.Pieces.{is_end_brace}
use Rattle.vx_subst.specs.Unclosed.{IsUnclosed}

-- what holds of a text holds of its ends
pub unclosed_behind : (n : ℕ) (front rest text : List ℕ) → text ≡ front ++ rest → IsUnclosed n text → IsUnclosed n rest
unclosed_behind n front rest text e none i lt le f =
    let long : length text ≡ length front + length rest = ap length e ∙ length-append front rest in
    none (length front + i) (omega arith) (omega arith)
    (ap (λ t. get_or t (length front + i) 0) e ∙ get_or-append-add front rest i 0 ∙ f)

pub unclosed_dropped : (n k : ℕ) (text : List ℕ) → IsUnclosed n text → IsUnclosed n (drop k text)
unclosed_dropped n k text none i lt le f =
    let long : length (drop k text) ≡ length text - k = length-drop k text in
    none (k + i) (omega arith) (omega arith) (sym (get_or-drop k text i 0) ∙ f)

-- a byte that is no `}`
no_end : (b : ℕ) → b ≢ 125 → is_end_brace b ≡ false
no_end b ne = grind (arith, nat_tests)

-- a text no longer than that has no `}`
pub unclosed_all : (n : ℕ) (text : List ℕ) → length text ≤ n → IsUnclosed n text
    → nat_lt (position_or_len is_end_brace text) (length text) ≡ false
unclosed_all n text short none =
    let at : position_or_len is_end_brace text ≡ length text =
    position_or_len_is is_end_brace text (length text) 0 (omega arith)
    (λ k lt. no_end (get_or text k 0) (none k lt (omega arith)))
    (λ lt. absurd (omega arith))
    in
    grind (arith, nat_tests)
