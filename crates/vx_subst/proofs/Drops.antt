-- What is left of a text behind a form, and where a text may be cut.
use Rattle.std.proofs.Common.{◌≡◌, ◌≢◌, ℕ, ◌+◌, ◌<◌, true, false, List, [], ◌∷◌, ◌++◌, length, get_or, drop, refl, ap, sym, ◌∙◌, arith, append_assoc, inl, inr, add-one, zero, suc, Bor, MatchOption, Option, None, Some}
use Rattle.std.proofs.lemmas.Grind.{common_steps}
use Rattle.std.proofs.lemmas.Bool.Decides.{nat_tests, eqb_tells}
use Rattle.std.proofs.lemmas.List.{drop_at}
use Rattle.std.proofs.lemmas.List.Sums.{prefix_len_passes, prefix_len-le-length}
use Rattle.std.proofs.lemmas.Str.{IsCharBoundary-start, IsCharBoundary-after_ascii}
use Rattle.std.specs.List.{prefix_len}
use Rattle.std.specs.Str.{IsUtf8, IsCharBoundary}
use Rattle.vx_subst.specs.Pieces.{is_name_byte, begins_with}

-- behind `{`, a name and `}`
pub behind_braces : (text name after rest : List ℕ) → text ≡ 123 ∷ (name ++ after) → after ≡ 125 ∷ rest
    → rest ≡ drop (length name + 2) text
behind_braces text name after rest e f =
    let p : List ℕ = 123 ∷ (name ++ 125 ∷ []) in
    let len : length p ≡ length name + 2 = grind (arith, common_steps) in
    let whole : text ≡ p ++ rest =
    e ∙ ap (λ t. 123 ∷ (name ++ t)) f ∙ ap (λ t. 123 ∷ t) (sym (append_assoc name (125 ∷ []) rest))
    in
    sym (ap (drop (length name + 2)) whole ∙ drop_at p rest (length name + 2) len)

-- behind `{`, a name, `:-`, a default and `}`
pub behind_default : (text name after default rest : List ℕ) → text ≡ 123 ∷ (name ++ 58 ∷ 45 ∷ after)
    → after ≡ default ++ 125 ∷ rest → rest ≡ drop (length name + length default + 4) text
behind_default text name after default rest e f =
    let q : List ℕ = 58 ∷ 45 ∷ (default ++ 125 ∷ []) in
    let p : List ℕ = 123 ∷ (name ++ q) in
    let len : length p ≡ length name + length default + 4 = grind (arith, common_steps) in
    let whole : text ≡ p ++ rest =
    e ∙ ap (λ t. 123 ∷ (name ++ 58 ∷ 45 ∷ t)) (f ∙ sym (append_assoc default (125 ∷ []) rest))
    ∙ ap (λ t. 123 ∷ t) (sym (append_assoc name q rest))
    in
    sym (ap (drop (length name + length default + 4)) whole ∙ drop_at p rest (length name + length default + 4) len)

-- a byte of a name is ASCII
pub name_byte_ascii : (b : ℕ) → is_name_byte b ≡ true → b < 128
name_byte_ascii b h = grind (arith, nat_tests)

-- a text may be cut behind the name that it begins with
cut_behind : (text : List ℕ) (n : ℕ) → IsUtf8 text → n ≡ prefix_len is_name_byte text → IsCharBoundary text n
cut_behind text zero u e = IsCharBoundary-start text u
cut_behind text (suc m) u e =
    let least = prefix_len-le-length is_name_byte text in
    let passes : is_name_byte (get_or text m 0) ≡ true = prefix_len_passes is_name_byte text m 0 (omega arith) in
    rw add-one at (IsCharBoundary-after_ascii text m u (omega arith) (name_byte_ascii _ passes))

pub cut_behind_name : (text : List ℕ) → IsUtf8 text → IsCharBoundary text (prefix_len is_name_byte text)
cut_behind_name text u = cut_behind text (prefix_len is_name_byte text) u refl

-- a text that begins otherwise
pub begins_otherwise : (first : ℕ) (text : List ℕ) → ((rest : List ℕ) → text ≢ first ∷ rest) → begins_with first text ≡ false
begins_otherwise first [] h = refl
begins_otherwise first (b ∷ rest) h =
    elim (eqb_tells b first) [ inl t ↦ absurd (h rest (ap (λ x. x ∷ rest) t.1)) | inr t ↦ t.0 ]

pub begins_as : (first : ℕ) (text : List ℕ) (r : Option (Bor (List ℕ)))
    → MatchOption r ((rest : List ℕ) → text ≢ first ∷ rest) (λ x. text ≡ first ∷ x.now)
    → MatchOption r (begins_with first text ≡ false) (λ x. text ≡ first ∷ x.now)
begins_as first text None h = begins_otherwise first text h
begins_as first text (Some x) h = h

pub ruleset drops = (behind_braces, behind_default)
