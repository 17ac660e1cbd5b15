-- The text that stands for bytes is the one that std makes, and there is no other.
use Rattle.std.proofs.Common.{◌≡◌, ℕ, zero, suc, ◌+◌, ◌<◌, ◌≤◌, Bool, true, false, cond, List, [], ◌∷◌, ◌++◌, length, take, drop, arith, refl, sym, ◌∙◌, ap, subst, ⊎_elim, append_assoc, append-nil, length-drop, take-add, take_at, drop_at, drop-drop, take-append-drop, take_all, subst₂}
use lib.Utf8.{scalars, encode, encodes}
use Rattle.std.specs.Str.{IsUtf8, is_utf8}
use Rattle.std.specs.Str.Lossy.{valid_len_up_to, utf8_valid_len, utf8_invalid_len, utf8_lossy}
use Rattle.std.proofs.lemmas.Bool.{false≢true}
use Rattle.std.proofs.lemmas.Str.{IsUtf8-append, IsUtf8-nil, IsUtf8-encode, IsUtf8-from_is_utf8, is_utf8-from_IsUtf8, utf8_lossy-IsUtf8, utf8_lossy_step, encode_same}
use Rattle.std.proofs.str.Laws.{order, both}
use Rattle.vx_value.specs.Replacement.{IsCharacter, IsIllFormed, StandsFor, nothing, character, replaced}
use Rattle.vx_value.proofs.Characters.{code_of, row_of}
use Rattle.vx_value.proofs.IllFormed.{ill-formed}

-- ---- the longest front that is text
front-at : (bs : List ℕ) (m : ℕ) (t : Bool) → is_utf8 (take (suc m) bs) ≡ t → IsUtf8 (take (valid_len_up_to bs m) bs)
    → IsUtf8 (take (cond t (suc m) (valid_len_up_to bs m)) bs)
front-at bs m true e shorter = IsUtf8-from_is_utf8 _ e
front-at bs m false e shorter = shorter

front-up-to : (bs : List ℕ) (m : ℕ) → IsUtf8 (take (valid_len_up_to bs m) bs)
front-up-to bs zero = IsUtf8-nil
front-up-to bs (suc m) = front-at bs m (is_utf8 (take (suc m) bs)) refl (front-up-to bs m)

front : (bs : List ℕ) → IsUtf8 (take (utf8_valid_len bs) bs)
unfolding utf8_valid_len
front bs = front-up-to bs (length bs)

longest-at : (bs : List ℕ) (m k : ℕ) (t : Bool) → is_utf8 (take (suc m) bs) ≡ t → (valid_len_up_to bs m < k → k ≤ m → IsUtf8 (take k bs) → ⊥)
    → cond t (suc m) (valid_len_up_to bs m) < k → k ≤ suc m → IsUtf8 (take k bs) → ⊥
longest-at bs m k true e shorter l h u = omega arith
longest-at bs m k false e shorter l h u = ⊎_elim
    (λ p. shorter l (omega arith) u)
    (λ p.
    let same : k ≡ suc m = omega arith in
    false≢true (sym e ∙ is_utf8-from_IsUtf8 _ (subst (λ n. IsUtf8 (take n bs)) same u)))
    (order k (suc m))

longest-up-to : (bs : List ℕ) (m k : ℕ) → valid_len_up_to bs m < k → k ≤ m → IsUtf8 (take k bs) → ⊥
longest-up-to bs zero k l h u = omega arith
longest-up-to bs (suc m) k l h u = longest-at bs m k (is_utf8 (take (suc m) bs)) refl (longest-up-to bs m k) l h u

longest : (bs : List ℕ) (k : ℕ) → utf8_valid_len bs < k → k ≤ length bs → IsUtf8 (take k bs) → ⊥
unfolding utf8_valid_len
longest bs k = longest-up-to bs (length bs) k

-- ---- a text stands for itself, and what follows it goes on
front-stands : (e rest text : List ℕ) → IsCharacter e → StandsFor rest text → StandsFor (e ++ rest) (e ++ text)
front-stands e rest text h s =
    let t = take_at e rest (length e) refl in
    let d = drop_at e rest (length e) refl in
    subst (λ x. StandsFor (e ++ rest) (x ++ text)) t
    (character (e ++ rest) text (length e) (subst IsCharacter (sym t) h) (subst (λ x. StandsFor x text) (sym d) s))

codes-stand : (cs rest text : List ℕ) → scalars cs ≡ true → StandsFor rest text → StandsFor (encodes cs ++ rest) (encodes cs ++ text)
codes-stand [] rest text h s = s
codes-stand (c ∷ cs) rest text h s =
    let parts = both _ _ h in
    subst₂ StandsFor (sym (append_assoc (encode c) (encodes cs) rest)) (sym (append_assoc (encode c) (encodes cs) text))
    (front-stands (encode c) (encodes cs ++ rest) (encodes cs ++ text) (row_of c parts.0) (codes-stand cs rest text parts.1 s))

text-stands : (front rest text : List ℕ) → IsUtf8 front → StandsFor rest text → StandsFor (front ++ rest) (front ++ text)
text-stands front rest text u s = subst (λ x. StandsFor (x ++ rest) (x ++ text)) u.1.1 (codes-stand u.0 rest text u.1.0 s)

whole-stands : (bs : List ℕ) → IsUtf8 bs → StandsFor bs (utf8_lossy bs)
whole-stands bs u =
    subst₂ StandsFor (append-nil bs) (append-nil bs ∙ sym (utf8_lossy-IsUtf8 bs u)) (text-stands bs [] [] u nothing)

-- ---- no character begins what follows the longest front
is-text : (bytes : List ℕ) → IsCharacter bytes → IsUtf8 bytes
is-text bytes h = let c = code_of bytes h in subst IsUtf8 c.2 (IsUtf8-encode c.0 c.1)

no-longer : (bs : List ℕ) (k : ℕ) → (IsUtf8 bs → ⊥) → utf8_valid_len bs < k → IsUtf8 (take k bs) → ⊥
no-longer bs k not_text l u = ⊎_elim
    (λ past. not_text (subst IsUtf8 (take_all k bs (omega arith)) u))
    (λ inside. longest bs k l inside u)
    (order (length bs) k)

none-follows : (bs : List ℕ) → (IsUtf8 bs → ⊥) → (k : ℕ) → IsCharacter (take k (drop (utf8_valid_len bs) bs)) → ⊥
none-follows bs not_text zero h = h
none-follows bs not_text (suc k) h =
    let n = utf8_valid_len bs in
    no-longer bs (n + suc k) not_text (omega arith)
    (subst IsUtf8 (sym (take-add n (suc k) bs)) (IsUtf8-append _ _ (front bs) (is-text _ h)))

short : (bs : List ℕ) → (IsUtf8 bs → ⊥) → utf8_valid_len bs < length bs
short bs not_text = ⊎_elim
    (λ l. l)
    (λ l. absurd (not_text (subst IsUtf8 (take_all (utf8_valid_len bs) bs l) (front bs))))
    (order (utf8_valid_len bs) (length bs))

-- ---- std's text
faulty-stands : (bs : List ℕ) → (IsUtf8 bs → ⊥) → ((later : List ℕ) → length later < length bs → StandsFor later (utf8_lossy later)) → StandsFor bs (utf8_lossy bs)
faulty-stands bs not_text further =
    let n = utf8_valid_len bs in
    let rest = drop n bs in
    let i = utf8_invalid_len rest in
    let less = short bs not_text in
    let some : 0 < length rest = omega (arith, length-drop n bs) in
    let ill = ill-formed rest some (none-follows bs not_text) in
    let later = further (drop i rest) (omega (arith, ill.some, length-drop n bs, length-drop i rest)) in
    let part = replaced rest (utf8_lossy (drop i rest)) i ill later in
    let faulty : n ≡ length bs → ⊥ = λ e. omega arith in
    let made = utf8_lossy_step bs faulty in
    let same : utf8_lossy bs ≡ take n bs ++ (0xEF ∷ 0xBF ∷ 0xBD ∷ utf8_lossy (drop i rest)) =
    made ∙ ap (λ x. take n bs ++ (0xEF ∷ 0xBF ∷ 0xBD ∷ utf8_lossy x)) (sym (drop-drop i n bs)) in
    subst₂ StandsFor (take-append-drop n bs) (sym same) (text-stands (take n bs) rest _ (front bs) part)

stands-within : (k : ℕ) (bs : List ℕ) → length bs ≤ k → StandsFor bs (utf8_lossy bs)
stands-within zero [] h = whole-stands [] IsUtf8-nil
stands-within zero (b ∷ bs) h = absurd (omega arith)
stands-within (suc k) bs h = by-test (is_utf8 bs) refl (λ later l. stands-within k later (omega arith))
  where
    by-test : (t : Bool) → is_utf8 bs ≡ t → ((later : List ℕ) → length later < length bs → StandsFor later (utf8_lossy later)) → StandsFor bs (utf8_lossy bs)
    by-test true e further = whole-stands bs (IsUtf8-from_is_utf8 bs e)
    by-test false e further = faulty-stands bs (λ u. false≢true (sym e ∙ is_utf8-from_IsUtf8 bs u)) further

-- the text that std makes of bytes stands for them
pub stands : (bs : List ℕ) → StandsFor bs (utf8_lossy bs)
stands bs = stands-within (length bs) bs (omega arith)

-- ---- no other
same-character : (bs : List ℕ) (n m : ℕ) → IsCharacter (take n bs) → IsCharacter (take m bs) → (take n bs ≡ take m bs) × (drop n bs ≡ drop m bs)
same-character bs n m p q =
    let c = code_of (take n bs) p in
    let d = code_of (take m bs) q in
    let joined = ap (λ x. x ++ drop n bs) c.2 ∙ take-append-drop n bs ∙ sym (ap (λ x. x ++ drop m bs) d.2 ∙ take-append-drop m bs) in
    let same = encode_same c.0 d.0 (drop n bs) (drop m bs) joined in
    (sym c.2 ∙ ap encode same.0 ∙ d.2, same.1)

same-part : (bs : List ℕ) (n m : ℕ) → IsIllFormed bs n → IsIllFormed bs m → n ≡ m
same-part bs n m p q = ⊎_elim
    (λ l. absurd (p.longest m l q.within (q.begins (omega (arith, p.some)))))
    (λ l. ⊎_elim
    (λ k. absurd (q.longest n k p.within (p.begins (omega (arith, q.some)))))
    (λ k. omega arith)
    (order m n))
    (order n m)

no-character : (n : ℕ) → IsCharacter (take n []) → ⊥
no-character zero h = h
no-character (suc n) h = h

-- at most one text stands for bytes
pub once : {bs text other : List ℕ} → StandsFor bs text → StandsFor bs other → text ≡ other
once nothing nothing = refl
once nothing (character bytes text n h s) = absurd (no-character n h)
once nothing (replaced bytes text n h s) = absurd (omega (arith, h.some, h.within))
once (character bytes text n h s) nothing = absurd (no-character n h)
once (character bytes text n h s) (character bytes' text' m k t) =
    let same = same-character bytes n m h k in
    (λ i. same.0 i ++ once s (subst (λ x. StandsFor x text') (sym same.1) t) i)
once (character bytes text n h s) (replaced bytes' text' m k t) = absurd (k.none n h)
once (replaced bytes text n h s) nothing = absurd (omega (arith, h.some, h.within))
once (replaced bytes text n h s) (character bytes' text' m k t) = absurd (h.none m k)
once (replaced bytes text n h s) (replaced bytes' text' m k t) =
    let same = same-part bytes n m h k in
    ap (λ x. 0xEF ∷ 0xBF ∷ 0xBD ∷ x) (once s (subst (λ x. StandsFor (drop x bytes) text') (sym same) t))
