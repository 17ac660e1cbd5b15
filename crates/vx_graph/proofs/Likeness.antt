-- How a pattern is compared with a text: over what they share up to a `*`, and from the earliest place behind it.
use Rattle.std.proofs.Common.{◌≡◌, ◌⊎◌, ℕ, ◌+◌, ◌≤◌, zero, suc, Bool, true, false, ◌==◌, ◌&&◌, ◌||◌, not, [], ◌∷◌, length, drop, refl, sym, ap, ◌∙◌, subst, inl, inr, arith, if◌then◌else◌}
use Rattle.std.proofs.lemmas.Bool.{false≢true}
use Rattle.std.proofs.lemmas.Bool.Decides.{eqb_tells}
use Rattle.std.proofs.lemmas.List.{drop-drop, length-drop, drop_all}
use Rattle.std.specs.List.{list_any}
use Rattle.vx_value.specs.Texts.{ByteString, is_empty}
use Rattle.vx_graph.specs.Patterns.{star, ends, behind, is_like, shared, some_end, starts}

-- a byte that isn't `*` is itself
pub literal : (c d : ℕ) (p t : ByteString) → ((c == d) && not (c == star)) ≡ true → is_like (c ∷ p) (d ∷ t) ≡ is_like p t
literal c d p t h =
    elim (eqb_tells c star) [
      | inl s ↦ absurd (false≢true (both_false c d s.0 ∙ h))
      | inr s ↦ elim (eqb_tells c d) [
        | inl e ↦ ap (λ z. list_any (is_like p) (if z then ends (d ∷ t) else behind c (d ∷ t))) s.0
            ∙ ap (λ z. list_any (is_like p) (if z then t ∷ [] else [])) e.0
            ∙ or_false (is_like p t)
        | inr e ↦ absurd (false≢true (ap (λ z. z && not (c == star)) (sym e.0) ∙ h))
      ]
    ]
  where
    both_false : (c d : ℕ) → (c == star) ≡ true → false ≡ ((c == d) && not (c == star))
    both_false c d s = elim (eqb_tells c d) [
      | inl e ↦ sym (ap (λ z. z && not (c == star)) e.0 ∙ ap not s)
      | inr e ↦ sym (ap (λ z. z && not (c == star)) e.0)
    ]

    or_false : (b : Bool) → (b || false) ≡ b
    or_false true = refl
    or_false false = refl

-- a test's answer
pub which : (b : Bool) → (b ≡ true) ⊎ (b ≡ false)
which true = inl refl
which false = inr refl

-- what is shared counts for nothing
pub shared_off : (p t : ByteString) → is_like p t ≡ is_like (drop (shared p t) p) (drop (shared p t) t)
shared_off [] t = refl
shared_off (c ∷ p) [] = refl
shared_off (c ∷ p) (d ∷ t) =
    elim (which ((c == d) && not (c == star))) [
      | inl h ↦ literal c d p t h ∙ shared_off p t
          ∙ ap (λ b. is_like (drop (if b then suc (shared p t) else 0) (c ∷ p)) (drop (if b then suc (shared p t) else 0) (d ∷ t))) (sym h)
      | inr h ↦ ap (λ b. is_like (drop (if b then suc (shared p t) else 0) (c ∷ p)) (drop (if b then suc (shared p t) else 0) (d ∷ t))) (sym h)
    ]

or_false_true : (b : Bool) → (b || false) ≡ true → b ≡ true
or_false_true true e = refl
or_false_true false e = e

-- an end of a text that is of the pattern's form
abbrev pub HasEnd : ByteString → ByteString → Type 0
HasEnd p t = (k : ℕ) × (k ≤ length t) × (is_like p (drop k t) ≡ true)

pub has_end : (p t : ByteString) → some_end p t ≡ true → HasEnd p t
has_end p [] h = (0, omega arith, or_false_true (is_like p []) h)
has_end p (x ∷ t) h =
    elim (which (is_like p (x ∷ t))) [
      | inl e ↦ (0, omega arith, e)
      | inr e ↦
          let later = has_end p t (ap (λ z. z || some_end p t) (sym e) ∙ h) in
          (suc later.0, omega (arith, later.1), later.2)
    ]

pub from_end : (p t : ByteString) (k : ℕ) → k ≤ length t → is_like p (drop k t) ≡ true → some_end p t ≡ true
from_end p [] zero le h = ap (λ z. z || false) h
from_end p [] (suc k) le h = absurd (omega arith)
from_end p (x ∷ t) zero le h = ap (λ z. z || some_end p t) h
from_end p (x ∷ t) (suc k) le h =
    ap (λ z. is_like p (x ∷ t) || z) (from_end p t k (omega arith) h) ∙ or_true (is_like p (x ∷ t))
  where
    or_true : (b : Bool) → (b || true) ≡ true
    or_true true = refl
    or_true false = refl

-- what follows a first byte that is no `*`, in an end that is of the pattern's form
behind_literal : (c : ℕ) (p s : ByteString) → (c == star) ≡ false → is_like (c ∷ p) s ≡ true
    → (r : ByteString) × (s ≡ c ∷ r) × (is_like p r ≡ true)
behind_literal c p [] n h = absurd (false≢true (ap (λ z. list_any (is_like p) (if z then ends [] else behind c [])) (sym n) ∙ h))
behind_literal c p (d ∷ r) n h =
    let as_behind : list_any (is_like p) (behind c (d ∷ r)) ≡ true =
    ap (λ z. list_any (is_like p) (if z then ends (d ∷ r) else behind c (d ∷ r))) (sym n) ∙ h
    in
    elim (eqb_tells c d) [
      | inl e ↦
          let one : (is_like p r || false) ≡ true = ap (λ z. list_any (is_like p) (if z then r ∷ [] else [])) (sym e.0) ∙ as_behind in
          (r, ap (λ z. z ∷ r) (sym e.1), or_false_true (is_like p r) one)
      | inr e ↦ absurd (false≢true (ap (λ z. list_any (is_like p) (if z then r ∷ [] else [])) (sym e.0) ∙ as_behind))
    ]

-- equal lists have equal rests
rest_same : (x y : ℕ) (xs ys : ByteString) → x ∷ xs ≡ y ∷ ys → xs ≡ ys
rest_same x y xs ys h = cc

-- a pattern that begins with `*` shares nothing
pub shared_star : (c : ℕ) (p t : ByteString) → (c == star) ≡ true → shared (c ∷ p) t ≡ 0
shared_star c p [] s = refl
shared_star c p (d ∷ t) s =
    ap (λ z. if (c == d) && not z then suc (shared p t) else 0) s ∙ ap (λ z. if z then suc (shared p t) else 0) (and_false (c == d))
  where
    and_false : (b : Bool) → (b && false) ≡ false
    and_false true = refl
    and_false false = refl

-- a pattern that begins with `*` is like a text with an end like the rest
star_end : (c : ℕ) (p s : ByteString) → (c == star) ≡ true → is_like (c ∷ p) s ≡ some_end p s
star_end c p s e = ap (λ z. list_any (is_like p) (if z then ends s else behind c s)) e

-- where the first byte is no `*`, the text goes on likewise or shares nothing
shared_on : (c d : ℕ) (p t rest : ByteString) → (c == star) ≡ false → drop (shared (c ∷ p) (d ∷ t)) (c ∷ p) ≡ star ∷ rest
    → (shared (c ∷ p) (d ∷ t) ≡ suc (shared p t)) × (drop (shared p t) p ≡ star ∷ rest)
shared_on c d p t rest n e =
    elim (which ((c == d) && not (c == star))) [
      | inl h ↦
          let on : shared (c ∷ p) (d ∷ t) ≡ suc (shared p t) = ap (λ b. if b then suc (shared p t) else 0) h in
          (on, ap (λ m. drop m (c ∷ p)) (sym on) ∙ e)
      | inr h ↦
          let none : c ∷ p ≡ star ∷ rest = ap (λ b. drop (if b then suc (shared p t) else 0) (c ∷ p)) (sym h) ∙ e in
          absurd (false≢true (sym n ∙ ap (λ x. x == star) (first_same c star p rest none)))
    ]
  where
    first_same : (x y : ℕ) (xs ys : ByteString) → x ∷ xs ≡ y ∷ ys → x ≡ y
    first_same x y xs ys h = cc

-- where a `*` follows what is shared, an end that is like the pattern has an end behind the `*` in what is left
pub past_star : (p t rest : ByteString) (k : ℕ) → drop (shared p t) p ≡ star ∷ rest → k ≤ length t → is_like p (drop k t) ≡ true
    → HasEnd rest (drop (shared p t) t)
past_star [] t rest k e le h = absurd (cc)
past_star (c ∷ p) t rest k e le h =
    elim (which (c == star)) [
      | inl s ↦ at_star c p t rest k s e le h
      | inr n ↦
          let (r, is, like) = behind_literal c p (drop k t) n h in
          at_literal c p t rest k r n e le is like (λ u m. past_star p u rest m)
    ]
  where
    at_star : (c : ℕ) (p t rest : ByteString) (k : ℕ) → (c == star) ≡ true → drop (shared (c ∷ p) t) (c ∷ p) ≡ star ∷ rest → k ≤ length t
        → is_like (c ∷ p) (drop k t) ≡ true → HasEnd rest (drop (shared (c ∷ p) t) t)
    at_star c p t rest k s e le h =
        let none : shared (c ∷ p) t ≡ 0 = shared_star c p t s in
        let same : c ∷ p ≡ star ∷ rest = ap (λ m. drop m (c ∷ p)) (sym none) ∙ e in
        let some = has_end p (drop k t) (sym (star_end c p (drop k t) s) ∙ h) in
        let like : is_like rest (drop (k + some.0) t) ≡ true =
        ap (λ x. is_like x (drop (k + some.0) t)) (rest_same star c rest p (sym same))
        ∙ ap (is_like p) (sym (drop-drop some.0 k t)) ∙ some.2
        in
        subst (λ m. HasEnd rest (drop m t)) (sym none) (k + some.0, omega (arith, some.1, length-drop k t), like)

    at_literal : (c : ℕ) (p t rest : ByteString) (k : ℕ) (r : ByteString) → (c == star) ≡ false → drop (shared (c ∷ p) t) (c ∷ p) ≡ star ∷ rest → k ≤ length t
        → drop k t ≡ c ∷ r → is_like p r ≡ true
        → ((u : ByteString) (m : ℕ) → drop (shared p u) p ≡ star ∷ rest → m ≤ length u → is_like p (drop m u) ≡ true → HasEnd rest (drop (shared p u) u))
        → HasEnd rest (drop (shared (c ∷ p) t) t)
    at_literal c p [] rest k r n e le is like on = absurd (omega (arith, ap length is, length-drop {A = ℕ} k []))
    at_literal c p (d ∷ t) rest zero r n e le is like on =
        let more = shared_on c d p t rest n e in
        let like' : is_like p t ≡ true = ap (is_like p) (rest_same d c t r is) ∙ like in
        subst (λ m. HasEnd rest (drop m (d ∷ t))) (sym more.0) (on t 0 more.1 (omega arith) like')
    at_literal c p (d ∷ t) rest (suc m) r n e le is like on =
        let more = shared_on c d p t rest n e in
        let behind_it : drop (m + 1) t ≡ r = sym (drop-drop 1 m t) ∙ ap (drop 1) is in
        let like' : is_like p (drop (m + 1) t) ≡ true = ap (is_like p) behind_it ∙ like in
        subst (λ k. HasEnd rest (drop k (d ∷ t))) (sym more.0)
        (on t (m + 1) more.1 (omega (arith, ap length is, length-drop m t)) like')

-- nothing is shared with nothing
shared_nil : (p : ByteString) → shared p [] ≡ 0
shared_nil [] = refl
shared_nil (c ∷ p) = refl

pub shared_none : (p t : ByteString) (n : ℕ) → length t ≤ n → shared (drop n p) (drop n t) ≡ 0
shared_none p t n h = ap (shared (drop n p)) (drop_all n t h) ∙ shared_nil (drop n p)

-- at a `*` behind what is shared, only what is left counts, and each earlier place may be forgotten
pub like_at_star : (p t rest : ByteString) → drop (shared p t) p ≡ star ∷ rest → is_like p t ≡ some_end rest (drop (shared p t) t)
like_at_star p t rest e =
    shared_off p t ∙ ap (λ q. is_like q (drop (shared p t) t)) e ∙ star_end star rest (drop (shared p t) t) refl

pub end_at_star : (p t rest : ByteString) → drop (shared p t) p ≡ star ∷ rest → some_end p t ≡ some_end rest (drop (shared p t) t)
end_at_star p t rest e =
    elim (which (some_end p t)) [
      | inl found ↦
          let (k, le, like) = has_end p t found in
          let (j, le', like') = past_star p t rest k e le like in
          found ∙ sym (from_end rest (drop (shared p t) t) j le' like')
      | inr none ↦
          elim (which (some_end rest (drop (shared p t) t))) [
            | inl found ↦ absurd (false≢true (sym none ∙ from_end p t 0 (omega arith) (like_at_star p t rest e ∙ found)))
            | inr none' ↦ none ∙ sym none'
          ]
    ]

-- where neither a `*` nor the end of both follows what is shared, the text is not of the pattern's form
pub differs : (c d : ℕ) (p t : ByteString) → (c == star) ≡ false → ((c == d) && not (c == star)) ≡ false → is_like (c ∷ p) (d ∷ t) ≡ false
differs c d p t n h =
    let apart : (c == d) ≡ false = and_true (c == d) (ap (λ z. (c == d) && not z) (sym n) ∙ h) in
    ap (λ z. list_any (is_like p) (if z then ends (d ∷ t) else behind c (d ∷ t))) n
    ∙ ap (λ z. list_any (is_like p) (if z then t ∷ [] else [])) apart
  where
    and_true : (b : Bool) → (b && true) ≡ false → b ≡ false
    and_true true e = e
    and_true false e = refl

pub unlike : (p t : ByteString) → starts star (drop (shared p t) p) ≡ false
    → (is_empty (drop (shared p t) p) && is_empty (drop (shared p t) t)) ≡ false → is_like p t ≡ false
unlike [] [] n h = h
unlike [] (x ∷ t) n h = refl
unlike (c ∷ p) [] n h = ap (λ z. list_any (is_like p) (if z then ends [] else behind c [])) n
unlike (c ∷ p) (d ∷ t) n h =
    elim (which ((c == d) && not (c == star))) [
      | inl on ↦
          let more : shared (c ∷ p) (d ∷ t) ≡ suc (shared p t) = ap (λ b. if b then suc (shared p t) else 0) on in
          literal c d p t on
          ∙ unlike p t (ap (λ m. starts star (drop m (c ∷ p))) (sym more) ∙ n)
          (ap (λ m. is_empty (drop m (c ∷ p)) && is_empty (drop m (d ∷ t))) (sym more) ∙ h)
      | inr off ↦
          let none : shared (c ∷ p) (d ∷ t) ≡ 0 = ap (λ b. if b then suc (shared p t) else 0) off in
          differs c d p t (ap (λ m. starts star (drop m (c ∷ p))) (sym none) ∙ n) off
    ]

-- the next end
pub end_next : (p t : ByteString) (x : ℕ) → is_like p (x ∷ t) ≡ false → some_end p (x ∷ t) ≡ some_end p t
end_next p t x h = ap (λ z. z || some_end p t) h

pub end_last : (p : ByteString) → is_like p [] ≡ false → some_end p [] ≡ false
end_last p h = ap (λ z. z || false) h

-- where both end, the text is of the pattern's form
both_end : (x y : ByteString) → (is_empty x && is_empty y) ≡ true → is_like x y ≡ true
both_end [] y h = h
both_end (c ∷ x) y h = absurd (false≢true h)

pub like_end : (p t : ByteString) → (is_empty (drop (shared p t) p) && is_empty (drop (shared p t) t)) ≡ true → is_like p t ≡ true
like_end p t h = shared_off p t ∙ both_end (drop (shared p t) p) (drop (shared p t) t) h

-- one turn of the comparison: the answer, by whether a `*` came before
abbrev pub answer : Bool → ByteString → ByteString → Bool
answer starred p t = if starred then some_end p t else is_like p t

pub turn_star : (starred : Bool) (p t rest : ByteString) → drop (shared p t) p ≡ star ∷ rest
    → answer starred p t ≡ answer true rest (drop (shared p t) t)
turn_star true p t rest e = end_at_star p t rest e
turn_star false p t rest e = like_at_star p t rest e

pub turn_end : (starred : Bool) (p t : ByteString) → is_like p t ≡ true → answer starred p t ≡ true
turn_end true p t e = from_end p t 0 (omega arith) e
turn_end false p t e = e

pub turn_on : (p t rest : ByteString) (x : ℕ) → is_like p t ≡ false → t ≡ x ∷ rest → answer true p t ≡ answer true p rest
turn_on p t rest x off e = ap (some_end p) e ∙ end_next p rest x (ap (is_like p) (sym e) ∙ off)

pub turn_out : (starred : Bool) (p t : ByteString) → is_like p t ≡ false → t ≡ [] → answer starred p t ≡ false
turn_out true p t off e = ap (some_end p) e ∙ end_last p (ap (is_like p) (sym e) ∙ off)
turn_out false p t off e = off

pub ruleset compared = (unlike, like_end)

pub ruleset turns = (turn_star, turn_end, turn_on, turn_out)
