-- How many bytes one U+FFFD stands for, by the rows of characters.
use Rattle.std.proofs.Common.{◌≡◌, ℕ, zero, suc, ◌<◌, ◌≤◌, Bool, true, false, cond, Option, Some, None, List, [], ◌⊎◌, inl, inr, ◌∷◌, ◌++◌, length, take, arith, refl, sym, subst, ⊎_elim, nat_lt, ◌==◌}
use Rattle.std.specs.Prelude.{unwrap_or, MatchBool}
use Rattle.std.specs.Int.{IsInRange, IsOutOfRange, is_in_range}
use Rattle.std.specs.Str.Lossy.{second_byte_min, second_byte_max, error_len_after_two, error_len_of_some, utf8_invalid_len}
use Rattle.std.proofs.lemmas.Bool.{eqb-true, ltb-true}
use Rattle.std.proofs.str.Lossy.{utf8_error_len_some}
use Rattle.std.proofs.str.Classes.{range}
use Rattle.std.proofs.str.Laws.{order}
use Rattle.vx_value.specs.Replacement.{GoesOn, BeginThree, BeginFour, IsCharacter, IsBeginning, IsIllFormed}
use Rattle.vx_value.proofs.Characters.{begin-three, begin-four}

-- ---- what the bytes of a character say
record Second (a b : ℕ) : Type 0 where
  pub least : 0x80 ≤ b
  pub most : b ≤ 0xBF
  pub three_least : a ≡ 0xE0 → 0xA0 ≤ b
  pub three_most : a ≡ 0xED → b ≤ 0x9F
  pub four_least : a ≡ 0xF0 → 0x90 ≤ b
  pub four_most : a ≡ 0xF4 → b ≤ 0x8F

second-plain : (a b : ℕ) → GoesOn b → (a ≡ 0xE0 → ⊥) → (a ≡ 0xED → ⊥) → (a ≡ 0xF0 → ⊥) → (a ≡ 0xF4 → ⊥) → Second a b
second-plain a b f p q r s = record {
  least = f.0;
  most = f.1;
  three_least = λ e. absurd (p e);
  three_most = λ e. absurd (q e);
  four_least = λ e. absurd (r e);
  four_most = λ e. absurd (s e);
}

-- what either side of a test gives
pick : {X : Type 0} (P : X → Type 0) (t : Bool) (x y : X) → (t ≡ true → P x) → (t ≡ false → P y) → P (cond t x y)
pick P true x y f g = f refl
pick P false x y f g = g refl

second-least : (a b : ℕ) → Second a b → second_byte_min a ≤ b
second-least a b s =
    pick (λ n. n ≤ b) (a == 0xE0) 0xA0 (cond (a == 0xF0) 0x90 0x80) (λ e. s.three_least (eqb-true a 0xE0 e))
    (λ _. pick (λ n. n ≤ b) (a == 0xF0) 0x90 0x80 (λ e. s.four_least (eqb-true a 0xF0 e)) (λ _. s.least))

second-most : (a b : ℕ) → Second a b → b ≤ second_byte_max a
second-most a b s =
    pick (λ n. b ≤ n) (a == 0xED) 0x9F (cond (a == 0xF4) 0x8F 0xBF) (λ e. s.three_most (eqb-true a 0xED e))
    (λ _. pick (λ n. b ≤ n) (a == 0xF4) 0x8F 0xBF (λ e. s.four_most (eqb-true a 0xF4 e)) (λ _. s.most))

least-at : (a b : ℕ) → second_byte_min a ≤ b → (0x80 ≤ b) × (a ≡ 0xE0 → 0xA0 ≤ b) × (a ≡ 0xF0 → 0x90 ≤ b)
least-at a b p = (
  pick (λ n. n ≤ b → 0x80 ≤ b) (a == 0xE0) 0xA0 (cond (a == 0xF0) 0x90 0x80) (λ _ h. omega arith)
      (λ _. pick (λ n. n ≤ b → 0x80 ≤ b) (a == 0xF0) 0x90 0x80 (λ _ h. omega arith) (λ _ h. h)) p,
  λ e. subst (λ n. second_byte_min n ≤ b) e p,
  λ e. subst (λ n. second_byte_min n ≤ b) e p,
)

most-at : (a b : ℕ) → b ≤ second_byte_max a → (b ≤ 0xBF) × (a ≡ 0xED → b ≤ 0x9F) × (a ≡ 0xF4 → b ≤ 0x8F)
most-at a b p = (
  pick (λ n. b ≤ n → b ≤ 0xBF) (a == 0xED) 0x9F (cond (a == 0xF4) 0x8F 0xBF) (λ _ h. omega arith)
      (λ _. pick (λ n. b ≤ n → b ≤ 0xBF) (a == 0xF4) 0x8F 0xBF (λ _ h. omega arith) (λ _ h. h)) p,
  λ e. subst (λ n. b ≤ second_byte_max n) e p,
  λ e. subst (λ n. b ≤ second_byte_max n) e p,
)

from-range : (a b : ℕ) → second_byte_min a ≤ b → b ≤ second_byte_max a → Second a b
from-range a b p q =
    let low = least-at a b p in
    let high = most-at a b q in
    record {
      least = low.0;
      most = high.0;
      three_least = low.1;
      three_most = high.1;
      four_least = low.2;
      four_most = high.2;
    }

-- the first two bytes of a character, and the others
record Begins (a b : ℕ) : Type 0 where
  pub first : IsInRange 0xC2 0xF4 a
  pub second : Second a b

two-begin : (a b : ℕ) → IsInRange 0xC2 0xDF a → GoesOn b → Begins a b
two-begin a b h f = record {
  first = (omega arith, omega arith);
  second = second-plain a b f (λ e. omega arith) (λ e. omega arith) (λ e. omega arith) (λ e. omega arith);
}

more-begin : (a b : ℕ) → BeginThree a b ⊎ BeginFour a b → Begins a b
more-begin a b h = record {
  first = (omega arith, omega arith);
  second = record {
    least = omega arith;
    most = omega arith;
    three_least = λ e. omega arith;
    three_most = λ e. omega arith;
    four_least = λ e. omega arith;
    four_most = λ e. omega arith;
  };
}

begins-of : (a b : ℕ) (t : List ℕ) → IsCharacter (a ∷ b ∷ t) → Begins a b
begins-of a b [] h = two-begin a b h.0 h.1
begins-of a b (c ∷ []) h = more-begin a b (inl h.0)
begins-of a b (c ∷ d ∷ []) h = more-begin a b (inr h.0)
begins-of a b (c ∷ d ∷ e ∷ t) h = absurd h

third-of : (a b c : ℕ) (t : List ℕ) → IsCharacter (a ∷ b ∷ c ∷ t) → GoesOn c
third-of a b c [] h = h.1
third-of a b c (d ∷ []) h = h.1
third-of a b c (d ∷ e ∷ t) h = absurd h

fourth-of : (a b c d : ℕ) (t : List ℕ) → IsCharacter (a ∷ b ∷ c ∷ d ∷ t) → IsCharacter (a ∷ b ∷ c ∷ d ∷ [])
fourth-of a b c d [] h = h
fourth-of a b c d (e ∷ t) h = absurd h

-- ---- beginnings
two-goes-on : (a b : ℕ) → IsInRange 0xC2 0xF4 a → Second a b → (IsCharacter (a ∷ b ∷ []) → ⊥) → IsBeginning (a ∷ b ∷ [])
two-goes-on a b h s none = ⊎_elim
    (λ p. absurd (none ((omega arith, omega arith), (s.least, s.most))))
    (λ p. ⊎_elim
    (λ q. (0x80 ∷ [], omega arith, (begin-three a b (omega arith, omega arith) (s.least, s.most) s.three_least s.three_most, (omega arith, omega arith))))
    (λ q. (0x80 ∷ 0x80 ∷ [], omega arith, (begin-four a b (omega arith, omega arith) (s.least, s.most) s.four_least s.four_most, (omega arith, omega arith), (omega arith, omega arith))))
    (order a 0xF0))
    (order a 0xE0)

three-goes-on : (a b c : ℕ) → IsInRange 0xC2 0xF4 a → Second a b → GoesOn c → (IsCharacter (a ∷ b ∷ []) → ⊥) → (IsCharacter (a ∷ b ∷ c ∷ []) → ⊥)
    → IsBeginning (a ∷ b ∷ c ∷ [])
three-goes-on a b c h s g none no_three = ⊎_elim
    (λ p. absurd (none ((omega arith, omega arith), (s.least, s.most))))
    (λ p. ⊎_elim
    (λ q. absurd (no_three (begin-three a b (omega arith, omega arith) (s.least, s.most) s.three_least s.three_most, g)))
    (λ q. (0x80 ∷ [], omega arith, (begin-four a b (omega arith, omega arith) (s.least, s.most) s.four_least s.four_most, g, (omega arith, omega arith))))
    (order a 0xF0))
    (order a 0xE0)

-- ---- the parts
abbrev None-begin : List ℕ → Type 0
None-begin bytes = (k : ℕ) → IsCharacter (take k bytes) → ⊥

one-alone : (a : ℕ) → None-begin (a ∷ []) → IsIllFormed (a ∷ []) 1
one-alone a none = record {
  none = none;
  some = omega arith;
  within = omega arith;
  begins = λ l. absurd (omega arith);
  longest = λ k l m w. absurd (omega arith);
}

one-of : (a b : ℕ) (more : List ℕ) → None-begin (a ∷ b ∷ more) → ((t : List ℕ) → IsCharacter (a ∷ b ∷ t) → ⊥) → IsIllFormed (a ∷ b ∷ more) 1
one-of a b more none ends = record { none = none; some = omega arith; within = omega arith; begins = λ l. absurd (omega arith); longest = longer }
  where
    longer : (k : ℕ) → 1 < k → k ≤ length (a ∷ b ∷ more) → IsBeginning (take k (a ∷ b ∷ more)) → ⊥
    longer zero l m w = absurd (omega arith)
    longer (suc zero) l m w = absurd (omega arith)
    longer (suc (suc k)) l m w = ends (take k more ++ w.0) w.2

two-alone : (a b : ℕ) → None-begin (a ∷ b ∷ []) → IsBeginning (a ∷ b ∷ []) → IsIllFormed (a ∷ b ∷ []) 2
two-alone a b none goes = record {
  none = none;
  some = omega arith;
  within = omega arith;
  begins = λ l. goes;
  longest = λ k l m w. absurd (omega arith);
}

two-of : (a b c : ℕ) (more : List ℕ) → None-begin (a ∷ b ∷ c ∷ more) → IsBeginning (a ∷ b ∷ []) → ((t : List ℕ) → IsCharacter (a ∷ b ∷ c ∷ t) → ⊥)
    → IsIllFormed (a ∷ b ∷ c ∷ more) 2
two-of a b c more none goes ends = record { none = none; some = omega arith; within = omega arith; begins = λ l. goes; longest = longer }
  where
    longer : (k : ℕ) → 2 < k → k ≤ length (a ∷ b ∷ c ∷ more) → IsBeginning (take k (a ∷ b ∷ c ∷ more)) → ⊥
    longer zero l m w = absurd (omega arith)
    longer (suc zero) l m w = absurd (omega arith)
    longer (suc (suc zero)) l m w = absurd (omega arith)
    longer (suc (suc (suc k))) l m w = ends (take k more ++ w.0) w.2

three-alone : (a b c : ℕ) → None-begin (a ∷ b ∷ c ∷ []) → IsBeginning (a ∷ b ∷ c ∷ []) → IsIllFormed (a ∷ b ∷ c ∷ []) 3
three-alone a b c none goes = record {
  none = none;
  some = omega arith;
  within = omega arith;
  begins = λ l. goes;
  longest = λ k l m w. absurd (omega arith);
}

three-of : (a b c d : ℕ) (more : List ℕ) → None-begin (a ∷ b ∷ c ∷ d ∷ more) → IsBeginning (a ∷ b ∷ c ∷ []) → IsIllFormed (a ∷ b ∷ c ∷ d ∷ more) 3
three-of a b c d more none goes = record { none = none; some = omega arith; within = omega arith; begins = λ l. goes; longest = longer }
  where
    longer : (k : ℕ) → 3 < k → k ≤ length (a ∷ b ∷ c ∷ d ∷ more) → IsBeginning (take k (a ∷ b ∷ c ∷ d ∷ more)) → ⊥
    longer zero l m w = absurd (omega arith)
    longer (suc zero) l m w = absurd (omega arith)
    longer (suc (suc zero)) l m w = absurd (omega arith)
    longer (suc (suc (suc zero))) l m w = absurd (omega arith)
    longer (suc (suc (suc (suc k)))) l m w = none 4 (fourth-of a b c d (take k more ++ w.0) w.2)

-- ---- the count, test by test
in-range : (low high x : ℕ) → is_in_range low high x ≡ true → IsInRange low high x
in-range low high x e = subst (λ t. MatchBool t (IsInRange low high x) (IsOutOfRange low high x)) e (range low high x)

not-in-range : (low high x : ℕ) → is_in_range low high x ≡ false → IsInRange low high x → ⊥
not-in-range low high x e h =
    ⊎_elim (λ l. omega arith) (λ l. omega arith) (subst (λ t. MatchBool t (IsInRange low high x) (IsOutOfRange low high x)) e (range low high x))

not-second : (a b : ℕ) → is_in_range (second_byte_min a) (second_byte_max a) b ≡ false → Second a b → ⊥
not-second a b e s = not-in-range (second_byte_min a) (second_byte_max a) b e (second-least a b s, second-most a b s)

is-second : (a b : ℕ) → is_in_range (second_byte_min a) (second_byte_max a) b ≡ true → Second a b
is-second a b e = let h = in-range (second_byte_min a) (second_byte_max a) b e in from-range a b h.0 h.1

-- where some bytes are ill-formed for so many, or all
abbrev Part : List ℕ → Option ℕ → Type 0
Part bytes o = IsIllFormed bytes (unwrap_or o (length bytes))

after-two : (a b : ℕ) (more : List ℕ) → None-begin (a ∷ b ∷ more) → IsInRange 0xC2 0xF4 a → Second a b → Part (a ∷ b ∷ more) (error_len_after_two (a ∷ b ∷ more))
after-two a b [] none h s = two-alone a b none (two-goes-on a b h s (none 2))
after-two a b (c ∷ []) none h s =
    let goes = two-goes-on a b h s (none 2) in
    pick (Part (a ∷ b ∷ c ∷ [])) (is_in_range 0x80 0xBF c) None (Some 2)
    (λ e. three-alone a b c none (three-goes-on a b c h s (in-range 0x80 0xBF c e) (none 2) (none 3)))
    (λ e. two-of a b c [] none goes (λ t k. not-in-range 0x80 0xBF c e (third-of a b c t k)))
after-two a b (c ∷ d ∷ more) none h s =
    let bytes = a ∷ b ∷ c ∷ d ∷ more in
    let goes = two-goes-on a b h s (none 2) in
    pick (Part bytes) (nat_lt (length bytes) 3) None (cond (is_in_range 0x80 0xBF c) (cond (nat_lt (length bytes) 4) None (Some 3)) (Some 2))
    (λ e. let short = ltb-true (length bytes) 3 e in absurd (omega arith))
    (λ _. pick (Part bytes) (is_in_range 0x80 0xBF c) (cond (nat_lt (length bytes) 4) None (Some 3)) (Some 2)
    (λ e. pick (Part bytes) (nat_lt (length bytes) 4) None (Some 3)
    (λ l. let short = ltb-true (length bytes) 4 l in absurd (omega arith))
    (λ _. three-of a b c d more none (three-goes-on a b c h s (in-range 0x80 0xBF c e) (none 2) (none 3))))
    (λ e. two-of a b c (d ∷ more) none goes (λ t k. not-in-range 0x80 0xBF c e (third-of a b c t k))))

part-of : (bytes : List ℕ) → 0 < length bytes → None-begin bytes → Part bytes (error_len_of_some bytes)
part-of [] some none = absurd (omega arith)
part-of (a ∷ []) some none =
    pick (Part (a ∷ [])) (is_in_range 0xC2 0xF4 a) None (Some 1) (λ _. one-alone a none) (λ _. one-alone a none)
part-of (a ∷ b ∷ more) some none =
    let bytes = a ∷ b ∷ more in
    let second = cond (is_in_range (second_byte_min a) (second_byte_max a) b) (error_len_after_two bytes) (Some 1) in
    pick (Part bytes) (is_in_range 0xC2 0xF4 a) (cond (nat_lt (length bytes) 2) None second) (Some 1)
    (λ e. pick (Part bytes) (nat_lt (length bytes) 2) None second
    (λ l. let short = ltb-true (length bytes) 2 l in absurd (omega arith))
    (λ _. pick (Part bytes) (is_in_range (second_byte_min a) (second_byte_max a) b) (error_len_after_two bytes) (Some 1)
    (λ f. after-two a b more none (in-range 0xC2 0xF4 a e) (is-second a b f))
    (λ f. one-of a b more none (λ t k. not-second a b f (begins-of a b t k).second))))
    (λ e. one-of a b more none (λ t k. not-in-range 0xC2 0xF4 a e (begins-of a b t k).first))

pub ill-formed : (bytes : List ℕ) → 0 < length bytes → ((k : ℕ) → IsCharacter (take k bytes) → ⊥) → IsIllFormed bytes (utf8_invalid_len bytes)
ill-formed bytes some none = subst (Part bytes) (sym (utf8_error_len_some bytes some)) (part-of bytes some none)
