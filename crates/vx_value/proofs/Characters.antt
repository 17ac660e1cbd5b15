-- The rows of characters, and the codes that `encode` spells.
use Rattle.std.proofs.Common.{◌≡◌, ℕ, ◌+◌, ◌-◌, ◌*◌, ◌/◌, ◌<◌, ◌≤◌, ◌⊎◌, true, List, [], ◌∷◌, arith, sym, ◌∙◌, subst, inl, inr, ⊎_elim}
use lib.Utf8.{scalar, encode, next, low_scalar, scalar_cases}
use Rattle.std.proofs.str.Digits.{high_scalar}
use Rattle.std.proofs.str.Laws.{order, one, two, three, four}
use Rattle.std.specs.Int.{IsInRange}
use Rattle.vx_value.specs.Replacement.{GoesOn, BeginThree, BeginFour, IsCharacter}

-- the code of a character
abbrev pub Codes : List ℕ → Type 0
Codes bytes = (x : ℕ) × (scalar x ≡ true) × (encode x ≡ bytes)

codes-one : (a : ℕ) → IsInRange 0x00 0x7F a → Codes (a ∷ [])
codes-one a h = (a, low_scalar a (omega arith), one a (omega arith))

codes-two : (a b : ℕ) → IsInRange 0xC2 0xDF a → GoesOn b → Codes (a ∷ b ∷ [])
codes-two a b h f =
    let x = (a - 192) * 64 + (b - 128) in
    let p : a ≡ 192 + x / 64 = omega arith in
    let q : b ≡ next x = omega arith in
    (x, low_scalar x (omega arith), two x (omega arith) (omega arith) ∙ sym (λ k. p k ∷ q k ∷ []))

codes-three : (a b c : ℕ) → IsInRange 0xE0 0xEF a → GoesOn b → GoesOn c
    → let x = (a - 224) * 4096 + (b - 128) * 64 + (c - 128) in 2048 ≤ x → (x < 55296) ⊎ (57344 ≤ x) → Codes (a ∷ b ∷ c ∷ [])
codes-three a b c h f g least s =
    let x = (a - 224) * 4096 + (b - 128) * 64 + (c - 128) in
    let p : a ≡ 224 + x / 4096 = omega arith in
    let q : b ≡ next (x / 64) = omega arith in
    let r : c ≡ next x = omega arith in (
      x,
      ⊎_elim (λ l. low_scalar x l) (λ u. high_scalar x (omega arith) u (omega arith)) s,
      three x least (omega arith) ∙ sym (λ k. p k ∷ q k ∷ r k ∷ []),
    )

codes-four : (a b c d : ℕ) → 0xF0 ≤ a → GoesOn b → GoesOn c → GoesOn d
    → let high = (a - 240) * 64 + (b - 128) in (16 ≤ high) × (high < 272) → Codes (a ∷ b ∷ c ∷ d ∷ [])
codes-four a b c d h f g j within =
    let x = (a - 240) * 262144 + (b - 128) * 4096 + (c - 128) * 64 + (d - 128) in
    let p : a ≡ 240 + x / 262144 = omega arith in
    let q : b ≡ next (x / 4096) = omega arith in
    let e : x / 64 ≡ (a - 240) * 4096 + (b - 128) * 64 + (c - 128) = omega arith in
    let r : c ≡ next (x / 64) = subst (λ (m : ℕ). c ≡ next m) (sym e) (omega arith) in
    let t : d ≡ next x = omega arith in
    (x, high_scalar x (omega arith) (omega arith) (omega arith), four x (omega arith) ∙ sym (λ k. p k ∷ q k ∷ r k ∷ t k ∷ []))

-- each row has codes
pub code_of : (bytes : List ℕ) → IsCharacter bytes → Codes bytes
code_of [] h = absurd h
code_of (a ∷ []) h = codes-one a h
code_of (a ∷ b ∷ []) h = codes-two a b h.0 h.1
code_of (a ∷ b ∷ c ∷ []) h = ⊎_elim
    (λ k. codes-three a b c (omega arith) (omega arith) h.1 (omega arith) (inl (omega arith)))
    (λ k. ⊎_elim
    (λ k. codes-three a b c (omega arith) (omega arith) h.1 (omega arith) (inl (omega arith)))
    (λ k. ⊎_elim
    (λ k. codes-three a b c (omega arith) (omega arith) h.1 (omega arith) (inl (omega arith)))
    (λ k. codes-three a b c (omega arith) (omega arith) h.1 (omega arith) (inr (omega arith)))
    k) k) h.0
code_of (a ∷ b ∷ c ∷ d ∷ []) h = ⊎_elim
    (λ k. codes-four a b c d (omega arith) (omega arith) h.1 h.2 (omega arith, omega arith))
    (λ k. ⊎_elim
    (λ k. codes-four a b c d (omega arith) (omega arith) h.1 h.2 (omega arith, omega arith))
    (λ k. codes-four a b c d (omega arith) (omega arith) h.1 h.2 (omega arith, omega arith))
    k) h.0
code_of (a ∷ b ∷ c ∷ d ∷ e ∷ more) h = absurd h

-- the rows of each first byte
pub begin-three : (a b : ℕ) → IsInRange 0xE0 0xEF a → GoesOn b → (a ≡ 0xE0 → 0xA0 ≤ b) → (a ≡ 0xED → b ≤ 0x9F) → BeginThree a b
begin-three a b h f low high = ⊎_elim
    (λ p. let is : a ≡ 0xE0 = omega arith in inl ((omega arith, omega arith), (low is, omega arith)))
    (λ p. ⊎_elim
    (λ q. inr (inl ((omega arith, omega arith), f)))
    (λ q. ⊎_elim
    (λ r. let is : a ≡ 0xED = omega arith in inr (inr (inl ((omega arith, omega arith), (omega arith, high is)))))
    (λ r. inr (inr (inr ((omega arith, omega arith), f))))
    (order a 0xEE))
    (order a 0xED))
    (order a 0xE1)

pub begin-four : (a b : ℕ) → IsInRange 0xF0 0xF4 a → GoesOn b → (a ≡ 0xF0 → 0x90 ≤ b) → (a ≡ 0xF4 → b ≤ 0x8F) → BeginFour a b
begin-four a b h f low high = ⊎_elim
    (λ p. let is : a ≡ 0xF0 = omega arith in inl ((omega arith, omega arith), (low is, omega arith)))
    (λ p. ⊎_elim
    (λ q. inr (inl ((omega arith, omega arith), f)))
    (λ q. let is : a ≡ 0xF4 = omega arith in inr (inr ((omega arith, omega arith), (omega arith, high is))))
    (order a 0xF4))
    (order a 0xF1)

row-three : (x : ℕ) → (x < 55296) ⊎ ((57344 ≤ x) × (x < 1114112)) → 2048 ≤ x → x < 65536 → BeginThree (224 + x / 4096) (next (x / 64))
row-three x (inl l) m n = begin-three (224 + x / 4096) (next (x / 64)) (omega arith, omega arith) (omega arith, omega arith) (λ e. omega arith) (λ e. omega arith)
row-three x (inr l) m n = begin-three (224 + x / 4096) (next (x / 64)) (omega arith, omega arith) (omega arith, omega arith) (λ e. omega arith) (λ e. omega arith)

row-four : (x : ℕ) → (x < 55296) ⊎ ((57344 ≤ x) × (x < 1114112)) → 65536 ≤ x → BeginFour (240 + x / 262144) (next (x / 4096))
row-four x (inl l) n = absurd (omega arith)
row-four x (inr l) n = begin-four (240 + x / 262144) (next (x / 4096)) (omega arith, omega arith) (omega arith, omega arith) (λ e. omega arith) (λ e. omega arith)

-- each code is in a row
pub row_of : (x : ℕ) → scalar x ≡ true → IsCharacter (encode x)
row_of x s = ⊎_elim
    (λ l. subst IsCharacter (sym (one x l)) (omega arith, omega arith))
    (λ l. ⊎_elim
    (λ m. subst IsCharacter (sym (two x l m)) ((omega arith, omega arith), (omega arith, omega arith)))
    (λ m. ⊎_elim
    (λ n. subst IsCharacter (sym (three x m n)) (row-three x (scalar_cases x s) m n, (omega arith, omega arith)))
    (λ n. subst IsCharacter (sym (four x n)) (row-four x (scalar_cases x s) n, (omega arith, omega arith), (omega arith, omega arith)))
    (order x 65536))
    (order x 2048))
    (order x 128)
