-- What a test chose.
use Rattle.std.proofs.Common.{◌≡◌, ℕ, ◌<◌, ◌≤◌, Bool, true, false, cond, ◌&&◌, ◌==◌, nat_lt, nat_le, ◌⊎◌, inl, inr, refl, arith}
use Rattle.std.proofs.lemmas.Bool.Decides.{nat_tests}

-- a choice, by which way its test went
pub chosen : {A : Type 0} (P : A → Type 0) (t : Bool) (x y : A) → P (cond t x y) → ((t ≡ true) × P x) ⊎ ((t ≡ false) × P y)
chosen P true x y h = inl (refl, h)
chosen P false x y h = inr (refl, h)

-- what follows from both ways of a choice
pub choice : {A R : Type 0} (P : A → Type 0) (t : Bool) (x y : A) → P (cond t x y) → (t ≡ true → P x → R) → (t ≡ false → P y → R) → R
choice P true x y h f g = f refl h
choice P false x y h f g = g refl h

pub both_true : (a b : Bool) → a && b ≡ true → (a ≡ true) × (b ≡ true)
both_true true true h = (refl, refl)
both_true true false h = cc
both_true false b h = cc

pub and_true : (a b : Bool) → a ≡ true → b ≡ true → a && b ≡ true
and_true true true h k = refl
and_true true false h k = k
and_true false b h k = h

-- what tests on numbers tell
pub eq_of : (a b : ℕ) → (a == b) ≡ true → a ≡ b
eq_of a b h = grind (arith, nat_tests)

pub ne_of : (a b : ℕ) → (a == b) ≡ false → a ≡ b → ⊥
ne_of a b h = grind (arith, nat_tests)

pub lt_of : (a b : ℕ) → nat_lt a b ≡ true → a < b
lt_of a b h = grind (arith, nat_tests)

pub ge_of : (a b : ℕ) → nat_lt a b ≡ false → b ≤ a
ge_of a b h = grind (arith, nat_tests)

pub le_of : (a b : ℕ) → nat_le a b ≡ true → a ≤ b
le_of a b h = grind (arith, nat_tests)

pub gt_of : (a b : ℕ) → nat_le a b ≡ false → b < a
gt_of a b h = grind (arith, nat_tests)

pub range_of : (low high b : ℕ) → (nat_le low b && nat_le b high) ≡ true → (low ≤ b) × (b ≤ high)
range_of low high b h = let k = both_true _ _ h in (le_of low b k.0, le_of b high k.1)
