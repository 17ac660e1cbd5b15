-- Tests and lists.
use Rattle.std.proofs.Common.{◌≡◌, Bool, true, false, ◌&&◌, ◌||◌, List, [], ◌∷◌, refl, sym}
use Rattle.std.specs.Prelude.{◌↔◌}
use Rattle.vx_value.specs.Texts.{is_empty}

-- tests that hold at once are the same
pub same_tests : (a b : Bool) → (a ≡ true) ↔ (b ≡ true) → a ≡ b
same_tests true b both = sym (both.0 refl)
same_tests false true both = both.1 refl
same_tests false false both = refl

pub and_true : (a b : Bool) → b ≡ true → (a && b) ≡ a
and_true true b e = e
and_true false b e = refl

pub or_false : (a b : Bool) → b ≡ false → (a || b) ≡ a
or_false true b e = refl
or_false false b e = e

-- a list is empty where it is the empty one
pub empty_tests : {X : Type 0} (xs : List X) → (is_empty xs ≡ true) ↔ (xs ≡ [])
empty_tests [] = (λ e. refl, λ e. refl)
empty_tests (x ∷ xs) = (λ e. cc, λ e. cc)
