-- The order of texts by their bytes.
use Rattle.std.proofs.Common.{◌≡◌, true, false, [], ◌∷◌, arith, refl}
use Rattle.std.specs.declared.cmp.Ordering.{Ordering}
use Rattle.std.specs.Ordering.{nat_cmp, is_lt, is_gt, is_eq}
use Rattle.std.specs.Cmp.Lexicographic.{slice_cmp}
use Rattle.std.proofs.lemmas.Cmp.{same_from_slice_cmp}
use Rattle.std.proofs.lemmas.Bool.Decides.{nat_tests}
use Rattle.std.specs.Cmp.Lexicographic.{pointwise}
use Rattle.std.proofs.Common.{eqb, ap}
use Rattle.std.specs.Prelude.{◌&&◌}
use Rattle.vx_value.specs.Texts.{ByteString, text_lt, same_text}

-- what `cmp` tells of the tests
pub answer_less : (a b : ByteString) (o : Ordering) → o ≡ slice_cmp nat_cmp a b → is_lt o ≡ text_lt a b
answer_less = same_from_slice_cmp nat_cmp is_lt text_lt refl (λ _ _. refl) (λ _ _. refl) (λ x y xs ys o h. grind (arith, nat_tests))

pub observed_same : (a b : ByteString) (o : Ordering) → o ≡ slice_cmp nat_cmp a b → is_eq o ≡ same_text a b
observed_same = same_from_slice_cmp nat_cmp is_eq same_text refl (λ _ _. refl) (λ _ _. refl) (λ x y xs ys o h. grind (arith, nat_tests))

pub answer_more : (a b : ByteString) (o : Ordering) → o ≡ slice_cmp nat_cmp a b → is_gt o ≡ text_lt b a
answer_more =
    same_from_slice_cmp nat_cmp is_gt (λ xs ys. text_lt ys xs) refl (λ _ _. refl) (λ _ _. refl) (λ x y xs ys o h. grind (arith, nat_tests))

-- equal texts are the same
pub same_text-true : (a b : ByteString) → same_text a b ≡ true → a ≡ b
same_text-true [] [] h = refl
same_text-true [] (y ∷ b) h = grind arith
same_text-true (x ∷ a) [] h = grind arith
same_text-true (x ∷ a) (y ∷ b) h = grind (arith, nat_tests, same_text-true a b)

pub same_text-refl : (a : ByteString) → same_text a a ≡ true
same_text-refl [] = refl
same_text-refl (x ∷ a) = grind (arith, nat_tests, same_text-refl a)

-- a lesser text isn't the same, either way
pub less_not_same : (a b : ByteString) → text_lt a b ≡ true → same_text a b ≡ false
less_not_same a [] h = grind arith
less_not_same [] (y ∷ b) h = refl
less_not_same (x ∷ a) (y ∷ b) h = grind (arith, nat_tests, less_not_same a b)

pub less_not_same' : (a b : ByteString) → text_lt a b ≡ true → same_text b a ≡ false
less_not_same' a [] h = grind arith
less_not_same' [] (y ∷ b) h = refl
less_not_same' (x ∷ a) (y ∷ b) h = grind (arith, nat_tests, less_not_same' a b)

-- a lesser text isn't greater
pub less_not_more : (a b : ByteString) → text_lt a b ≡ true → text_lt b a ≡ false
less_not_more a [] h = grind arith
less_not_more [] (y ∷ b) h = refl
less_not_more (x ∷ a) (y ∷ b) h = grind (arith, nat_tests, less_not_more a b)

pub text_lt-trans : (a b c : ByteString) → text_lt a b ≡ true → text_lt b c ≡ true → text_lt a c ≡ true
text_lt-trans a [] c h k = grind arith
text_lt-trans a (y ∷ b) [] h k = grind arith
text_lt-trans [] (y ∷ b) (z ∷ c) h k = refl
text_lt-trans (x ∷ a) (y ∷ b) (z ∷ c) h k = grind (arith, nat_tests, text_lt-trans a b c)

-- of two texts one is less, or they are the same
pub less_or : (a b : ByteString) → text_lt a b ≡ false → same_text a b ≡ false → text_lt b a ≡ true
less_or [] [] h k = grind arith
less_or (x ∷ a) [] h k = refl
less_or [] (y ∷ b) h k = grind arith
less_or (x ∷ a) (y ∷ b) h k = grind (arith, nat_tests, less_or a b)

-- `==` on texts tells whether they are the same
pub answer_equal : (a b : ByteString) → pointwise eqb a b ≡ same_text a b
answer_equal [] [] = refl
answer_equal [] (y ∷ b) = refl
answer_equal (x ∷ a) [] = refl
answer_equal (x ∷ a) (y ∷ b) = ap (λ t. eqb x y && t) (answer_equal a b)
