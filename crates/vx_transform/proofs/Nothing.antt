-- Where two lists together are empty, so is each.
use Rattle.std.proofs.Common.{◌≡◌, List, [], ◌∷◌, ◌++◌, refl}

pub none_before : {A : Type 0} (xs ys : List A) → xs ++ ys ≡ [] → xs ≡ []
none_before [] ys e = refl
none_before (x ∷ xs) ys e = cc

pub none_behind : {A : Type 0} (xs ys : List A) → xs ++ ys ≡ [] → ys ≡ []
none_behind [] ys e = e
none_behind (x ∷ xs) ys e = cc
