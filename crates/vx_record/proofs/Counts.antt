-- How often a number stands in lists that are made of others.
use Rattle.std.proofs.Common.{◌≡◌, ℕ, zero, suc, ◌+◌, ◌<◌, ◌≤◌, length, List, [], ◌∷◌, ◌++◌, sym, refl, arith, replicate}
use Rattle.std.proofs.lemmas.Bool.Decides.{nat_tests}
use Rattle.std.proofs.lemmas.List.{length-append, length-replicate}
use Rattle.vx_record.specs.Copies.{count, counting}
use Rattle.vx_record.specs.Places.{Place, Put, Kind, kind}
use Rattle.vx_record.specs.Places.Kind.{AnOutput, AChild, AStage, AHold}
use Rattle.vx_record.specs.Lists.{without, unless_empty, standing, places_in}

pub count-append : (c : ℕ) (xs ys : List ℕ) → count c (xs ++ ys) ≡ count c xs + count c ys
count-append c [] ys = omega arith
count-append c (x ∷ xs) ys = let e = count-append c xs ys in omega arith

pub counting_before : (c from n : ℕ) → c < from → count c (counting from n) ≡ 0
counting_before c from zero l = refl
counting_before c from (suc n) l = let e = counting_before c (from + 1) n (omega arith) in grind (arith, nat_tests)

pub counting_within : (c from n : ℕ) → from ≤ c → c < from + n → count c (counting from n) ≡ 1
counting_within c from zero l u = absurd (omega arith)
counting_within c from (suc n) l u =
    let first = counting_before c (from + 1) n in
    let later = counting_within c (from + 1) n in
    grind (arith, nat_tests)

pub counting_after : (c from n : ℕ) → from + n ≤ c → count c (counting from n) ≡ 0
counting_after c from zero l = refl
counting_after c from (suc n) l = let e = counting_after c (from + 1) n (omega arith) in grind (arith, nat_tests)

-- n, unless there is something of the other
abbrev pub unless : ℕ → ℕ → ℕ
unless zero n = n
unless (suc m) n = 0

pub unless-none : (m n : ℕ) → m ≡ 0 → unless m n ≡ n
unless-none zero n e = refl
unless-none (suc m) n e = absurd (omega arith)

pub unless-some : (m n : ℕ) → 0 < m → unless m n ≡ 0
unless-some zero n e = absurd (omega arith)
unless-some (suc m) n e = refl

pub unless-add : (m n k : ℕ) → unless m (n + k) ≡ unless m n + unless m k
unless-add zero n k = refl
unless-add (suc m) n k = refl

pub unless-zero : (m : ℕ) → unless m 0 ≡ 0
unless-zero zero = refl
unless-zero (suc m) = refl

pub count-without : (c : ℕ) (gone xs : List ℕ) → count c (without gone xs) ≡ unless (count c gone) (count c xs)
count-without c gone [] = sym (unless-zero (count c gone))
count-without c gone (x ∷ xs) =
    let e = count-without c gone xs in
    let a = unless-none (count c gone) (count c xs) in
    let b = unless-some (count c gone) (count c xs) in
    let a' = unless-none (count c gone) (count c (x ∷ xs)) in
    let b' = unless-some (count c gone) (count c (x ∷ xs)) in
    grind (arith, nat_tests)

pub length-unless_empty : (c : ℕ) (p : Place) (cs : List ℕ) (rest : List Put) →
    length (places_in (unless_empty p cs rest) c) ≡ count c cs + length (places_in rest c)
length-unless_empty c p [] rest = omega arith
length-unless_empty c p (x ∷ xs) rest =
    omega (arith, length-append (replicate (count c (x ∷ xs)) p) (places_in rest c), length-replicate (count c (x ∷ xs)) p)

-- n, if the kinds are the same
abbrev pub only : Kind → Kind → ℕ → ℕ
only AnOutput AnOutput n = n
only AChild AChild n = n
only AStage AStage n = n
only AHold AHold n = n
only k l n = 0

pub only-zero : (k l : Kind) → only k l 0 ≡ 0
only-zero AnOutput AnOutput = refl
only-zero AChild AChild = refl
only-zero AStage AStage = refl
only-zero AHold AHold = refl
only-zero k l = refl

pub only-add : (k l : Kind) (m n : ℕ) → only k l (m + n) ≡ only k l m + only k l n
only-add AnOutput AnOutput m n = refl
only-add AChild AChild m n = refl
only-add AStage AStage m n = refl
only-add AHold AHold m n = refl
only-add k l m n = refl

-- how often a copy was put into the places of a kind
abbrev pub put_count : Kind → List Put → ℕ → ℕ
put_count k [] c = 0
put_count k (put ∷ rest) c = only k (kind put.place) (count c put.copies) + put_count k rest c

pub put_count-append : (k : Kind) (c : ℕ) (xs ys : List Put) → put_count k (xs ++ ys) c ≡ put_count k xs c + put_count k ys c
put_count-append k c [] ys = omega arith
put_count-append k c (x ∷ xs) ys = let e = put_count-append k c xs ys in omega arith

-- how often a copy stands in the places of a kind
abbrev pub stand_count : Kind → (Kind → List ℕ) → List Put → ℕ → ℕ
stand_count k gone puts c = unless (count c (gone k)) (put_count k puts c)

abbrev pub in_all : (Kind → List ℕ) → List Put → ℕ → ℕ
in_all gone puts c =
    stand_count AnOutput gone puts c + stand_count AChild gone puts c + stand_count AStage gone puts c
    + stand_count AHold gone puts c

in_all-cons : (gone : Kind → List ℕ) (k : Kind) (n w x y z : ℕ) (c : ℕ) →
    unless (count c (gone AnOutput)) (only AnOutput k n + w) + unless (count c (gone AChild)) (only AChild k n + x)
    + unless (count c (gone AStage)) (only AStage k n + y) + unless (count c (gone AHold)) (only AHold k n + z)
    ≡ unless (count c (gone k)) n
    + (unless (count c (gone AnOutput)) w + unless (count c (gone AChild)) x + unless (count c (gone AStage)) y
    + unless (count c (gone AHold)) z)
in_all-cons gone AnOutput n w x y z c = simp (unless-add, unless-zero) (omega arith)
in_all-cons gone AChild n w x y z c = simp (unless-add, unless-zero) (omega arith)
in_all-cons gone AStage n w x y z c = simp (unless-add, unless-zero) (omega arith)
in_all-cons gone AHold n w x y z c = simp (unless-add, unless-zero) (omega arith)

pub length-places_in : (c : ℕ) (gone : Kind → List ℕ) (puts : List Put) →
    length (places_in (standing gone puts) c) ≡ in_all gone puts c
length-places_in c gone [] = simp unless-zero
length-places_in c gone (put ∷ rest) =
    let e = length-places_in c gone rest in
    let f = length-unless_empty c put.place (without (gone (kind put.place)) put.copies) (standing gone rest) in
    let w = count-without c (gone (kind put.place)) put.copies in
    let a = in_all-cons gone (kind put.place) (count c put.copies) (put_count AnOutput rest c) (put_count AChild rest c)
    (put_count AStage rest c) (put_count AHold rest c) c in
    omega arith
