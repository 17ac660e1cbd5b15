-- The copies that come first in the parcels that an instance took.
use Rattle.std.proofs.Common.{◌≡◌, ℕ, ◌+◌, ◌<◌, ◌≤◌, Bool, true, false, ◌&&◌, List, [], ◌∷◌, ◌++◌, length, map, refl, arith}
use Rattle.std.specs.Prelude.{◌==◌, if◌then◌else◌}
use Rattle.std.proofs.lemmas.Bool.Decides.{nat_tests}
use Rattle.vx_record.specs.declared.child.Child.{Child}
use Rattle.vx_record.specs.declared.output.Output.{Output}
use Rattle.vx_record.specs.declared.entry.Entry.TheVariants.{Born, Split, Push, Take, Answer}
use Rattle.vx_record.specs.Records.{Record}
use Rattle.vx_record.specs.Copies.{count, all_of}
use Rattle.vx_record.specs.Places.{Place, Put, kind, all_puts, puts, one_each}
use Rattle.vx_record.specs.Places.Place.{Outputs, Waiting, Contents, Held}
use Rattle.vx_record.specs.Places.Kind.{AHold}
use Rattle.vx_record.specs.Lists.{stands, parcels_at}
use Rattle.vx_record.specs.Sending.{IsOldest}
use Rattle.vx_record.specs.Parcels.{first_copy}
use Rattle.vx_record.specs.Moving.{IsConserved}
use Rattle.vx_record.specs.Tallies.{one_if, count_puts, is_held_by, firsts_in}
use Rattle.vx_record.proofs.Counts.{count-append, only, put_count}
use Rattle.vx_record.proofs.Changes.{oldest_full}
use Rattle.vx_record.proofs.SpentParcels.{count_puts-append}

-- the parcels that an instance took and that begin with a copy
firsts_born : (i j c : ℕ) (copies : List ℕ) → count_puts (λ (put : Put). is_held_by i put.place && (c == first_copy put.copies)) (one_each (Outputs j) copies) ≡ 0
firsts_born i j c [] = refl
firsts_born i j c (d ∷ rest) = let others = firsts_born i j c rest in omega arith

firsts_split : (i j c : ℕ) (children : List Child) →
    count_puts (λ (put : Put). is_held_by i put.place && (c == first_copy put.copies)) (map (λ (child : Child). record { place = Waiting j child.target; copies = child.copies }) children) ≡ 0
firsts_split i j c [] = refl
firsts_split i j c (child ∷ rest) = let others = firsts_split i j c rest in omega arith

firsts_answer : (i j c : ℕ) (made : List Output) →
    count_puts (λ (put : Put). is_held_by i put.place && (c == first_copy put.copies)) (map (λ (output : Output). record { place = Outputs j; copies = output.copies }) made) ≡ 0
firsts_answer i j c [] = refl
firsts_answer i j c (output ∷ rest) = let others = firsts_answer i j c rest in omega arith

abbrev pub begun_with : ℕ → ℕ → List Put → ℕ
begun_with i c xs = count_puts (λ (put : Put). is_held_by i put.place && (c == first_copy put.copies)) xs

begun_more : (i c : ℕ) (xs ys : List Put) (firsts more : List ℕ) → begun_with i c xs ≡ count c firsts → begun_with i c ys ≡ count c more →
    begun_with i c (xs ++ ys) ≡ count c (firsts ++ more)
begun_more i c xs ys firsts more old new =
    let a = count_puts-append (λ (put : Put). is_held_by i put.place && (c == first_copy put.copies)) xs ys in
    let b = count-append c firsts more in
    omega arith

begun_taken : (i j c : ℕ) (copies : List ℕ) → begun_with i c (record { place = Held j; copies = copies } ∷ []) ≡ count c (if j == i then first_copy copies ∷ [] else [])
begun_taken i j c copies = go (j == i)
  where
    go : (b : Bool) → one_if (b && (c == first_copy copies)) + 0 ≡ count c (if b then first_copy copies ∷ [] else [])
    go true = grind (arith, nat_tests)
    go false = refl

pub begun : (h : Record) (i c : ℕ) → begun_with i c (all_puts h) ≡ count c (all_of (firsts_in i) h)
begun [] i c = refl
begun (Born j b place copies events waits stream end ∷ h) i c =
    begun_more i c (all_puts h) (one_each (Outputs j) copies) (all_of (firsts_in i) h) [] (begun h i c) (firsts_born i j c copies)
begun (Split j ports copies event children ∷ h) i c =
    begun_more i c (all_puts h) (puts (Split j ports copies event children)) (all_of (firsts_in i) h) [] (begun h i c) (firsts_split i j c children)
begun (Push j t s copies ∷ h) i c =
    begun_more i c (all_puts h) (puts (Push j t s copies)) (all_of (firsts_in i) h) [] (begun h i c) refl
begun (Take j s copies ∷ h) i c =
    begun_more i c (all_puts h) (puts (Take j s copies)) (all_of (firsts_in i) h) (firsts_in i (Take j s copies)) (begun h i c) (begun_taken i j c copies)
begun (Answer j made discarded kept ∷ h) i c =
    begun_more i c (all_puts h) (puts (Answer j made discarded kept)) (all_of (firsts_in i) h) [] (begun h i c) (firsts_answer i j c made)
begun (e ∷ h) i c = begun_more i c (all_puts h) [] (all_of (firsts_in i) h) [] (begun h i c) refl

-- a parcel that stands somewhere has a copy
pub oldest_some : (h : Record) (p : Place) (copies : List ℕ) → IsOldest copies (parcels_at p (stands h)) → 0 < length copies
oldest_some h p [] oldest = let full = oldest_full h p [] oldest in absurd (cc)
oldest_some h p (c ∷ rest) oldest = omega arith

-- THEY ARE TAKEN
-- each parcel that the instance took has a copy
abbrev pub AreFull : ℕ → List Put → Type 0
AreFull i [] = Unit {0}
AreFull i (put ∷ rest) = (is_held_by i put.place ≡ true → 0 < length put.copies) × AreFull i rest

full-append : (i : ℕ) (xs ys : List Put) → AreFull i xs → AreFull i ys → AreFull i (xs ++ ys)
full-append i [] ys a b = b
full-append i (x ∷ xs) ys a b = (a.0, full-append i xs ys a.1 b)

full_born : (i j : ℕ) (copies : List ℕ) → AreFull i (one_each (Outputs j) copies)
full_born i j [] = tt
full_born i j (c ∷ cs) = ((λ is. absurd (cc)), full_born i j cs)

full_split : (i j : ℕ) (children : List Child) → AreFull i (map (λ (child : Child). record { place = Waiting j child.target; copies = child.copies }) children)
full_split i j [] = tt
full_split i j (child ∷ rest) = ((λ is. absurd (cc)), full_split i j rest)

full_answer : (i j : ℕ) (made : List Output) → AreFull i (map (λ (output : Output). record { place = Outputs j; copies = output.copies }) made)
full_answer i j [] = tt
full_answer i j (output ∷ rest) = ((λ is. absurd (cc)), full_answer i j rest)

pub full : (h : Record) (i : ℕ) → IsConserved h → AreFull i (all_puts h)
full [] i kept = tt
full (Born j b place copies events waits stream end ∷ h) i kept = full-append i (all_puts h) (one_each (Outputs j) copies) (full h i kept.1) (full_born i j copies)
full (Split j ports copies event children ∷ h) i kept =
    full-append i (all_puts h) (puts (Split j ports copies event children)) (full h i kept.1) (full_split i j children)
full (Push j t s copies ∷ h) i kept = full-append i (all_puts h) (puts (Push j t s copies)) (full h i kept.1) ((λ is. absurd (cc)), tt)
full (Take j s copies ∷ h) i kept =
    full-append i (all_puts h) (puts (Take j s copies)) (full h i kept.1) ((λ is. oldest_some h (Contents j s) copies kept.0), tt)
full (Answer j made discarded keeps ∷ h) i kept =
    full-append i (all_puts h) (puts (Answer j made discarded keeps)) (full h i kept.1) (full_answer i j made)
full (e ∷ h) i kept = full-append i (all_puts h) [] (full h i kept.1) tt

pub full_part : (i : ℕ) (before after : List Put) (put : Put) → AreFull i (before ++ put ∷ after) → is_held_by i put.place ≡ true → 0 < length put.copies
full_part i [] after put are is = are.0 is
full_part i (x ∷ before) after put are is = full_part i before after put are.1 is

-- the copies behind the first
abbrev pub behind : List ℕ → List ℕ
behind [] = []
behind (c ∷ cs) = cs

-- how often a copy stands behind the first, in the parcels that the instance took
abbrev pub behind_in : ℕ → ℕ → List Put → ℕ
behind_in i d [] = 0
behind_in i d (put ∷ rest) = (if is_held_by i put.place then count d (behind put.copies) else 0) + behind_in i d rest

pub behind-append : (i d : ℕ) (xs ys : List Put) → behind_in i d (xs ++ ys) ≡ behind_in i d xs + behind_in i d ys
behind-append i d [] ys = omega arith
behind-append i d (x ∷ xs) ys = let rest = behind-append i d xs ys in omega arith

parcel_parts : (d : ℕ) (cs : List ℕ) → 0 < length cs → count d (behind cs) + one_if (d == first_copy cs) ≤ count d cs
parcel_parts d [] some = absurd (omega arith)
parcel_parts d (c ∷ cs) some = grind (arith, nat_tests)

put_parts : (i d : ℕ) (p : Place) (cs : List ℕ) → (is_held_by i p ≡ true → 0 < length cs) →
    (if is_held_by i p then count d (behind cs) else 0) + one_if (is_held_by i p && (d == first_copy cs)) ≤ only AHold (kind p) (count d cs)
put_parts i d (Held j) cs full = go (j == i) full
  where
    go : (b : Bool) → (b ≡ true → 0 < length cs) → (if b then count d (behind cs) else 0) + one_if (b && (d == first_copy cs)) ≤ count d cs
    go true full = parcel_parts d cs (full refl)
    go false full = omega arith
put_parts i d p cs full = omega arith

all_parts : (i d : ℕ) (xs : List Put) → AreFull i xs → behind_in i d xs + begun_with i d xs ≤ put_count AHold xs d
all_parts i d [] are = omega arith
all_parts i d (put ∷ rest) are =
    let here = put_parts i d put.place put.copies are.0 in
    let others = all_parts i d rest are.1 in
    omega arith

-- a copy comes first, or behind, no more often than it was taken
pub parts_few : (h : Record) (i d : ℕ) → IsConserved h → behind_in i d (all_puts h) + begun_with i d (all_puts h) ≤ put_count AHold (all_puts h) d
parts_few h i d kept = all_parts i d (all_puts h) (full h i kept)
