-- A live copy was put once into the places of each kind, so that its spend counts once.
use Rattle.std.proofs.Common.{◌≡◌, ℕ, ◌+◌, ◌<◌, ◌≤◌, Bool, true, false, List, [], ◌∷◌, refl, ap, ◌∙◌, arith, inl, inr}
use Rattle.std.specs.Prelude.{◌==◌}
use Rattle.std.proofs.lemmas.Bool.Decides.{nat_tests}
use Rattle.std.proofs.lemmas.Bool.{cases_lt}
use Rattle.vx_record.specs.Records.{Record}
use Rattle.vx_record.specs.Copies.{count, next_copy}
use Rattle.vx_record.specs.Places.{Place, Put, Kind, kind, all_puts}
use Rattle.vx_record.specs.Places.Kind.{AnOutput, AChild, AStage, AHold}
use Rattle.vx_record.specs.Moving.{IsConserved}
use Rattle.vx_record.specs.Tallies.{one_if, count_puts}
use Rattle.vx_record.specs.Growth.{begins_with}
use Rattle.vx_record.proofs.Counts.{only, put_count, put_count-append}
use Rattle.vx_record.proofs.Changes.{only-self}
use Rattle.vx_record.proofs.OnePlace.{tracked}
use Rattle.vx_record.proofs.SpentParcels.{count_puts-append}
use Rattle.vx_record.proofs.Tracked.{born}
use Rattle.vx_counts.specs.Spends.{WasPutIn}

pub itself : (i : ℕ) → (i == i) ≡ true
itself i = grind (arith, nat_tests)

-- a parcel that begins with a copy has it
pub begun_has : (c : ℕ) (cs : List ℕ) → begins_with c cs ≡ true → 0 < count c cs
begun_has c [] has = absurd (cc)
begun_has c (d ∷ ds) has = grind (arith, nat_tests)

-- PUTS THAT PASS A TEST
only-same : (k l : Kind) (n : ℕ) → l ≡ k → only k l n ≡ n
only-same k l n same = ap (λ m. only k m n) same ∙ only-self k n

-- a test that passes only parcels with a copy, at places of a kind, passes none where the copy was put into none
pub none_pass : (f : Place → List ℕ → Bool) (k : Kind) (c : ℕ) (xs : List Put) →
    ((p : Place) (cs : List ℕ) → f p cs ≡ true → (kind p ≡ k) × (0 < count c cs)) → put_count k xs c ≡ 0 →
    count_puts (λ (put : Put). f put.place put.copies) xs ≡ 0
none_pass f k c [] of none = refl
none_pass f k c (put ∷ rest) of none =
    let others = none_pass f k c rest of (omega arith) in
    let here = go (f put.place put.copies) refl in
    omega arith
  where
    go : (b : Bool) → f put.place put.copies ≡ b → one_if b ≡ 0
    go true passes =
        let meant = of put.place put.copies passes in
        let some = meant.1 in
        let own = only-same k (kind put.place) (count c put.copies) meant.0 in
        absurd (omega arith)
    go false passes = refl

-- a copy was put once into the places of a kind, at the most
pub put_once : (k : Kind) (h : Record) (c : ℕ) → IsConserved h → put_count k (all_puts h) c ≤ 1
put_once k h c kept = go k
  where
    made : born h c + put_count AChild (all_puts h) c ≤ 1
    made =
        let t = tracked h c kept in
        elim (cases_lt c (next_copy h)) [
          | inl below ↦ let x = t.made below in omega arith
          | inr above ↦ let x = t.unmade above in omega arith
        ]

    go : (k : Kind) → put_count k (all_puts h) c ≤ 1
    go AnOutput = let t = tracked h c kept in let a = t.push in let b = t.take in let d = t.answer in omega (arith, made, a, b, d)
    go AChild = omega (arith, made)
    go AStage = let t = tracked h c kept in let a = t.push in omega (arith, made, a)
    go AHold = let t = tracked h c kept in let a = t.push in let b = t.take in omega (arith, made, a, b)

-- so a test that passes only parcels with the copy, at places of the kind, passes the one in which it was put, or none
pub alone : (f : Place → List ℕ → Bool) (h : Record) (p : Place) (copies : List ℕ) (c : ℕ) → IsConserved h → WasPutIn h p copies c →
    ((q : Place) (cs : List ℕ) → f q cs ≡ true → (kind q ≡ kind p) × (0 < count c cs)) →
    count_puts (λ (put : Put). f put.place put.copies) (all_puts h) ≡ one_if (f p copies)
alone f h p copies c kept was of =
    let all = ap (count_puts (λ (put : Put). f put.place put.copies)) was.put.2 in
    let parted = count_puts-append (λ (put : Put). f put.place put.copies) was.put.0 (record { place = p; copies = copies } ∷ was.put.1) in
    let times = ap (λ xs. put_count (kind p) xs c) was.put.2 in
    let split = put_count-append (kind p) c was.put.0 (record { place = p; copies = copies } ∷ was.put.1) in
    let self = only-self (kind p) (count c copies) in
    let most = put_once (kind p) h c kept in
    let some = was.has in
    let first = none_pass f (kind p) c was.put.0 of (omega arith) in
    let last = none_pass f (kind p) c was.put.1 of (omega arith) in
    omega arith
