-- What stands at a place is among what stands in the places of its kind.
use Rattle.std.proofs.Common.{◌≡◌, ℕ, ◌+◌, ◌≤◌, Bool, true, false, List, [], ◌∷◌, sym, refl, ap, arith}
use Rattle.std.specs.Prelude.{if◌then◌else◌}
use Rattle.vx_record.specs.Copies.{count, joined}
use Rattle.vx_record.specs.Places.{Place, Put, Kind, kind, same_place}
use Rattle.vx_record.specs.Places.Kind.{AnOutput, AChild, AStage, AHold}
use Rattle.vx_record.specs.Places.Place.{Outputs, Waiting, Contents, Held}
use Rattle.vx_record.specs.Lists.{without, unless_empty, standing, parcels_at}
use Rattle.vx_record.specs.Sending.{IsOldest}
use Rattle.vx_record.proofs.Counts.{count-append, unless, unless-add, unless-zero, count-without, only, put_count, stand_count}

only-same_place : (q p : Place) (n : ℕ) → same_place q p ≡ true → only (kind p) (kind q) n ≡ n
only-same_place (Outputs i) (Outputs j) n e = refl
only-same_place (Waiting i t) (Waiting j u) n e = refl
only-same_place (Contents i s) (Contents j r) n e = refl
only-same_place (Held i) (Held j) n e = refl
only-same_place q p n e = cc

pub one_more : (c : ℕ) (p q : Place) (cs : List ℕ) (rest : List Put) →
    count c (joined (parcels_at p (unless_empty q cs rest))) ≤ only (kind p) (kind q) (count c cs) + count c (joined (parcels_at p rest))
one_more c p q [] rest = omega arith
one_more c p q (x ∷ xs) rest = go (same_place q p) refl
  where
    go : (b : Bool) → same_place q p ≡ b →
        count c (joined (if b then (x ∷ xs) ∷ parcels_at p rest else parcels_at p rest))
        ≤ only (kind p) (kind q) (count c (x ∷ xs)) + count c (joined (parcels_at p rest))
    go true e =
        let k = only-same_place q p (count c (x ∷ xs)) e in
        omega (arith, count-append c (x ∷ xs) (joined (parcels_at p rest)))
    go false e = omega arith

pub unless-only : (n : ℕ) (k l : Kind) (gone : Kind → List ℕ) (c : ℕ) →
    only k l (unless (count c (gone l)) n) ≡ unless (count c (gone k)) (only k l n)
unless-only n AnOutput AnOutput gone c = refl
unless-only n AChild AChild gone c = refl
unless-only n AStage AStage gone c = refl
unless-only n AHold AHold gone c = refl
unless-only n k l gone c = sym (unless-zero (count c (gone k)))

pub count-parcels_at : (c : ℕ) (p : Place) (gone : Kind → List ℕ) (puts : List Put) →
    count c (joined (parcels_at p (standing gone puts))) ≤ stand_count (kind p) gone puts c
count-parcels_at c p gone [] = omega arith
count-parcels_at c p gone (put ∷ rest) =
    let e = count-parcels_at c p gone rest in
    let f = one_more c p put.place (without (gone (kind put.place)) put.copies) (standing gone rest) in
    let w = count-without c (gone (kind put.place)) put.copies in
    let u = unless-only (count c put.copies) (kind p) (kind put.place) gone c in
    let v = unless-add (count c (gone (kind p))) (only (kind p) (kind put.place) (count c put.copies)) (put_count (kind p) rest c) in
    let t = ap (only (kind p) (kind put.place)) w in
    omega arith

pub count-oldest : (c : ℕ) (copies : List ℕ) (parcels : List (List ℕ)) → IsOldest copies parcels → count c copies ≤ count c (joined parcels)
count-oldest c copies [] e = absurd e
count-oldest c copies (parcel ∷ younger) e =
    let f = ap (count c) e in
    omega (arith, count-append c parcel (joined younger))
