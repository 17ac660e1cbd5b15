-- In a legal record a copy that is spent stands where its outcome says, and was put there in a whole parcel.
use Rattle.std.proofs.Common.{◌≡◌, ℕ, zero, suc, ◌+◌, ◌<◌, Bool, true, false, List, [], ◌∷◌, ◌++◌, map, refl, ap, arith, inl, inr}
use Rattle.std.specs.Prelude.{if◌then◌else◌}
use Rattle.std.proofs.lemmas.Bool.{cases_lt}
use Rattle.vx_status.specs.declared.outcome.Outcome.TheVariants.{Delivered, Filtered, NewestDropped, NoConsumer, Attempts, Abandoned, Refusal}
use Rattle.vx_record.specs.Records.{Record}
use Rattle.vx_record.specs.Copies.{count, joined}
use Rattle.vx_record.specs.Places.{Place, Put, Kind, kind, owner, all_puts, left, same_place}
use Rattle.vx_record.specs.Places.Place.{Outputs, Waiting}
use Rattle.vx_record.specs.Lists.{stands, standing, without, unless_empty, parcels_at, places, times_among}
use Rattle.vx_record.specs.Spending.{oldest}
use Rattle.vx_record.proofs.Counts.{count-append, count-without, unless}
use Rattle.vx_record.proofs.Changes.{places_meant, same_place_self, same_place_is}
use Rattle.vx_record.proofs.Promises.{decided_held}
use Rattle.vx_counts.specs.Spends.{StandsAt}
use Rattle.vx_counts.specs.Laws.{LegalPlace, StandsPut}

oldest_at : (c : ℕ) (ps : List (List ℕ)) → 0 < count c (oldest ps) → 0 < count c (joined ps)
oldest_at c [] some = absurd (omega arith)
oldest_at c (p ∷ ps) some = let x = count-append c p (joined ps) in omega arith

somewhere : (h : Record) (i c : ℕ) → 0 < count i (map owner (places h c)) → (p : Place) × StandsAt h p c
somewhere h i c here = go (places h c) refl here
  where
    go : (ps : List Place) → places h c ≡ ps → 0 < count i (map owner ps) → (p : Place) × StandsAt h p c
    go [] is l = absurd (omega arith)
    go (p ∷ ps) is l = (p, at)
      where
        at : StandsAt h p c
        at =
            let meant = places_meant h c p in
            let times = ap (times_among p) is in
            let self : times_among p (p ∷ ps) ≡ 1 + times_among p ps = ap (λ (b : Bool). (if b then 1 else 0) + times_among p ps) (same_place_self p) in
            omega arith

pub legal_place : LegalPlace
legal_place h i c Delivered legal = decided_held h i c Delivered legal.1 tt legal.0.row
legal_place h i c Refusal legal = decided_held h i c Refusal legal.1 tt legal.0.row
legal_place h i c Attempts legal = decided_held h i c Attempts legal.1 tt legal.0.row
legal_place h i c Filtered legal = decided_held h i c Filtered legal.1 tt legal.0.row
legal_place h i c NewestDropped legal = (legal.0.row.cause.0, oldest_at c (parcels_at (Waiting i legal.0.row.cause.0) (stands h)) legal.0.row.cause.1.next)
legal_place h i c NoConsumer legal = oldest_at c (parcels_at (Outputs i) (stands h)) legal.0.row.cause.next
legal_place h i c Abandoned legal = somewhere h i c legal.0.row.here

-- WHAT STANDS WAS PUT
record PutAmong (xs : List Put) (p : Place) (c : ℕ) : Type 0 where
  pub copies : List ℕ
  pub before : List Put
  pub after : List Put
  pub is : xs ≡ before ++ record { place = p; copies = copies } ∷ after
  pub has : 0 < count c copies

later_put : (put : Put) (rest : List Put) (p : Place) (c : ℕ) → PutAmong rest p c → PutAmong (put ∷ rest) p c
later_put put rest p c among = record { copies = among.copies; before = put ∷ among.before; after = among.after; is = ap (λ xs. put ∷ xs) among.is; has = among.has }

among_left : (gone cs : List ℕ) (c : ℕ) → 0 < count c (without gone cs) → 0 < count c cs
among_left gone cs c some = go (count c gone) (let x = count-without c gone cs in omega arith)
  where
    go : (m : ℕ) → 0 < unless m (count c cs) → 0 < count c cs
    go zero l = l
    go (suc m) l = absurd (omega arith)

abbrev put_first : Place → List ℕ → List Put → List Put
put_first p copies rest = record { place = p; copies = copies } ∷ rest

-- a put of which copies are left, and those behind it
first_or_later : (gone cs : List ℕ) (put : Put) (rest : List Put) (standing_rest : List (List ℕ)) (p : Place) (c : ℕ) → without gone put.copies ≡ cs →
    (0 < count c (joined standing_rest) → PutAmong rest p c) → (b : Bool) → same_place put.place p ≡ b →
    0 < count c (joined (if b then cs ∷ standing_rest else standing_rest)) → PutAmong (put ∷ rest) p c
first_or_later gone cs put rest behind p c is later true same l = elim (cases_lt 0 (count c cs)) [
  | inl here ↦
      record {
        copies = put.copies;
        before = [];
        after = rest;
        is = ap (λ q. put_first q put.copies rest) (same_place_is put.place p same);
        has = among_left gone put.copies c (let x = ap (count c) is in omega arith);
      }
  | inr none ↦ later_put put rest p c (later (let x = count-append c cs (joined behind) in omega arith))
]
first_or_later gone cs put rest behind p c is later false same l = later_put put rest p c (later l)

put_among : (gone : Kind → List ℕ) (xs : List Put) (p : Place) (c : ℕ) → 0 < count c (joined (parcels_at p (standing gone xs))) → PutAmong xs p c
put_among gone [] p c some = absurd (omega arith)
put_among gone (put ∷ rest) p c some = go (put_among gone rest p c) (without (gone (kind put.place)) put.copies) refl some
  where
    go : (0 < count c (joined (parcels_at p (standing gone rest))) → PutAmong rest p c) → (cs : List ℕ) → without (gone (kind put.place)) put.copies ≡ cs →
        0 < count c (joined (parcels_at p (unless_empty put.place cs (standing gone rest)))) → PutAmong (put ∷ rest) p c
    go later [] is l = later_put put rest p c (later l)
    go later (d ∷ ds) is l =
        first_or_later (gone (kind put.place)) (d ∷ ds) put rest (parcels_at p (standing gone rest)) p c is later (same_place put.place p) refl l

pub stands_put : StandsPut
stands_put h p c some =
    let among = put_among (left h) (all_puts h) p c some in
    (among.copies, record { put = (among.before, among.after, among.is); has = among.has })
