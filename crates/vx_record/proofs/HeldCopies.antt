-- What stands stays where an entry moves nothing, and a copy stands in one place at the most: for the code's own steps.
use Rattle.std.proofs.Common.{◌≡◌, ℕ, zero, suc, ◌+◌, ◌<◌, ◌≤◌, Bool, true, false, List, [], ◌∷◌, ◌++◌, length, sym, refl, ap, ◌∙◌, arith, inl, inr}
use Rattle.std.specs.Prelude.{if◌then◌else◌}
use Rattle.std.proofs.lemmas.Bool.{cases_lt}
use Rattle.std.proofs.lemmas.List.{append-nil}
use Rattle.vx_record.specs.declared.entry.Entry.{Entry}
use Rattle.vx_record.specs.Records.{Record}
use Rattle.vx_record.specs.declared.entry.Entry.TheVariants.{Born, Split, Push, Take, Answer, Spent}
use Rattle.vx_record.specs.Copies.{count, joined, next_copy, IsLive}
use Rattle.vx_record.specs.Places.{Place, kind, same_place, leaves, all_puts, left}
use Rattle.vx_record.specs.Lists.{stands, shrunk, parcels_at, places, times_among}
use Rattle.vx_record.specs.Moving.{IsStill, Conserves, IsConserved}
use Rattle.vx_record.proofs.Tracked.{places_one, unmade_nowhere}
use Rattle.vx_record.proofs.OnePlace.{tracked, conserved_live}
use Rattle.vx_record.proofs.Steps.{MovesNothing}
use Rattle.vx_record.proofs.Changes.{none_empty, shrunk-none, put_at, same_place_self, parcels_after, places_meant, not_both}

-- ENTRIES THAT MOVE NOTHING
still_moves : (e : Entry) → IsStill e → MovesNothing e
still_moves (Born i b place copies events waits stream end) s = absurd s
still_moves (Split i ports copies event children) s = absurd s
still_moves (Push i t stage copies) s = absurd s
still_moves (Take i stage copies) s = absurd s
still_moves (Answer i made discarded kept) s = absurd s
still_moves (Spent i c outcome) s = absurd s
still_moves e s = record { puts = refl; births = refl; leaves = λ k. refl; spends = refl; splits = refl; makes = refl }

pub still_conserves : (h : Record) (e : Entry) → IsStill e → Conserves h e
still_conserves h (Born i b place copies events waits stream end) s = absurd s
still_conserves h (Split i ports copies event children) s = absurd s
still_conserves h (Push i t stage copies) s = absurd s
still_conserves h (Take i stage copies) s = absurd s
still_conserves h (Answer i made discarded kept) s = absurd s
still_conserves h (Spent i c outcome) s = absurd s
still_conserves h e s = tt

-- where no copy leaves, all parcels stay
pub shrunk_by_none : (h : Record) (p : Place) → shrunk [] (parcels_at p (stands h)) ≡ parcels_at p (stands h)
shrunk_by_none h p = shrunk-none [] (parcels_at p (stands h)) (none_empty p (left h) (all_puts h)) (λ c l. refl)

pub stands_still : (h : Record) (e : Entry) (p : Place) → IsStill e → IsConserved h → parcels_at p (stands (e ∷ h)) ≡ parcels_at p (stands h)
stands_still h e p s kept =
    let m = still_moves e s in
    parcels_after h e p (still_conserves h e s, kept)
    ∙ ap (λ ps. shrunk (leaves (kind p) e) (parcels_at p (stands h)) ++ put_at p ps) m.puts
    ∙ append-nil (shrunk (leaves (kind p) e) (parcels_at p (stands h)))
    ∙ ap (λ gone. shrunk gone (parcels_at p (stands h))) (m.leaves (kind p))
    ∙ shrunk_by_none h p

-- COPIES IN A HAND
times_two : (p q : Place) (ps : List Place) → same_place p q ≡ false → times_among p ps + times_among q ps ≤ length ps
times_two p q [] other = omega arith
times_two p q (r ∷ rest) other = go (same_place r p) refl (times_two p q rest other)
  where
    tail_p : ℕ
    tail_p = times_among p rest

    tail_q : ℕ
    tail_q = times_among q rest

    go : (b : Bool) → same_place r p ≡ b → tail_p + tail_q ≤ length rest →
        ((if b then 1 else 0) + tail_p) + ((if same_place r q then 1 else 0) + tail_q) ≤ suc (length rest)
    go true e ih = none (same_place r q) (not_both r p q other e)
      where
        none : (b : Bool) → b ≡ false → (1 + tail_p) + ((if b then 1 else 0) + tail_q) ≤ suc (length rest)
        none true f = cc
        none false f = omega arith
    go false e ih = also (same_place r q)
      where
        also : (b : Bool) → (0 + tail_p) + ((if b then 1 else 0) + tail_q) ≤ suc (length rest)
        also true = omega arith
        also false = omega arith

-- a copy stands in one place at the most
pub places_few : (h : Record) (c : ℕ) → IsConserved h → length (places h c) ≤ 1
places_few h c kept =
    let t = tracked h c kept in
    elim (cases_lt c (next_copy h)) [
      | inl below ↦ let x = places_one h c t below in omega arith
      | inr above ↦ let x = unmade_nowhere h c t above in omega arith
    ]

-- what stands at one place stands at no other
pub not_there : (h : Record) (p q : Place) (c : ℕ) → IsConserved h → same_place p q ≡ false → 0 < count c (joined (parcels_at p (stands h))) →
    count c (joined (parcels_at q (stands h))) ≡ 0
not_there h p q c kept other l =
    let a = places_meant h c p in
    let b = places_meant h c q in
    let d = times_two p q (places h c) other in
    let e = places_few h c kept in
    omega arith

-- some copies, all of which stand at one place
abbrev pub AreAt : Record → Place → List ℕ → Type 0
AreAt h q held_copies = (c : ℕ) → 0 < count c held_copies → 0 < count c (joined (parcels_at q (stands h)))

-- the parcels of other places stay
pub others_stay : (h : Record) (q p : Place) (held_copies : List ℕ) → IsConserved h → AreAt h q held_copies → same_place q p ≡ false →
    shrunk held_copies (parcels_at p (stands h)) ≡ parcels_at p (stands h)
others_stay h q p held_copies kept at other =
    shrunk-none held_copies (parcels_at p (stands h)) (none_empty p (left h) (all_puts h)) (λ c l. go c l (count c held_copies) refl)
  where
    go : (c : ℕ) → 0 < count c (joined (parcels_at p (stands h))) → (n : ℕ) → count c held_copies ≡ n → count c held_copies ≡ 0
    go c l zero e = e
    go c l (suc n) e =
        let here : 0 < count c (joined (parcels_at q (stands h))) = at c (omega arith) in
        let none = not_there h q p c kept other here in
        absurd (omega arith)

pub times_some : (p : Place) (ps : List Place) → times_among p ps ≤ length ps
times_some p [] = omega arith
times_some p (r ∷ rest) = go (same_place r p) (times_some p rest)
  where
    go : (b : Bool) → times_among p rest ≤ length rest → (if b then 1 else 0) + times_among p rest ≤ suc (length rest)
    go true ih = omega arith
    go false ih = omega arith

-- and they are live
pub held_is_live : (h : Record) (q : Place) (held_copies : List ℕ) → IsConserved h → AreAt h q held_copies → (c : ℕ) → 0 < count c held_copies → IsLive h c
held_is_live h q held_copies kept at c l =
    let here = at c l in
    let a = places_meant h c q in
    let b = times_some q (places h c) in
    (conserved_live h kept c).1 (omega arith)

-- a copy of which no place has anything is in no place
pub nowhere : (h : Record) → ((p : Place) → parcels_at p (stands h) ≡ []) → (c : ℕ) → length (places h c) ≡ 0
nowhere h none c = go (places h c) (λ p. sym (places_meant h c p) ∙ ap (λ ps. count c (joined ps)) (none p))
  where
    go : (ps : List Place) → ((p : Place) → times_among p ps ≡ 0) → length ps ≡ 0
    go [] all = refl
    go (q ∷ rest) all =
        absurd (some (same_place q q) (same_place_self q) (times_among q rest) (all q))
      where
        some : (b : Bool) → b ≡ true → (n : ℕ) → (if b then 1 else 0) + n ≡ 0 → ⊥
        some true e n none = omega arith
        some false e n none = cc
