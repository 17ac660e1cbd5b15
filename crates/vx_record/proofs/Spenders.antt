-- A copy that an instance took is spent by entries of its task alone: until then it is held or put out there.
use Rattle.std.proofs.Common.{◌≡◌, ℕ, ◌+◌, ◌<◌, ◌≤◌, Bool, true, false, List, [], ◌∷◌, ◌++◌, map, refl, ap, subst, arith, inl, inr}
use Rattle.std.specs.Prelude.{◌==◌, if◌then◌else◌}
use Rattle.std.proofs.lemmas.Bool.{cases_lt, eqb-true}
use Rattle.vx_record.specs.declared.output.Output.{Output}
use Rattle.vx_record.specs.declared.entry.Entry.{Entry}
use Rattle.vx_record.specs.declared.entry.Entry.TheVariants.{Born, Split, Take, Answer, Spent}
use Rattle.vx_record.specs.Records.{Record}
use Rattle.vx_record.specs.Copies.{count, joined, next_copy, splits, spends, all_of, times_spent, IsLive}
use Rattle.vx_record.specs.Places.{Place, owner, put_out}
use Rattle.vx_record.specs.Places.Place.{Outputs, Contents, Held}
use Rattle.vx_record.specs.Lists.{shrunk, stands, parcels_at, outputs, contents, held, places}
use Rattle.vx_record.specs.Moving.{IsConserved, singles, parcels_of}
use Rattle.vx_record.specs.Sending.{IsOldest}
use Rattle.vx_record.specs.Legal.{IsLegal}
use Rattle.vx_record.specs.Tasks.{is_of, mine}
use Rattle.vx_record.specs.Shifts.{younger, shift}
use Rattle.vx_record.specs.TaskLaws.{took_in, SpentByTaker}
use Rattle.vx_record.proofs.Counts.{count-append}
use Rattle.vx_record.proofs.Place.{count-oldest}
use Rattle.vx_record.proofs.OnePlace.{conserved}
use Rattle.vx_record.proofs.Entries.{take_grows}
use Rattle.vx_record.proofs.HeldCopies.{held_is_live}
use Rattle.vx_record.proofs.Attempted.{joined_and_rest, count_shrunk, joined_more}
use Rattle.vx_record.proofs.Mine.{others, ours}
use Rattle.vx_record.proofs.Shifting.{entry_shifts, spent_none}

-- LIVE AND TAKEN
pub stands_live : (h : Record) (p : Place) (c : ℕ) → IsConserved h → 0 < count c (joined (parcels_at p (stands h))) → IsLive h c
stands_live h p c kept l = held_is_live h p (joined (parcels_at p (stands h))) kept (λ d k. k) c l

live_before : (h : Record) (e : Entry) (c : ℕ) → IsLive (e ∷ h) c → c < next_copy h → IsLive h c
live_before h e c live l =
    let a = count-append c (all_of splits h) (splits e) in
    let b = count-append c (all_of spends h) (spends e) in
    let x = live.1 in
    let y = live.2 in
    (l, omega arith, omega arith)

abbrev took : Record → ℕ → List ℕ
took h i = all_of (took_in i) h

-- what an entry takes stood in a stage
taking_live : (h : Record) (e : Entry) (i c : ℕ) → IsConserved (e ∷ h) → 0 < count c (took_in i e) → IsLive h c
taking_live h (Take j s copies) i c kept l = go (j == i) l
  where
    go : (b : Bool) → 0 < count c (if b then copies else []) → IsLive h c
    go true some = stands_live h (Contents j s) c kept.1 (omega (arith, count-oldest c copies (contents h j s) kept.0))
    go false some = absurd (omega arith)
taking_live h e i c kept l = absurd (omega arith)

took_made : (h : Record) (i c : ℕ) → IsConserved h → 0 < count c (took h i) → c < next_copy h
took_made [] i c kept l = absurd (omega arith)
took_made (e ∷ h) i c kept l =
    let a = count-append c (took h i) (took_in i e) in
    elim (cases_lt 0 (count c (took h i))) [
      | inl before ↦ let m = took_made h i c kept.1 before in omega arith
      | inr none ↦ let live : IsLive h c = taking_live h e i c kept (omega arith) in let m = live.0 in omega arith
    ]

-- HELD OR PUT OUT
abbrev held_or_put_out : Record → ℕ → ℕ → ℕ
held_or_put_out h i c = count c (joined (held h i)) + count c (joined (outputs h i))

count_oldest : (c : ℕ) (copies : List ℕ) (ps : List (List ℕ)) → IsOldest copies ps → count c (joined ps) ≡ count c copies + count c (joined (younger ps))
count_oldest c copies [] first = absurd first
count_oldest c copies (p ∷ rest) first =
    let a = count-append c p (joined rest) in
    let b = ap (count c) first in
    omega arith

count_parcels : (c : ℕ) (made : List Output) → count c (joined (parcels_of made)) ≡ count c (put_out made)
count_parcels c [] = refl
count_parcels c (output ∷ rest) =
    let a = joined_and_rest c output.copies (parcels_of rest) in
    let b = count-append c output.copies (put_out rest) in
    let d = count_parcels c rest in
    omega arith

-- what an entry neither splits nor spends stays there
held_kept : (h : Record) (e : Entry) (i c : ℕ) → IsLegal (e ∷ h) → count c (splits e) ≡ 0 → count c (spends e) ≡ 0 → 0 < held_or_put_out h i c →
    0 < count c (joined (shift e (Held i) (held h i))) + count c (joined (shift e (Outputs i) (outputs h i)))
held_kept h (Born j b place copies events waits stream end) i c legal unsplit unspent some = go (j == i)
  where
    go : (t : Bool) → 0 < count c (joined (held h i)) + count c (joined (if t then outputs h i ++ singles copies else outputs h i))
    go true = let m = joined_more c (outputs h i) (singles copies) in omega arith
    go false = some
held_kept h (Split j ports copies event children) i c legal unsplit unspent some = go (j == i) refl
  where
    go : (t : Bool) → (j == i) ≡ t → 0 < count c (joined (held h i)) + count c (joined (if t then younger (outputs h i) else outputs h i))
    go true is =
        let first : IsOldest copies (outputs h i) = subst (λ (k : ℕ). IsOldest copies (outputs h k)) (eqb-true j i is) legal.0.row.split.oldest in
        let n = count_oldest c copies (outputs h i) first in
        omega arith
    go false is = some
held_kept h (Take j s copies) i c legal unsplit unspent some = go (j == i)
  where
    go : (t : Bool) → 0 < count c (joined (if t then held h i ++ copies ∷ [] else held h i)) + count c (joined (outputs h i))
    go true = let m = joined_more c (held h i) (copies ∷ []) in omega arith
    go false = some
held_kept h (Answer j made discarded rest) i c legal unsplit unspent some = go (j == i)
  where
    go : (t : Bool) → 0 < count c (joined (if t then shrunk (put_out made) (held h i) else held h i)) + count c (joined (if t then outputs h i ++ parcels_of made else outputs h i))
    go true =
        let m = joined_more c (outputs h i) (parcels_of made) in
        let n = count_parcels c made in
        elim (cases_lt 0 (count c (put_out made))) [
          | inl put ↦ omega arith
          | inr none ↦ let s = count_shrunk c (put_out made) (held h i) (omega arith) in omega arith
        ]
    go false = some
held_kept h (Spent j d outcome) i c legal unsplit unspent some = go (j == i)
  where
    go : (t : Bool) → 0 < count c (joined (if t then shrunk (d ∷ []) (held h i) else held h i)) + count c (joined (if t then shrunk (d ∷ []) (outputs h i) else outputs h i))
    go true =
        let a = count_shrunk c (d ∷ []) (held h i) unspent in
        let b = count_shrunk c (d ∷ []) (outputs h i) unspent in
        omega arith
    go false = some
held_kept h e i c legal unsplit unspent some = some

held_goes_on : (h : Record) (e : Entry) (i c : ℕ) → IsLegal (e ∷ h) → IsLive (e ∷ h) c → 0 < held_or_put_out h i c → 0 < held_or_put_out (e ∷ h) i c
held_goes_on h e i c legal live some =
    let x = live.1 in
    let y = live.2 in
    let s = count-append c (all_of splits h) (splits e) in
    let t = count-append c (all_of spends h) (spends e) in
    let a = ap (λ (ps : List (List ℕ)). count c (joined ps)) (entry_shifts h e (Held i) legal) in
    let b = ap (λ (ps : List (List ℕ)). count c (joined ps)) (entry_shifts h e (Outputs i) legal) in
    let k = held_kept h e i c legal (omega arith) (omega arith) some in
    omega arith

taken_now : (h : Record) (e : Entry) (i c : ℕ) → IsLegal (e ∷ h) → 0 < count c (took_in i e) → 0 < held_or_put_out (e ∷ h) i c
taken_now h (Take j s copies) i c legal l = go (j == i) refl l
  where
    go : (t : Bool) → (j == i) ≡ t → 0 < count c (if t then copies else []) → 0 < held_or_put_out (Take j s copies ∷ h) i c
    go true is some =
        let grown : held (Take j s copies ∷ h) i ≡ held h i ++ copies ∷ [] =
        subst (λ (k : ℕ). held (Take j s copies ∷ h) k ≡ held h k ++ copies ∷ []) (eqb-true j i is) (take_grows h j s copies (conserved (Take j s copies ∷ h) legal)) in
        let a = ap (λ (ps : List (List ℕ)). count c (joined ps)) grown in
        let b = joined_more c (held h i) (copies ∷ []) in
        let d = count-append c copies [] in
        omega arith
    go false is some = absurd (omega arith)
taken_now h e i c legal l = absurd (omega arith)

-- what an instance took and is live, it holds or put out
at_his : (h : Record) (i c : ℕ) → IsLegal h → 0 < count c (took h i) → IsLive h c → 0 < held_or_put_out h i c
at_his [] i c legal l live = absurd (omega arith)
at_his (e ∷ h) i c legal l live =
    let a = count-append c (took h i) (took_in i e) in
    elim (cases_lt 0 (count c (took h i))) [
      | inl before ↦
          let was : IsLive h c = live_before h e c live (took_made h i c (conserved h legal.1) before) in
          held_goes_on h e i c legal live (at_his h i c legal.1 before was)
      | inr none ↦ taken_now h e i c legal (omega arith)
    ]

-- SPENT
mine_fewer : (h : Record) (i c : ℕ) → times_spent (mine h i) c ≤ times_spent h c
mine_fewer [] i c = omega arith
mine_fewer (e ∷ h) i c = go (is_of i e) (mine_fewer h i c)
  where
    go : (b : Bool) → times_spent (mine h i) c ≤ times_spent h c → times_spent (if b then e ∷ mine h i else mine h i) c ≤ times_spent (e ∷ h) c
    go true fewer =
        let x = count-append c (all_of spends (mine h i)) (spends e) in
        let y = count-append c (all_of spends h) (spends e) in
        omega arith
    go false fewer = let y = count-append c (all_of spends h) (spends e) in omega arith

-- entries of others spend nothing of it
spends_none : (h : Record) (e : Entry) (i c : ℕ) → IsLegal (e ∷ h) → 0 < count c (took h i) → is_of i e ≡ false → count c (spends e) ≡ 0
spends_none h (Spent j d outcome) i c legal l is = go (d == c) refl
  where
    go : (b : Bool) → (d == c) ≡ b → (if b then 1 else 0) + 0 ≡ 0
    go false e = refl
    go true e =
        let same : d ≡ c = eqb-true d c e in
        let live : IsLive h c = subst (λ (x : ℕ). IsLive h x) same legal.0.row.live in
        let here : 0 < count j (map owner (places h c)) = subst (λ (x : ℕ). 0 < count j (map owner (places h x))) same legal.0.row.here in
        let some = at_his h i c legal.1 l live in
        let a = spent_none h j c (Held i) (conserved h legal.1) here is in
        let b = spent_none h j c (Outputs i) (conserved h legal.1) here is in
        absurd (omega arith)
spends_none h e i c legal l is = refl

taking_spends_none : (e : Entry) (i c : ℕ) → 0 < count c (took_in i e) → count c (spends e) ≡ 0
taking_spends_none (Take j s copies) i c l = refl
taking_spends_none e i c l = absurd (omega arith)

spent_on : (h : Record) (e : Entry) (i c : ℕ) → (is_of i e ≡ false → count c (spends e) ≡ 0) → times_spent h c ≡ times_spent (mine h i) c →
    times_spent (e ∷ h) c ≡ times_spent (mine (e ∷ h) i) c
spent_on h e i c none same = go (is_of i e) refl
  where
    go : (b : Bool) → is_of i e ≡ b → times_spent (e ∷ h) c ≡ times_spent (mine (e ∷ h) i) c
    go true is =
        let x = count-append c (all_of spends (mine h i)) (spends e) in
        let y = count-append c (all_of spends h) (spends e) in
        let m = ap (λ (r : Record). times_spent r c) (ours h e i is) in
        omega arith
    go false is =
        let n = none is in
        let y = count-append c (all_of spends h) (spends e) in
        let m = ap (λ (r : Record). times_spent r c) (others h e i is) in
        omega arith

pub spent_by_taker : SpentByTaker
spent_by_taker [] i c legal l = absurd (omega arith)
spent_by_taker (e ∷ h) i c legal l =
    let a = count-append c (took h i) (took_in i e) in
    elim (cases_lt 0 (count c (took h i))) [
      | inl before ↦ spent_on h e i c (spends_none h e i c legal before) (spent_by_taker h i c legal.1 before)
      | inr none ↦
          let now : 0 < count c (took_in i e) = omega arith in
          let live : IsLive h c = taking_live h e i c (conserved (e ∷ h) legal) now in
          let z = live.2 in
          let f = mine_fewer h i c in
          spent_on h e i c (λ is. taking_spends_none e i c now) (omega arith)
    ]
