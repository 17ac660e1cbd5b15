-- The copies of a keeper, and those that a record has.
use Rattle.std.proofs.Common.{◌≡◌, ℕ, ◌+◌, ◌<◌, ◌≤◌, Bool, true, false, cond, List, [], ◌∷◌, ◌++◌, refl, ap, ◌∙◌, subst, arith, inl, inr}
use Rattle.std.specs.Prelude.{◌==◌, ◌≢◌, if◌then◌else◌}
use Rattle.std.specs.List.{sum_by}
use Rattle.std.proofs.lemmas.Bool.Decides.{nat_tests}
use Rattle.std.proofs.lemmas.Bool.{cases_lt}
use Rattle.std.proofs.lemmas.List.Sums.{sum_by-append, sum_by-cons}
use Rattle.vx_ledger.specs.Copies.{Copy, numbers_of}
use Rattle.vx_transform.specs.Shelves.{copies_put_out, copies_dropped, copies_on}
use Rattle.vx_status.specs.declared.outcome.Outcome.{Outcome}
use Rattle.vx_record.specs.declared.entry.Entry.{Entry}
use Rattle.vx_record.specs.declared.entry.Entry.TheVariants.{Take, Answer, Spent}
use Rattle.vx_record.specs.Records.{Record}
use Rattle.vx_record.specs.Copies.{count, joined}
use Rattle.vx_record.specs.Places.{put_out}
use Rattle.vx_record.specs.Places.Place.{Held, Contents}
use Rattle.vx_record.specs.Lists.{and_rest, shrunk, without}
use Rattle.vx_record.specs.Places.{all_puts, left}
use Rattle.vx_record.specs.Shifts.{at}
use Rattle.vx_record.specs.Legal.{IsLegal}
use Rattle.vx_record.proofs.Answers.{count-shrunk}
use Rattle.vx_record.proofs.Changes.{NoneEmpty, none_empty, stands_once, oldest_full}
use Rattle.vx_record.proofs.Counts.{count-append, count-without, unless, unless-none, unless-some}
use Rattle.vx_record.proofs.OnePlace.{conserved}
use Rattle.vx_record.proofs.Shifting.{stands_at}
use Rattle.vx_places.specs.Numbers.{IsCopyIn}
use Rattle.vx_keeping.specs.Kept.{Kept, loose_copies, copies_made, copies_kept}
use Rattle.vx_keeping.specs.Given.{SameCopies}
use Rattle.vx_keeping.specs.Keeping.{IsMade, Accounts}
use Rattle.vx_keeping.specs.Laws.{LeavesKept}
use Rattle.vx_keeping.specs.Answers.{notes_of, kept_behind}
use Rattle.vx_keeping.proofs.Weights.{count_numbers, same_counts, same_in, of_number, of_copy, in_weighs, weighs_in}
use Rattle.vx_keeping.proofs.Staying.{made_stays, held_stays}
use Rattle.vx_keeping.proofs.Reporting.{put_out_notes}

-- WEIGHTS
-- a keeper's copies part by part
pub kept_weigh : (k : Kept) (w : Copy → ℕ) → sum_by w (copies_kept k) ≡
    sum_by w (loose_copies k.loose) + (sum_by w (copies_made k.maker) + (sum_by w (copies_dropped k.taken.items) + (sum_by w (copies_put_out k.shelf.outputs) + (sum_by w (copies_dropped k.shelf.dropped) + sum_by w k.discarded))))
kept_weigh k w =
    let a = sum_by-append w (loose_copies k.loose) (copies_made k.maker ++ (copies_dropped k.taken.items ++ (copies_on k.shelf ++ k.discarded))) in
    let b = sum_by-append w (copies_made k.maker) (copies_dropped k.taken.items ++ (copies_on k.shelf ++ k.discarded)) in
    let c = sum_by-append w (copies_dropped k.taken.items) (copies_on k.shelf ++ k.discarded) in
    let d = sum_by-append w (copies_on k.shelf) k.discarded in
    let e = sum_by-append w (copies_put_out k.shelf.outputs) (copies_dropped k.shelf.dropped) in
    omega (arith, a, b, c, d, e)

-- ONE PLACE
-- what an instance holds it holds once
pub held_once : (h : Record) (i : ℕ) → IsLegal h → (c : ℕ) → count c (joined (at h (Held i))) ≤ 1
held_once h i legal c =
    let once = stands_once h c (Held i) (conserved h legal) in
    let same = ap (λ ps. count c (joined ps)) (stands_at h (Held i) legal) in
    omega (arith, once, same)

none_joined : (ps : List (List ℕ)) → NoneEmpty ps → ((c : ℕ) → count c (joined ps) ≡ 0) → ps ≡ []
none_joined [] full none = refl
none_joined ([] ∷ rest) full none = absurd full
none_joined ((x ∷ xs) ∷ rest) full none = let e = none x in absurd (grind (arith, nat_tests, e))

-- it holds a parcel where it holds a copy
pub held_none : (h : Record) (i : ℕ) → IsLegal h → ((c : ℕ) → count c (joined (at h (Held i))) ≡ 0) → at h (Held i) ≡ []
held_none h i legal none =
    none_joined (at h (Held i)) (subst NoneEmpty (stands_at h (Held i) legal) (none_empty (Held i) (left h) (all_puts h))) none

-- a parcel that is taken has a copy
pub take_filled : (h : Record) (i s : ℕ) (copies : List ℕ) → IsLegal (Take i s copies ∷ h) → copies ≢ []
take_filled h i s copies legal none =
    let full = oldest_full h (Contents i s) copies legal.0.row.oldest in
    go copies none full
  where
    go : (cs : List ℕ) → cs ≡ [] → and_rest cs [] ≡ cs ∷ [] → ⊥
    go [] none full = cc
    go (c ∷ cs) none full = cc

-- THE SAME COPIES
pub accounts_moved : (old new : Kept) (h : Record) (i : ℕ) → SameCopies (copies_kept old) (copies_kept new) → Accounts old h i → Accounts new h i
accounts_moved old new h i same accounts = record {
  counted = λ c. accounts.counted c ∙ same_counts (copies_kept old) (copies_kept new) same c;
  known = λ copy is. accounts.known copy (same_in (copies_kept old) (copies_kept new) copy same is);
}

-- the same record but for an entry that leaves them
pub accounts_stay : (k : Kept) (h : Record) (i : ℕ) (e : Entry) → LeavesKept h i e → Accounts k h i → Accounts k (e ∷ h) i
accounts_stay k h i e leaves accounts = record {
  counted = λ c. held_stays h i e leaves c ∙ accounts.counted c;
  known = λ copy is. made_stays h e copy (accounts.known copy is);
}

-- A COPY IS GONE
pub if_self : {X : Type 0} (i : ℕ) (x y : X) → (if i == i then x else y) ≡ x
if_self i x y = let is : (i == i) ≡ true = grind (arith, nat_tests) in ap (λ (b : Bool). cond b x y) is

abbrev Loses : Copy → Kept → Kept → Type 0
Loses copy old new = (w : Copy → ℕ) → sum_by w (copies_kept old) ≡ w copy + sum_by w (copies_kept new)

module _ (copy : Copy) (old new : Kept) (loses : Loses copy old new) where
  lost_in : IsCopyIn (copies_kept old) copy
  lost_in =
      let e = loses (of_copy copy) in
      let l = in_weighs (copy ∷ []) copy (inl refl) in
      let one = sum_by-cons (of_copy copy) copy [] in
      weighs_in (copies_kept old) copy (omega (arith, e, l, one))

  lost_still : (c : Copy) → IsCopyIn (copies_kept new) c → IsCopyIn (copies_kept old) c
  lost_still c is = let e = loses (of_copy c) in let l = in_weighs (copies_kept new) c is in weighs_in (copies_kept old) c (omega (arith, e, l))

  lost_count : (c : ℕ) → count c (numbers_of (copies_kept old)) ≡ of_number c copy + count c (numbers_of (copies_kept new))
  lost_count c = let a = count_numbers c (copies_kept old) in let b = count_numbers c (copies_kept new) in let e = loses (of_number c) in omega (arith, a, b, e)

  pub lost_there : (h : Record) (i : ℕ) → Accounts old h i → 0 < count copy.number (joined (at h (Held i)))
  lost_there h i accounts =
      let a = accounts.counted copy.number in
      let b = lost_count copy.number in
      let one : of_number copy.number copy ≡ 1 = if_self copy.number 1 0 in
      omega (arith, a, b, one)

  pub lost_made : (h : Record) (i : ℕ) → Accounts old h i → IsMade h copy
  lost_made h i accounts = accounts.known copy lost_in

  pub lost_leads : (h : Record) (i : ℕ) (outcome : Outcome) → Accounts old h i → IsLegal (Spent i copy.number outcome ∷ h) → Accounts new (Spent i copy.number outcome ∷ h) i
  lost_leads h i outcome accounts legal = record {
    counted = λ c. ap (λ ps. count c (joined ps)) (if_self i (shrunk (copy.number ∷ []) (at h (Held i))) (at h (Held i))) ∙ count-shrunk c (copy.number ∷ []) (at h (Held i)) ∙ go c (copy.number == c) refl;
    known = λ c is. made_stays h (Spent i copy.number outcome) c (accounts.known c (lost_still c is));
  }
    where
      go : (c : ℕ) (b : Bool) → (copy.number == c) ≡ b → unless (count c (copy.number ∷ [])) (count c (joined (at h (Held i)))) ≡ count c (numbers_of (copies_kept new))
      go c true is =
          let some : 0 < count c (copy.number ∷ []) = grind (arith, nat_tests) in
          let one : of_number c copy ≡ 1 = ap (λ (b : Bool). if b then 1 else 0) is in
          let a = unless-some (count c (copy.number ∷ [])) (count c (joined (at h (Held i)))) some in
          let once = held_once h i legal.1 c in
          let e = accounts.counted c in
          let l = lost_count c in
          omega (arith, a, once, e, l, one)
      go c false is =
          let none : count c (copy.number ∷ []) ≡ 0 = grind (arith, nat_tests) in
          let other : of_number c copy ≡ 0 = ap (λ (b : Bool). if b then 1 else 0) is in
          let a = unless-none (count c (copy.number ∷ [])) (count c (joined (at h (Held i)))) none in
          let e = accounts.counted c in
          let l = lost_count c in
          omega (arith, a, e, l, other)

-- SOME GO, AND THE REST STAYS
module _ (h : Record) (i : ℕ) (legal : IsLegal h) (gone : List ℕ) (rest : (Copy → ℕ) → ℕ) (all : (c : ℕ) → count c (joined (at h (Held i))) ≡ count c gone + rest (of_number c)) where
  gone_within : (c : ℕ) → count c gone ≤ 1
  gone_within c = let once = held_once h i legal c in let is = all c in omega (arith, once, is)

  left_is : (c : ℕ) → unless (count c gone) (count c (joined (at h (Held i)))) ≡ rest (of_number c)
  left_is c =
      let once = held_once h i legal c in
      let is = all c in
      elim (cases_lt 0 (count c gone)) [
        | inl some ↦ let u = unless-some (count c gone) (count c (joined (at h (Held i)))) some in omega (arith, once, is, u)
        | inr none ↦ let u = unless-none (count c gone) (count c (joined (at h (Held i)))) (omega (arith, none)) in omega (arith, once, is, u)
      ]

  without_is : (c : ℕ) → count c gone + count c (without gone (joined (at h (Held i)))) ≡ count c (joined (at h (Held i)))
  without_is c =
      let a = count-without c gone (joined (at h (Held i))) in
      let b = left_is c in
      let is = all c in
      omega (arith, a, b, is)

  without_none : ((w : Copy → ℕ) → rest w ≡ 0) → without gone (joined (at h (Held i))) ≡ []
  without_none none = none_counted (without gone (joined (at h (Held i)))) (λ c.
      let a = count-without c gone (joined (at h (Held i))) in
      let b = left_is c in
      let n = none (of_number c) in
      omega (arith, a, b, n))
    where
      none_counted : (xs : List ℕ) → ((c : ℕ) → count c xs ≡ 0) → xs ≡ []
      none_counted [] none = refl
      none_counted (x ∷ xs) none = let e = none x in absurd (grind (arith, nat_tests, e))

-- OUTPUTS ARE PUT OUT, AND COPIES DISCARDED
module _ (k : Kept) (h : Record) (i : ℕ) (legal : IsLegal h) (accounts : Accounts k h i) where
  -- what else it has
  abbrev else_weigh : (Copy → ℕ) → ℕ
  else_weigh w = sum_by w (loose_copies k.loose) + (sum_by w (copies_made k.maker) + (sum_by w (copies_dropped k.taken.items) + sum_by w (copies_dropped k.shelf.dropped)))

  abbrev rest_weigh : (Copy → ℕ) → ℕ
  rest_weigh w = sum_by w k.discarded + else_weigh w

  out_all : (c : ℕ) → count c (joined (at h (Held i))) ≡ count c (put_out (notes_of k.shelf.outputs)) + rest_weigh (of_number c)
  out_all c =
      let a = accounts.counted c in
      let b = count_numbers c (copies_kept k) in
      let d = kept_weigh k (of_number c) in
      let e = ap (count c) (put_out_notes k.shelf.outputs) ∙ count_numbers c (copies_put_out k.shelf.outputs) in
      omega (arith, a, b, d, e)

  both_all : (c : ℕ) → count c (joined (at h (Held i))) ≡ count c (put_out (notes_of k.shelf.outputs) ++ numbers_of k.discarded) + else_weigh (of_number c)
  both_all c =
      let a = out_all c in
      let b = count-append c (put_out (notes_of k.shelf.outputs)) (numbers_of k.discarded) in
      let d = count_numbers c k.discarded in
      omega (arith, a, b, d)

  -- each output's copy once
  pub put_within : (c : ℕ) → count c (put_out (notes_of k.shelf.outputs)) ≤ 1
  put_within = gone_within h i legal (put_out (notes_of k.shelf.outputs)) rest_weigh out_all

  -- each that was held is put out, discarded or kept
  pub put_or_kept : (c : ℕ) →
      count c (put_out (notes_of k.shelf.outputs)) + count c (numbers_of k.discarded) + count c (kept_behind h i k.shelf.outputs k.discarded) ≡ count c (joined (at h (Held i)))
  put_or_kept c =
      let a = without_is h i legal (put_out (notes_of k.shelf.outputs) ++ numbers_of k.discarded) else_weigh both_all c in
      let b = count-append c (put_out (notes_of k.shelf.outputs)) (numbers_of k.discarded) in
      omega (arith, a, b)

  -- and nothing is kept where it has nothing else
  pub none_kept : ((w : Copy → ℕ) → else_weigh w ≡ 0) → kept_behind h i k.shelf.outputs k.discarded ≡ []
  none_kept = without_none h i legal (put_out (notes_of k.shelf.outputs) ++ numbers_of k.discarded) else_weigh both_all

  -- the keeper without its outputs, behind the Answer
  pub put_out_accounts : (new : Kept) (gone kept : List ℕ) → ((w : Copy → ℕ) → sum_by w (copies_kept new) ≡ rest_weigh w) →
      Accounts new (Answer i (notes_of k.shelf.outputs) gone kept ∷ h) i
  put_out_accounts new gone kept is = record {
    counted = λ c.
        let a = ap (λ ps. count c (joined ps)) (if_self i (shrunk (put_out (notes_of k.shelf.outputs)) (at h (Held i))) (at h (Held i))) in
        let b = count-shrunk c (put_out (notes_of k.shelf.outputs)) (at h (Held i)) in
        let d = left_is h i legal (put_out (notes_of k.shelf.outputs)) rest_weigh out_all c in
        let e = count_numbers c (copies_kept new) in
        let f = is (of_number c) in
        omega (arith, a, b, d, e, f);
    known = λ copy there.
        let a = is (of_copy copy) in
        let b = kept_weigh k (of_copy copy) in
        let l = in_weighs (copies_kept new) copy there in
        made_stays h (Answer i (notes_of k.shelf.outputs) gone kept) copy (accounts.known copy (weighs_in (copies_kept k) copy (omega (arith, a, b, l))));
  }
