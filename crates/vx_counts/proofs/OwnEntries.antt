-- What others may count for an instance.
use Rattle.std.proofs.Common.{◌≡◌, ℕ, ◌+◌, ◌<◌, ◌≤◌, Bool, true, false, ◌&&◌, ◌||◌, List, [], ◌∷◌, length, ap, arith}
use Rattle.std.specs.Prelude.{if◌then◌else◌, ◌==◌}
use Rattle.std.specs.List.{list_any}
use Rattle.std.proofs.lemmas.Bool.Decides.{nat_tests}
use Rattle.vx_status.specs.declared.outcome.Outcome.{Outcome}
use Rattle.vx_status.specs.declared.outcome.Outcome.TheVariants.{Delivered, Filtered, NewestDropped, NoConsumer, Attempts, Abandoned, Refusal}
use Rattle.vx_record.specs.declared.entry.Entry.TheVariants.{Read, Born, Take, Answer, Attempt, Spent, Notice, Confirm}
use Rattle.vx_record.specs.Records.{Record}
use Rattle.vx_record.specs.Copies.{count, all_of, spends, times_spent}
use Rattle.vx_record.specs.Places.Place.{Outputs, Contents}
use Rattle.vx_record.specs.Parcels.{first_copy}
use Rattle.vx_record.specs.Moving.{IsConserved}
use Rattle.vx_record.specs.Legal.{IsLegal}
use Rattle.vx_record.specs.Tallies.{is_first, firsts_in, one_if}
use Rattle.vx_record.specs.TaskLaws.{took_in}
use Rattle.vx_record.proofs.Counts.{count-append}
use Rattle.vx_record.proofs.OnePlace.{conserved}
use Rattle.vx_record.proofs.Mine.{others}
use Rattle.vx_record.proofs.Spenders.{spent_by_taker}
use Rattle.vx_counts.specs.Spends.{BeginsUnread}
use Rattle.vx_counts.specs.Laws.{CountedByOwn}
use Rattle.vx_counts.proofs.Beginnings.{oldest_some}
use Rattle.vx_counts.proofs.Passing.{own_first, unread_by}
use Rattle.vx_counts.proofs.SpentFrom.{legal_place, stands_put}

-- WHAT COMES FIRST WAS TAKEN
first_taken : (i j c : ℕ) (copies : List ℕ) → 0 < length copies → count c (if j == i then first_copy copies ∷ [] else []) ≤ count c (if j == i then copies else [])
first_taken i j c [] some = absurd (omega arith)
first_taken i j c (d ∷ ds) some = go (j == i)
  where
    go : (b : Bool) → count c (if b then d ∷ [] else []) ≤ count c (if b then d ∷ ds else [])
    go true = omega arith
    go false = omega arith

firsts_taken : (h : Record) (i c : ℕ) → IsConserved h → count c (all_of (firsts_in i) h) ≤ count c (all_of (took_in i) h)
firsts_taken [] i c kept = omega arith
firsts_taken (Take j s copies ∷ h) i c kept =
    let before = firsts_taken h i c kept.1 in
    let here = first_taken i j c copies (oldest_some h (Contents j s) copies kept.0) in
    let a = count-append c (all_of (firsts_in i) h) (firsts_in i (Take j s copies)) in
    let b = count-append c (all_of (took_in i) h) (took_in i (Take j s copies)) in
    omega arith
firsts_taken (e ∷ h) i c kept =
    let before = firsts_taken h i c kept.1 in
    let a = count-append c (all_of (firsts_in i) h) [] in
    let b = count-append c (all_of (took_in i) h) [] in
    omega arith

any_counted : (c : ℕ) (xs : List ℕ) → list_any (λ d. d == c) xs ≡ true → 0 < count c xs
any_counted c [] any = absurd (cc)
any_counted c (x ∷ xs) any = go (x == c) any (any_counted c xs)
  where
    go : (b : Bool) → (b || list_any (λ d. d == c) xs) ≡ true → (list_any (λ d. d == c) xs ≡ true → 0 < count c xs) → 0 < (if b then 1 else 0) + count c xs
    go true any rest = omega arith
    go false any rest = let x = rest any in omega arith

-- so no other instance spends it
first_own : (h : Record) (i j c : ℕ) (outcome : Outcome) → IsLegal (Spent j c outcome ∷ h) → (j == i) ≡ false → is_first h i c ≡ true → ⊥
first_own h i j c outcome legal other first =
    let some = any_counted c (all_of (firsts_in i) h) first in
    let few = firsts_taken h i c (conserved h legal.1) in
    let took = count-append c (all_of (took_in i) h) [] in
    let before = spent_by_taker h i c legal.1 (omega arith) in
    let after = spent_by_taker (Spent j c outcome ∷ h) i c legal (omega arith) in
    let same = ap (λ m. times_spent m c) (others h (Spent j c outcome) i other) in
    let more = count-append c (all_of spends h) (c ∷ []) in
    let one : count c (c ∷ []) ≡ 1 = grind (arith, nat_tests) in
    omega arith

unread_own : (h : Record) (i j c : ℕ) → IsLegal (Spent j c NoConsumer ∷ h) → (j == i) ≡ false → BeginsUnread h i c → ⊥
unread_own h i j c legal other begins =
    let put = stands_put h (Outputs j) c (legal_place h j c NoConsumer legal) in
    let none = unread_by h i j j c put.0 (conserved h legal.1) legal.0.row.live.2 put.1 in
    let one = unread_by h i i j c begins.copies (conserved h legal.1) legal.0.row.live.2 begins.put in
    let a : one_if ((j == i) && (c == first_copy put.0)) ≡ 0 = ap (λ b. one_if (b && (c == first_copy put.0))) other in
    let b = own_first i c (first_copy begins.copies) begins.first in
    absurd (omega arith)

apart : (i j : ℕ) → (j == i) ≡ false → j ≡ i → ⊥
apart i j other same = grind (arith, nat_tests)

pub counted_by_own : CountedByOwn
counted_by_own (Read j stream took) h i legal other counts = apart i j other counts
counted_by_own (Born j b place copies events waits stream end) h i legal other counts = apart i j other counts
counted_by_own (Take j s copies) h i legal other counts = apart i j other counts
counted_by_own (Answer j outputs discarded kept) h i legal other counts = apart i j other counts
counted_by_own (Attempt j copies bytes reply) h i legal other counts = apart i j other counts
counted_by_own (Notice b status) h i legal other counts = tt
counted_by_own (Confirm j positions made) h i legal other counts = apart i j other counts.0
counted_by_own (Spent j c Delivered) h i legal other counts = first_own h i j c Delivered legal other counts.1
counted_by_own (Spent j c Filtered) h i legal other counts = counts
counted_by_own (Spent j c NewestDropped) h i legal other counts = tt
counted_by_own (Spent j c NoConsumer) h i legal other counts = unread_own h i j c legal other counts.1
counted_by_own (Spent j c Attempts) h i legal other counts = first_own h i j c Attempts legal other counts.1
counted_by_own (Spent j c Abandoned) h i legal other counts = first_own h i j c Abandoned legal other counts.1
counted_by_own (Spent j c Refusal) h i legal other counts = first_own h i j c Refusal legal other counts.1
counted_by_own e h i legal other counts = counts
