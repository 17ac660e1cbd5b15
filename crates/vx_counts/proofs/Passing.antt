-- What a Spent adds to the counts of parcels, by the parcel in which its copy was put.
use Rattle.std.proofs.Common.{◌≡◌, ℕ, ◌+◌, ◌<◌, ◌≤◌, Bool, true, false, not, ◌&&◌, ◌||◌, List, [], ◌∷◌, sym, refl, ap, ◌∙◌, arith, inl, inr}
use Rattle.std.specs.Prelude.{◌==◌, if◌then◌else◌}
use Rattle.std.specs.List.{list_any}
use Rattle.std.proofs.lemmas.Bool.Decides.{nat_tests}
use Rattle.std.proofs.lemmas.Bool.{cases_eq}
use Rattle.vx_status.specs.declared.outcome.Outcome.{Outcome}
use Rattle.vx_status.specs.declared.outcome.Outcome.TheVariants.{NewestDropped, NoConsumer}
use Rattle.vx_status.specs.declared.event_status.EventStatus.{EventStatus}
use Rattle.vx_status.specs.Tables.{status_of}
use Rattle.vx_record.specs.declared.entry.Entry.TheVariants.{Spent}
use Rattle.vx_record.specs.Records.{Record}
use Rattle.vx_record.specs.Copies.{count, all_of, times_spent}
use Rattle.vx_record.specs.Places.{Place, Put, kind, all_puts}
use Rattle.vx_record.specs.Places.Place.{Outputs, Waiting}
use Rattle.vx_record.specs.Places.Kind.{AnOutput, AChild, AHold}
use Rattle.vx_record.specs.Parcels.{first_copy}
use Rattle.vx_record.specs.Moving.{IsConserved}
use Rattle.vx_record.specs.Tallies.{one_if, count_puts, was_spent, first_spent, is_unread, is_newest, is_output, is_child_for, is_held_by, same_status, spent_as, firsts_in, is_first}
use Rattle.vx_record.specs.Growth.{begins_with, unread_in, newest_in, spent_in}
use Rattle.vx_record.proofs.SpentParcels.{and_false, not_spent}
use Rattle.vx_counts.specs.Spends.{WasPutIn}
use Rattle.vx_counts.proofs.Once.{begun_has, put_once, alone}
use Rattle.vx_counts.proofs.Beginnings.{begun, parts_few}

pub both : (a b : Bool) → (a && b) ≡ true → (a ≡ true) × (b ≡ true)
both true b e = (refl, e)
both false b e = absurd (cc)

-- tests that agree count alike
pub same_counts : (f g : Place → List ℕ → Bool) → ((p : Place) (cs : List ℕ) → f p cs ≡ g p cs) → (xs : List Put) →
    count_puts (λ (put : Put). f put.place put.copies) xs ≡ count_puts (λ (put : Put). g put.place put.copies) xs
same_counts f g same [] = refl
same_counts f g same (put ∷ rest) =
    let here = same put.place put.copies in
    let others = same_counts f g same rest in
    λ t. one_if (here t) + others t

pub no_counts : (f : Place → List ℕ → Bool) → ((p : Place) (cs : List ℕ) → f p cs ≡ false) → (xs : List Put) → count_puts (λ (put : Put). f put.place put.copies) xs ≡ 0
no_counts f none [] = refl
no_counts f none (put ∷ rest) =
    let here : one_if (f put.place put.copies) ≡ 0 = ap one_if (none put.place put.copies) in
    let others = no_counts f none rest in
    omega arith

-- THE PLACES OF AN INSTANCE
pub output_kind : (i : ℕ) (q : Place) → is_output i q ≡ true → kind q ≡ AnOutput
output_kind i (Outputs j) e = refl
output_kind i q e = absurd (cc)

pub child_kind : (i : ℕ) (q : Place) → is_child_for i q ≡ true → kind q ≡ AChild
child_kind i (Waiting j t) e = refl
child_kind i q e = absurd (cc)

-- a parcel passes now where this copy comes first in it
begins_now : (at : Bool) (was : ℕ → Bool) (c d : ℕ) → was c ≡ false → (at && ((true && (c == d)) && not (was d))) ≡ (at && (c == d))
begins_now at was c d before = elim (cases_eq c d) [
  | inl same ↦
      let was_not : was d ≡ false = ap was (sym same) ∙ before in
      ap (λ b. at && ((c == d) && not b)) was_not ∙ ap (λ b. at && b) (and_true (c == d))
  | inr other ↦
      let no : (c == d) ≡ false = grind (arith, nat_tests) in
      ap (λ b. at && (b && not (was d))) no ∙ ap (λ b. at && b) (sym no)
]
  where
    and_true : (b : Bool) → (b && true) ≡ b
    and_true true = refl
    and_true false = refl

-- so it is of a parcel that has the copy
first_passes : (at : Bool) (test : Outcome → Bool) (h : Record) (c : ℕ) (copies : List ℕ) → times_spent h c ≡ 0 → 0 < count c copies →
    (at && ((true && begins_with c copies) && not (first_spent test h copies))) ≡ (at && (c == first_copy copies))
first_passes at test h c [] unspent some = absurd (omega arith)
first_passes at test h c (d ∷ ds) unspent some = begins_now at (was_spent test h) c d (not_spent test h c unspent)

-- a parcel of the instance that begins with the copy
pub own_first : (i c d : ℕ) → c ≡ d → one_if ((i == i) && (c == d)) ≡ 1
own_first i c d same = grind (arith, nat_tests)

-- WITHOUT A CONSUMER
pub unread_by : (h : Record) (i j k c : ℕ) (copies : List ℕ) → IsConserved h → times_spent h c ≡ 0 → WasPutIn h (Outputs j) copies c →
    unread_in h i (Spent k c NoConsumer) ≡ one_if ((j == i) && (c == first_copy copies))
unread_by h i j k c copies kept unspent was =
    alone (λ p cs. is_output i p && ((true && begins_with c cs) && not (first_spent is_unread h cs))) h (Outputs j) copies c kept was
    (λ q cs passes. let x = both (is_output i q) ((true && begins_with c cs) && not (first_spent is_unread h cs)) passes in
    (output_kind i q x.0, begun_has c cs (both (begins_with c cs) (not (first_spent is_unread h cs)) x.1).0))
    ∙ ap one_if (first_passes (j == i) is_unread h c copies unspent was.has)

pub unread_none : (h : Record) (i k c : ℕ) (o : Outcome) → is_unread o ≡ false → unread_in h i (Spent k c o) ≡ 0
unread_none h i k c o fails =
    no_counts (λ p cs. is_output i p && ((is_unread o && begins_with c cs) && not (first_spent is_unread h cs)))
    (λ p cs. (λ t. is_output i p && ((fails t && begins_with c cs) && not (first_spent is_unread h cs))) ∙ and_false (is_output i p)) (all_puts h)

-- AS THE NEWEST
pub newest_by : (h : Record) (i j t k c : ℕ) (copies : List ℕ) → IsConserved h → times_spent h c ≡ 0 → WasPutIn h (Waiting j t) copies c →
    newest_in h i (Spent k c NewestDropped) ≡ one_if ((t == i) && (c == first_copy copies))
newest_by h i j t k c copies kept unspent was =
    alone (λ p cs. is_child_for i p && ((true && begins_with c cs) && not (first_spent is_newest h cs))) h (Waiting j t) copies c kept was
    (λ q cs passes. let x = both (is_child_for i q) ((true && begins_with c cs) && not (first_spent is_newest h cs)) passes in
    (child_kind i q x.0, begun_has c cs (both (begins_with c cs) (not (first_spent is_newest h cs)) x.1).0))
    ∙ ap one_if (first_passes (t == i) is_newest h c copies unspent was.has)

pub newest_none : (h : Record) (i k c : ℕ) (o : Outcome) → is_newest o ≡ false → newest_in h i (Spent k c o) ≡ 0
newest_none h i k c o fails =
    no_counts (λ p cs. is_child_for i p && ((is_newest o && begins_with c cs) && not (first_spent is_newest h cs)))
    (λ p cs. (λ t. is_child_for i p && ((fails t && begins_with c cs) && not (first_spent is_newest h cs))) ∙ and_false (is_child_for i p)) (all_puts h)

-- HELD BY A SINK
any_few : (c : ℕ) (xs : List ℕ) → count c xs ≤ 1 → count c xs ≡ one_if (list_any (λ d. d == c) xs)
any_few c [] few = refl
any_few c (x ∷ xs) few = go (x == c) few (any_few c xs)
  where
    none : (xs : List ℕ) → count c xs ≤ 0 → count c xs ≡ 0
    none xs few = omega arith

    go : (b : Bool) → (if b then 1 else 0) + count c xs ≤ 1 → (count c xs ≤ 1 → count c xs ≡ one_if (list_any (λ d. d == c) xs)) →
        (if b then 1 else 0) + count c xs ≡ one_if (b || list_any (λ d. d == c) xs)
    go true few rest = omega arith
    go false few rest = let x = rest (omega arith) in omega arith

pub held_none : (status : EventStatus) (h : Record) (i j c : ℕ) (o : Outcome) → same_status (status_of o) status ≡ false → spent_in status h i (Spent j c o) ≡ 0
held_none status h i j c o fails =
    no_counts (λ p cs. is_held_by i p && ((same_status (status_of o) status && (c == first_copy cs)) && not (spent_as status h cs)))
    (λ p cs. (λ t. is_held_by i p && ((fails t && (c == first_copy cs)) && not (spent_as status h cs))) ∙ and_false (is_held_by i p)) (all_puts h)

pub held_by : (status : EventStatus) (h : Record) (i j c : ℕ) (o : Outcome) → IsConserved h → times_spent h c ≡ 0 →
    spent_in status h i (Spent j c o) ≡ one_if (same_status (status_of o) status && is_first h i c)
held_by status h i j c o kept unspent = go (same_status (status_of o) status) refl
  where
    test : Outcome → Bool
    test outcome = same_status (status_of outcome) status

    go : (b : Bool) → same_status (status_of o) status ≡ b → spent_in status h i (Spent j c o) ≡ one_if (b && is_first h i c)
    go true passes =
        ap (λ b. count_puts (λ (put : Put). is_held_by i put.place && ((b && (c == first_copy put.copies)) && not (spent_as status h put.copies))) (all_puts h)) passes
        ∙ same_counts (λ p cs. is_held_by i p && ((true && (c == first_copy cs)) && not (spent_as status h cs))) (λ p cs. is_held_by i p && (c == first_copy cs))
        (λ p cs. begins_now (is_held_by i p) (was_spent test h) c (first_copy cs) (not_spent test h c unspent)) (all_puts h)
        ∙ begun h i c
        ∙ any_few c (all_of (firsts_in i) h) (let a = parts_few h i c kept in let b = put_once AHold h c kept in let d = begun h i c in omega arith)
    go false fails = held_none status h i j c o fails
