-- How the counts over parcels change: with Spents alone.
use Rattle.std.specs.Prelude.{ℕ, zero, suc, ◌+◌, ◌<◌, ◌≤◌, ◌≡◌, Bool, true, false, not, ◌&&◌, ◌||◌, Option, Some, None, List, [], ◌∷◌, ◌++◌, length, map, if◌then◌else◌, ◌==◌, refl}
use Rattle.std.proofs.Common.{sym, ◌∙◌, ap, arith, inl, inr}
use Rattle.std.proofs.lemmas.Bool.Decides.{nat_tests}
use Rattle.std.proofs.lemmas.Bool.{cases_eq}
use Rattle.vx_status.specs.declared.outcome.Outcome.{Outcome}
use Rattle.vx_status.specs.declared.event_status.EventStatus.{EventStatus}
use Rattle.vx_status.specs.Tables.{status_of}
use Rattle.vx_record.specs.declared.child.Child.{Child}
use Rattle.vx_record.specs.declared.output.Output.{Output}
use Rattle.vx_record.specs.declared.entry.Entry.{Entry}
use Rattle.vx_record.specs.declared.entry.Entry.TheVariants.{Born, Split, Push, Take, Answer, Spent}
use Rattle.vx_record.specs.Records.{Record}
use Rattle.vx_record.specs.Copies.{count, counting, children_of, all_of, spends, next_copy, times_spent, IsLive}
use Rattle.vx_record.specs.Places.{Place, Put, put_out, all_puts, puts, one_each}
use Rattle.vx_record.specs.Places.Place.{Outputs, Waiting, Contents, Held}
use Rattle.vx_record.specs.Lists.{stands, parcels_at, places}
use Rattle.vx_record.specs.Parcels.{first_copy}
use Rattle.vx_record.specs.Moving.{Releases}
use Rattle.vx_record.specs.Legal.{IsLegal}
use Rattle.vx_record.specs.Tallies.{outcome_of, was_spent, first_spent, is_unread, is_newest, is_output, is_child_for, is_held_by, same_status, spent_as, one_if, count_puts, parcels_that, unread_parcels, newest_parcels, parcels_spent}
use Rattle.vx_record.specs.Growth.{begins_with, first_in, unread_in, newest_in, spent_in, RisesLegally, SpentRises}
use Rattle.vx_record.proofs.Counts.{count-append}
use Rattle.vx_record.specs.Sending.{IsOldest}
use Rattle.vx_record.specs.Routing.{routes}
use Rattle.vx_record.specs.Parcels.{port_list}
use Rattle.vx_record.specs.Lists.{times_among}
use Rattle.vx_record.proofs.OnePlace.{conserved, tracked}
use Rattle.vx_record.proofs.Place.{count-oldest}
use Rattle.vx_record.proofs.Changes.{oldest_full}
use Rattle.vx_record.proofs.HeldCopies.{held_is_live}

-- PUTS THAT PASS A TEST
pub count_puts-append : (test : Put → Bool) (xs ys : List Put) → count_puts test (xs ++ ys) ≡ count_puts test xs + count_puts test ys
count_puts-append test [] ys = omega arith
count_puts-append test (x ∷ xs) ys = let rest = count_puts-append test xs ys in omega arith

-- of what passes after, some passed before, and some passes now for the first time
parts_of : (here now before : Bool) → one_if (here && (now || before)) ≡ one_if (here && before) + one_if (here && (now && not before))
parts_of here now before = grind arith

count_parts : (here : Place → Bool) (after now before : List ℕ → Bool) (xs : List Put) → ((copies : List ℕ) → after copies ≡ (now copies || before copies)) →
    count_puts (λ (put : Put). here put.place && after put.copies) xs
    ≡ count_puts (λ (put : Put). here put.place && before put.copies) xs
    + count_puts (λ (put : Put). here put.place && (now put.copies && not (before put.copies))) xs
count_parts here after now before [] same = refl
count_parts here after now before (x ∷ xs) same =
    let first = ap (λ b. one_if (here x.place && b)) (same x.copies) in
    let parted = parts_of (here x.place) (now x.copies) (before x.copies) in
    let rest = count_parts here after now before xs same in
    omega arith

-- OUTCOMES
outcome_none : (h : Record) (c : ℕ) → times_spent h c ≡ 0 → outcome_of h c ≡ None
outcome_none [] c e = refl
outcome_none (Spent i d outcome ∷ h) c e = elim (cases_eq d c) [
  | inl same ↦ absurd (grind (arith, nat_tests, count-append c (all_of spends h) (d ∷ [])))
  | inr other ↦
      let fails : (d == c) ≡ false = grind (arith, nat_tests) in
      rw fails (outcome_none h c (omega (arith, count-append c (all_of spends h) (d ∷ []))))
]
outcome_none (e ∷ h) c q = outcome_none h c (omega (arith, count-append c (all_of spends h) []))

pub not_spent : (test : Outcome → Bool) (h : Record) (c : ℕ) → times_spent h c ≡ 0 → was_spent test h c ≡ false
not_spent test h c e = ap (λ (o : Option Outcome). elim o [ None ↦ false | Some outcome ↦ test outcome ]) (outcome_none h c e)

-- a copy that is not made yet is not spent
not_made : (test : Outcome → Bool) (h : Record) (c : ℕ) → IsLegal h → next_copy h ≤ c → was_spent test h c ≡ false
not_made test h c legal l =
    let t = tracked h c (conserved h legal) in
    let none = t.unmade l in
    let once = t.once in
    not_spent test h c (omega arith)

left_alone : (t w : Bool) → w ≡ false → t ≡ ((t && true) || w)
left_alone true w e = refl
left_alone false w e = sym e

right_alone : (t w : Bool) → w ≡ ((t && false) || w)
right_alone true w = refl
right_alone false w = refl

-- a Spent tells the outcome of its copy, and of no other
spent_now : (test : Outcome → Bool) (i d : ℕ) (outcome : Outcome) (h : Record) (c : ℕ) → was_spent test h d ≡ false →
    was_spent test (Spent i d outcome ∷ h) c ≡ ((test outcome && (d == c)) || was_spent test h c)
spent_now test i d outcome h c none = elim (cases_eq d c) [
  | inl same ↦
      let holds : (d == c) ≡ true = grind (arith, nat_tests) in
      let none_here : was_spent test h c ≡ false = ap (was_spent test h) (sym same) ∙ none in
      ap passes (ap (λ (b : Bool). if b then Some outcome else outcome_of h c) holds)
      ∙ left_alone (test outcome) (was_spent test h c) none_here
      ∙ ap (λ b. (test outcome && b) || was_spent test h c) (sym holds)
  | inr other ↦
      let fails : (d == c) ≡ false = grind (arith, nat_tests) in
      ap passes (ap (λ (b : Bool). if b then Some outcome else outcome_of h c) fails)
      ∙ right_alone (test outcome) (was_spent test h c)
      ∙ ap (λ b. (test outcome && b) || was_spent test h c) (sym fails)
]
  where
    passes : Option Outcome → Bool
    passes None = false
    passes (Some outcome') = test outcome'

first_now : (test : Outcome → Bool) (i d : ℕ) (outcome : Outcome) (h : Record) (copies : List ℕ) → was_spent test h d ≡ false →
    first_spent test (Spent i d outcome ∷ h) copies ≡ ((test outcome && begins_with d copies) || first_spent test h copies)
first_now test i d outcome h [] none = right_alone (test outcome) false
first_now test i d outcome h (c ∷ rest) none = spent_now test i d outcome h c none

-- NEW PUTS PASS NO TEST OF OUTCOMES
none_passes : (test : Outcome → Bool) (h : Record) (copies : List ℕ) → ((c : ℕ) → 0 < count c copies → was_spent test h c ≡ false) → first_spent test h copies ≡ false
none_passes test h [] none = refl
none_passes test h (c ∷ rest) none = none c (grind (arith, nat_tests))

pub and_false : (b : Bool) → (b && false) ≡ false
and_false true = refl
and_false false = refl

-- numbers from one on are at least that
counting_from : (from n c : ℕ) → 0 < count c (counting from n) → from ≤ c
counting_from from zero c l = absurd (omega arith)
counting_from from (suc n) c l = elim (cases_eq from c) [
  | inl same ↦ omega arith
  | inr other ↦
      let rest : 0 < count c (counting (from + 1) n) = grind (arith, nat_tests) in
      let more = counting_from (from + 1) n c rest in
      omega arith
]

-- parcels of one new copy each
born_none : (test : Outcome → Bool) (h : Record) (here : Place → Bool) (p : Place) (copies : List ℕ) → ((c : ℕ) → 0 < count c copies → was_spent test h c ≡ false) →
    count_puts (λ (put : Put). here put.place && first_spent test h put.copies) (one_each p copies) ≡ 0
born_none test h here p [] none = refl
born_none test h here p (c ∷ rest) none =
    let first : first_spent test h (c ∷ []) ≡ false = none_passes test h (c ∷ []) (λ d l. none d (grind (arith, nat_tests))) in
    let fails = (ap (λ b. one_if (here p && b)) first) ∙ ap one_if (and_false (here p)) in
    let others = born_none test h here p rest (λ d l. none d (omega arith)) in
    omega arith

-- children of new copies
split_none : (test : Outcome → Bool) (h : Record) (here : Place → Bool) (i next m : ℕ) (targets : List ℕ) → ((c : ℕ) → next ≤ c → was_spent test h c ≡ false) →
    count_puts (λ (put : Put). here put.place && first_spent test h put.copies)
    (map (λ (child : Child). record { place = Waiting i child.target; copies = child.copies }) (children_of next m targets)) ≡ 0
split_none test h here i next m [] none = refl
split_none test h here i next m (t ∷ rest) none =
    let first : first_spent test h (counting next m) ≡ false = none_passes test h (counting next m) (λ c l. none c (counting_from next m c l)) in
    let fails = (ap (λ b. one_if (here (Waiting i t) && b)) first) ∙ ap one_if (and_false (here (Waiting i t))) in
    let others = split_none test h here i (next + m) m rest (λ c l. none c (omega arith)) in
    omega arith

-- outputs of copies that aren't spent
answer_none : (test : Outcome → Bool) (h : Record) (here : Place → Bool) (i : ℕ) (made : List Output) → ((c : ℕ) → 0 < count c (put_out made) → was_spent test h c ≡ false) →
    count_puts (λ (put : Put). here put.place && first_spent test h put.copies)
    (map (λ (output : Output). record { place = Outputs i; copies = output.copies }) made) ≡ 0
answer_none test h here i [] none = refl
answer_none test h here i (output ∷ rest) none =
    let first : first_spent test h output.copies ≡ false = none_passes test h output.copies (λ c l. none c (let e = count-append c output.copies (put_out rest) in omega arith)) in
    let fails = (ap (λ b. one_if (here (Outputs i) && b)) first) ∙ ap one_if (and_false (here (Outputs i))) in
    let others = answer_none test h here i rest (λ c l. none c (let e = count-append c output.copies (put_out rest) in omega arith)) in
    omega arith

-- a copy that is put out is live until then
released_live : (h : Record) (i : ℕ) (made : List Output) → IsLegal h → Releases h i made → (c : ℕ) → 0 < count c (put_out made) → IsLive h c
released_live h i made legal released = held_is_live h (Held i) (put_out made) (conserved h legal) (λ c l. let r = released c in omega arith)

-- what a test counts, among what stood there and some new puts of which none passes
pub still : (test : Put → Bool) (old new : List Put) → count_puts test new ≡ 0 → count_puts test (old ++ new) ≡ count_puts test old + 0
still test old new none = let both = count_puts-append test old new in omega arith

-- how an entry changes the number of the parcels, at some places, whose first copy passes
first_rises : (test : Outcome → Bool) (here : Place → Bool) → ((i s : ℕ) → here (Contents i s) ≡ false) → ((i : ℕ) → here (Held i) ≡ false) →
    (e : Entry) (h : Record) → IsLegal (e ∷ h) →
    parcels_that (first_spent test (e ∷ h)) here (e ∷ h) ≡ parcels_that (first_spent test h) here h + first_in test here h e
first_rises test here in_stage in_hold (Born i b place copies events waits stream end) h legal =
    let fresh : (c : ℕ) → 0 < count c copies → was_spent test h c ≡ false =
    λ c l.
    let same = ap (count c) legal.0.row.next in
    not_made test h c legal.1 (counting_from (next_copy h) (length copies) c (omega arith))
    in
    still (λ (put : Put). here put.place && first_spent test h put.copies) (all_puts h) (one_each (Outputs i) copies)
    (born_none test h here (Outputs i) copies fresh)
first_rises test here in_stage in_hold (Split i ports copies event children) h legal =
    still (λ (put : Put). here put.place && first_spent test h put.copies) (all_puts h) (puts (Split i ports copies event children))
    (ap (λ (cs : List Child). count_puts (λ (put : Put). here put.place && first_spent test h put.copies)
    (map (λ (child : Child). record { place = Waiting i child.target; copies = child.copies }) cs)) legal.0.row.split.made
    ∙ split_none test h here i (next_copy h) (length copies) (routes h i (port_list ports)) (λ c l. not_made test h c legal.1 l))
first_rises test here in_stage in_hold (Push i t s copies) h legal =
    still (λ (put : Put). here put.place && first_spent test h put.copies) (all_puts h) (puts (Push i t s copies))
    (ap (λ b. one_if (b && first_spent test h copies) + 0) (in_stage t s))
first_rises test here in_stage in_hold (Take i s copies) h legal =
    still (λ (put : Put). here put.place && first_spent test h put.copies) (all_puts h) (puts (Take i s copies))
    (ap (λ b. one_if (b && first_spent test h copies) + 0) (in_hold i))
first_rises test here in_stage in_hold (Answer i made discarded kept) h legal =
    still (λ (put : Put). here put.place && first_spent test h put.copies) (all_puts h) (puts (Answer i made discarded kept))
    (answer_none test h here i made
    (λ c l. not_spent test h c (released_live h i made legal.1 (conserved (Answer i made discarded kept ∷ h) legal).0 c l).2))
first_rises test here in_stage in_hold (Spent i c outcome) h legal =
    let none = not_spent test h c legal.0.row.live.2 in
    let after = λ (put : Put). here put.place && first_spent test (Spent i c outcome ∷ h) put.copies in
    let whole = count_puts-append after (all_puts h) [] in
    let parted = count_parts here (first_spent test (Spent i c outcome ∷ h)) (λ copies. test outcome && begins_with c copies) (first_spent test h) (all_puts h)
    (λ copies. first_now test i c outcome h copies none) in
    omega arith
first_rises test here in_stage in_hold e h legal = still (λ (put : Put). here put.place && first_spent test h put.copies) (all_puts h) [] refl

-- A SINK'S PARCELS BY THEIR FIRST COPY
born_elsewhere : (test : List ℕ → Bool) (i j : ℕ) (copies : List ℕ) →
    count_puts (λ (put : Put). is_held_by i put.place && test put.copies) (one_each (Outputs j) copies) ≡ 0
born_elsewhere test i j [] = refl
born_elsewhere test i j (c ∷ rest) = let others = born_elsewhere test i j rest in omega arith

split_elsewhere : (test : List ℕ → Bool) (i j : ℕ) (children : List Child) →
    count_puts (λ (put : Put). is_held_by i put.place && test put.copies)
    (map (λ (child : Child). record { place = Waiting j child.target; copies = child.copies }) children) ≡ 0
split_elsewhere test i j [] = refl
split_elsewhere test i j (child ∷ rest) = let others = split_elsewhere test i j rest in omega arith

answer_elsewhere : (test : List ℕ → Bool) (i j : ℕ) (made : List Output) →
    count_puts (λ (put : Put). is_held_by i put.place && test put.copies)
    (map (λ (output : Output). record { place = Outputs j; copies = output.copies }) made) ≡ 0
answer_elsewhere test i j [] = refl
answer_elsewhere test i j (output ∷ rest) = let others = answer_elsewhere test i j rest in omega arith

-- the first copy of a parcel that stands at a place is live
first_live : (h : Record) (p : Place) (copies : List ℕ) → IsLegal h → IsOldest copies (parcels_at p (stands h)) → IsLive h (first_copy copies)
first_live h p [] legal oldest = let full = oldest_full h p [] oldest in cc
first_live h p (c ∷ rest) legal oldest =
    held_is_live h p (c ∷ rest) (conserved h legal)
    (λ d l. let among = count-oldest d (c ∷ rest) (parcels_at p (stands h)) oldest in omega arith) c (grind (arith, nat_tests))

held_rises : (status : EventStatus) → RisesLegally (parcels_spent status) (spent_in status)
held_rises status (Born j b place copies events waits stream end) h i legal =
    still (λ (put : Put). is_held_by i put.place && spent_as status h put.copies) (all_puts h) (one_each (Outputs j) copies)
    (born_elsewhere (spent_as status h) i j copies)
held_rises status (Split j ports copies event children) h i legal =
    still (λ (put : Put). is_held_by i put.place && spent_as status h put.copies) (all_puts h) (puts (Split j ports copies event children))
    (split_elsewhere (spent_as status h) i j children)
held_rises status (Push j t s copies) h i legal =
    still (λ (put : Put). is_held_by i put.place && spent_as status h put.copies) (all_puts h) (puts (Push j t s copies)) refl
held_rises status (Take j s copies) h i legal =
    let live = first_live h (Contents j s) copies legal.1 legal.0.row.oldest in
    let unspent : spent_as status h copies ≡ false = not_spent (λ outcome. same_status (status_of outcome) status) h (first_copy copies) live.2 in
    still (λ (put : Put). is_held_by i put.place && spent_as status h put.copies) (all_puts h) (puts (Take j s copies))
    (ap (λ b. one_if ((j == i) && b) + 0) unspent ∙ ap (λ b. one_if b + 0) (and_false (j == i)))
held_rises status (Answer j made discarded kept) h i legal =
    still (λ (put : Put). is_held_by i put.place && spent_as status h put.copies) (all_puts h) (puts (Answer j made discarded kept))
    (answer_elsewhere (spent_as status h) i j made)
held_rises status (Spent j c outcome) h i legal =
    let test = λ (o : Outcome). same_status (status_of o) status in
    let none = not_spent test h c legal.0.row.live.2 in
    let after = λ (put : Put). is_held_by i put.place && spent_as status (Spent j c outcome ∷ h) put.copies in
    let whole = count_puts-append after (all_puts h) [] in
    let parted = count_parts (is_held_by i) (spent_as status (Spent j c outcome ∷ h)) (λ copies. test outcome && (c == first_copy copies)) (spent_as status h) (all_puts h)
    (λ copies. spent_now test j c outcome h (first_copy copies) none) in
    omega arith
held_rises status e h i legal = still (λ (put : Put). is_held_by i put.place && spent_as status h put.copies) (all_puts h) [] refl

unread_rises : RisesLegally unread_parcels unread_in
unread_rises e h i legal = first_rises is_unread (is_output i) (λ j s. refl) (λ j. refl) e h legal

newest_rises : RisesLegally newest_parcels newest_in
newest_rises e h i legal = first_rises is_newest (is_child_for i) (λ j s. refl) (λ j. refl) e h legal

pub spent_rises : SpentRises
spent_rises = (unread_rises, newest_rises, held_rises)
