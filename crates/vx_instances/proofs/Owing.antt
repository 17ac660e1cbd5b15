-- What owes nothing owes nothing behind entries of other tasks, or that neither read, take, attempt nor answer.
use Rattle.std.proofs.Common.{◌≡◌, ℕ, ◌+◌, Bool, false, List, [], ◌∷◌, refl, arith}
use Rattle.std.specs.Prelude.{◌==◌, ◌||◌}
use Rattle.std.specs.List.{list_any}
use Rattle.std.proofs.lemmas.Bool.Decides.{nat_tests}
use Rattle.std.proofs.lemmas.Bool.{or_from, or_parts}
use Rattle.std.proofs.lemmas.List.{append-nil}
use Rattle.vx_plan.specs.Components.{is_transform}
use Rattle.vx_record.specs.declared.entry.Entry.{Entry}
use Rattle.vx_record.specs.declared.entry.Entry.TheVariants.{Install, Lease, Read, Take, Answer, Attempt, Born}
use Rattle.vx_record.specs.Records.{Record}
use Rattle.vx_record.specs.Copies.{count, all_of, spends, times_spent}
use Rattle.vx_record.specs.Tasks.{is_of}
use Rattle.vx_record.specs.Confirms.{births}
use Rattle.vx_record.specs.Installs.{transform_at}
use Rattle.vx_record.specs.Owing.{fruitful, unspent_of, decided, last_discarded, took_since, owes_birth, owes_spends_in, owes_discards, owes_answer, owes}
use Rattle.vx_record.proofs.Counts.{count-append}
use Rattle.vx_record.proofs.OwnConfirms.{births_own}
use Rattle.vx_record.proofs.OwnAnswers.{discarded_own, took_own}
use Rattle.vx_instances.proofs.Observing.{InstallsNothing, stays, component_or_on}

-- a copy that is spent stays so
spent_more : (h : Record) (e : Entry) (c : ℕ) → (times_spent h c == 0) ≡ false → (times_spent (e ∷ h) c == 0) ≡ false
spent_more h e c some =
    let few : times_spent (e ∷ h) c ≡ times_spent h c + count c (spends e) = count-append c (all_of spends h) (spends e) in
    grind (arith, nat_tests, some, few)

-- what holds of none of some holds of none where less holds
any_less : {X : Type 0} (f g : X → Bool) → ((x : X) → f x ≡ false → g x ≡ false) → (xs : List X) → list_any f xs ≡ false → list_any g xs ≡ false
any_less f g less [] none = refl
any_less f g less (x ∷ xs) none =
    let two = or_parts (f x) (list_any f xs) none in
    or_from (g x) (list_any g xs) (less x two.0) (any_less f g less xs two.1)

unspent_less : (h : Record) (e : Entry) (copies : List ℕ) → unspent_of h copies ≡ false → unspent_of (e ∷ h) copies ≡ false
unspent_less h e = any_less (λ c. times_spent h c == 0) (λ c. times_spent (e ∷ h) c == 0) (spent_more h e)

-- where an entry changes none of what is owed by
record OwesAlike (h k : Record) (i : ℕ) : Type 0 where
  births : births k i ≡ births h i
  fruitful : fruitful k i ≡ fruitful h i
  decided : decided k i ≡ decided h i
  discarded : last_discarded k i ≡ last_discarded h i
  took : took_since k i ≡ took_since h i
  transform : transform_at k i ≡ transform_at h i

none_of_four : (a b c d p q r s : Bool) → (a ≡ false → p ≡ false) → (b ≡ false → q ≡ false) → (c ≡ false → r ≡ false) → (d ≡ false → s ≡ false) →
    (a || b || c || d) ≡ false → (p || q || r || s) ≡ false
none_of_four a b c d p q r s f g u v none = grind arith

owes_by : (h : Record) (e : Entry) (i : ℕ) → OwesAlike h (e ∷ h) i → owes h i ≡ false → owes (e ∷ h) i ≡ false
owes_by h e i same =
    none_of_four (owes_birth h i) (owes_spends_in h h i) (owes_discards h i) (owes_answer h i)
    (owes_birth (e ∷ h) i) (owes_spends_in (e ∷ h) (e ∷ h) i) (owes_discards (e ∷ h) i) (owes_answer (e ∷ h) i)
    (λ none. rw (same.births, same.fruitful) none)
    (λ none. rw same.decided (any_less (unspent_of h) (unspent_of (e ∷ h)) (unspent_less h e) (decided h i) none))
    (λ none. rw same.discarded (unspent_less h e (last_discarded h i) none))
    (λ none. rw (same.transform, same.took) none)

-- OTHERS
fruitful_far : (h : Record) (e : Entry) (i : ℕ) → is_of i e ≡ false → fruitful (e ∷ h) i ≡ fruitful h i
fruitful_far h (Read j stream took) i is = rw is (omega arith)
fruitful_far h e i is = refl

decided_far : (h : Record) (e : Entry) (i : ℕ) → is_of i e ≡ false → decided (e ∷ h) i ≡ decided h i
decided_far h (Attempt j copies bytes reply) i is = rw is refl
decided_far h e i is = refl

pub owes_far : (h : Record) (e : Entry) (i : ℕ) → InstallsNothing e → is_of i e ≡ false → owes h i ≡ false → owes (e ∷ h) i ≡ false
owes_far h e i none is = owes_by h e i (record {
  births = stays births births_own h e i is;
  fruitful = fruitful_far h e i is;
  decided = decided_far h e i is;
  discarded = stays last_discarded discarded_own h e i is;
  took = stays took_since took_own h e i is;
  transform = component_or_on false is_transform h e i none;
})

-- entries of whatever task that neither install, lease, read, create a batch, take, attempt nor answer
abbrev pub OwesNoMore : Entry → Type 0
OwesNoMore (Install version plan once instances now) = ⊥
OwesNoMore (Lease i worker now polls) = ⊥
OwesNoMore (Read i stream took) = ⊥
OwesNoMore (Born i b place copies events waits stream end) = ⊥
OwesNoMore (Take i s copies) = ⊥
OwesNoMore (Answer i outputs discarded kept) = ⊥
OwesNoMore (Attempt i copies bytes reply) = ⊥
OwesNoMore other = Unit {0}

pub owes_still : (h : Record) (e : Entry) (i : ℕ) → OwesNoMore e → owes h i ≡ false → owes (e ∷ h) i ≡ false
owes_still h (Install version plan once instances now) i still none = absurd still
owes_still h e i still none = owes_by h e i (search append-nil) none
