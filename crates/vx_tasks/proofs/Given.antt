-- What a judge took since its last Answer.
use Rattle.std.proofs.Common.{◌≡◌, ℕ, ◌<◌, Bool, true, false, List, [], ◌∷◌, ◌++◌, reverse, refl, sym, ap, ◌∙◌, arith, subst}
use Rattle.std.specs.Prelude.{◌≢◌, ◌==◌, ◌&&◌, ◌||◌, not, if◌then◌else◌}
use Rattle.std.specs.List.{list_all}
use Rattle.std.proofs.lemmas.Bool.{and_parts, eqb-true}
use Rattle.std.proofs.lemmas.Bool.Decides.{nat_tests}
use Rattle.std.proofs.lemmas.List.{reverse-append}
use Rattle.vx_value.specs.declared.event.Event.{Event}
use Rattle.vx_condition.specs.Steps.{comes, ticks}
use Rattle.vx_record.specs.declared.output.Output.{Output}
use Rattle.vx_record.specs.declared.entry.Entry.{Entry}
use Rattle.vx_record.specs.declared.entry.Entry.TheVariants.{Install, Lease, Take, Tick, Answer, Abandon}
use Rattle.vx_record.specs.Records.{Record}
use Rattle.vx_record.specs.Copies.{count, joined}
use Rattle.vx_record.specs.Turns.{is_out, lease_now, since_lease, is_take_of}
use Rattle.vx_record.specs.Inputs.{Input, unanswered}
use Rattle.vx_record.specs.Parcels.{event_of, first_copy, parcel_event}
use Rattle.vx_record.specs.Places.{all_puts, left}
use Rattle.vx_record.specs.Places.Place.{Held}
use Rattle.vx_record.specs.Lists.{stands, parcels_at}
use Rattle.vx_record.specs.Owing.{unspent_of, owes_birth, owes_spends_in, owes_discards, owes_answer, last_discarded, took_since}
use Rattle.vx_record.specs.Abandoning.{abandoned}
use Rattle.vx_record.specs.Answering.{MayTick}
use Rattle.vx_record.specs.Legal.{IsLegal}
use Rattle.vx_record.specs.Judges.{judge_at, parcels_given}
use Rattle.vx_record.proofs.Counts.{count-append}
use Rattle.vx_record.proofs.Changes.{NoneEmpty, none_empty}
use Rattle.vx_record.proofs.Events.{said_before}
use Rattle.vx_record.proofs.HeldCopies.{not_there}
use Rattle.vx_record.proofs.Judges.{held_is_given}
use Rattle.vx_record.proofs.OnePlace.{conserved}
use Rattle.vx_record.proofs.Shifting.{stands_at}
use Rattle.vx_record.proofs.Spenders.{stands_live}
use Rattle.vx_places.proofs.Steps.{event_stays}
use Rattle.vx_tasks.proofs.Discarding.{unspent_less}
use Rattle.vx_tasks.proofs.Judges.{unticked}

-- WHAT IT TOOK
-- a parcel that is taken, as an input
abbrev taken_as : Record → ℕ → List ℕ → Input
taken_as h i copies = record { step = comes (parcel_event h copies) (lease_now h i); copies = copies }

-- a tick, as an input
abbrev tick_at : ℕ → Input
tick_at now = record { step = ticks now; copies = [] }

-- who took something has something to answer
pub took_some : (h : Record) (i : ℕ) → took_since h i ≡ true → unanswered h i ≢ []
took_some [] i took = cc
took_some (Take j s copies ∷ h) i took = go (j == i) took (took_some h i)
  where
    go : (b : Bool) → (b || took_since h i) ≡ true → (took_since h i ≡ true → unanswered h i ≢ []) →
        ((if b then taken_as h i copies ∷ [] else []) ++ unanswered h i) ≢ []
    go true is before = λ none. cc
    go false is before = before is
took_some (Tick j now ∷ h) i took = go (j == i) (took_some h i took)
  where
    go : (b : Bool) → unanswered h i ≢ [] → ((if b then tick_at now ∷ [] else []) ++ unanswered h i) ≢ []
    go true before = λ none. cc
    go false before = before
took_some (Answer j made discarded kept ∷ h) i took = go (j == i) took (took_some h i)
  where
    go : (b : Bool) → (not b && took_since h i) ≡ true → (took_since h i ≡ true → unanswered h i ≢ []) →
        (if b then [] else unanswered h i) ≢ []
    go true is before = cc
    go false is before = before is
took_some (e ∷ h) i took = took_some h i took

third_fails : (a b c d : Bool) → (a || b || c || d) ≡ false → c ≡ false
third_fails a b false d none = refl
third_fails true b true d none = cc
third_fails false true true d none = cc
third_fails false false true d none = cc

-- behind a Lease with nothing but Takes all that an instance discarded is spent
takes_settled : (h : Record) (i : ℕ) → IsLegal h → is_out h i ≡ true → list_all (is_take_of i) (since_lease h i) ≡ true →
    owes_discards h i ≡ false
takes_settled [] i legal out takes = cc
takes_settled (Lease j worker now polls ∷ h) i legal out takes =
    unspent_less h (Lease j worker now polls) (last_discarded h i) (go (j == i) refl takes)
  where
    go : (b : Bool) → (j == i) ≡ b → list_all (is_take_of i) (if b then [] else Lease j worker now polls ∷ since_lease h i) ≡ true →
        owes_discards h i ≡ false
    go true is all =
        subst (λ (k : ℕ). owes_discards h k ≡ false) (eqb-true j i is)
        (third_fails (owes_birth h j) (owes_spends_in h h j) (owes_discards h j) (owes_answer h j) legal.0.row.settled)
    go false is all = cc
takes_settled (Take j s copies ∷ h) i legal out takes =
    unspent_less h (Take j s copies) (last_discarded h i)
    (takes_settled h i legal.1 out (and_parts (j == i) (list_all (is_take_of i) (since_lease h i)) takes).1)
takes_settled (e ∷ h) i legal out takes = cc

-- and so it is while there is something to answer
settled_since : (h : Record) (i : ℕ) → IsLegal h → judge_at h i ≡ true → unanswered h i ≢ [] → owes_discards h i ≡ false
settled_since [] i legal judge some = refl
settled_since (Install version plan once instances now ∷ h) i legal judge some =
    absurd (some (ap (λ (k : Record). unanswered k i) legal.0.row.first))
settled_since (Take j s copies ∷ h) i legal judge some =
    unspent_less h (Take j s copies) (last_discarded h i) (go (j == i) refl some (settled_since h i legal.1 judge))
  where
    go : (b : Bool) → (j == i) ≡ b → ((if b then taken_as h i copies ∷ [] else []) ++ unanswered h i) ≢ [] →
        (unanswered h i ≢ [] → owes_discards h i ≡ false) → owes_discards h i ≡ false
    go true is more before =
        subst (λ (k : ℕ). owes_discards h k ≡ false) (eqb-true j i is)
        (takes_settled h j legal.1 legal.0.row.out legal.0.row.only_takes)
    go false is more before = before more
settled_since (Tick j now ∷ h) i legal judge some =
    unspent_less h (Tick j now) (last_discarded h i) (go (j == i) refl some (settled_since h i legal.1 judge))
  where
    go : (b : Bool) → (j == i) ≡ b → ((if b then tick_at now ∷ [] else []) ++ unanswered h i) ≢ [] →
        (unanswered h i ≢ [] → owes_discards h i ≡ false) → owes_discards h i ≡ false
    go true is more before = absurd (unticked h i now judge (subst (λ (k : ℕ). MayTick h k now) (eqb-true j i is) legal.0.row))
    go false is more before = before more
settled_since (Answer j made discarded kept ∷ h) i legal judge some = go (j == i) some (settled_since h i legal.1 judge)
  where
    all : Record
    all = Answer j made discarded kept ∷ h

    go : (b : Bool) → (if b then [] else unanswered h i) ≢ [] → (unanswered h i ≢ [] → owes_discards h i ≡ false) →
        unspent_of all (if b then discarded else last_discarded h i) ≡ false
    go true more before = absurd (more refl)
    go false more before = unspent_less h (Answer j made discarded kept) (last_discarded h i) (before more)
settled_since (e ∷ h) i legal judge some = unspent_less h e (last_discarded h i) (settled_since h i legal.1 judge some)

-- THE EVENTS OF WHAT IT TOOK
-- an input is a parcel that came with the event that the record has for it
abbrev pub Came : Record → Input → Type 0
Came h x = (moment : ℕ) × (x.step ≡ comes (parcel_event h x.copies) moment)

-- each of some inputs is
abbrev pub AllCame : Record → List Input → Type 0
AllCame h [] = Unit {0}
AllCame h (x ∷ xs) = Came h x × AllCame h xs

came-append : (h : Record) (xs ys : List Input) → AllCame h xs → AllCame h ys → AllCame h (xs ++ ys)
came-append h [] ys a b = b
came-append h (x ∷ xs) ys a b = (a.0, came-append h xs ys a.1 b)

-- so it is in another record that has the same events for their copies
came_on : (old new : Record) (xs : List Input) → NoneEmpty (parcels_given xs) →
    ((c : ℕ) → 0 < count c (joined (parcels_given xs)) → event_of new c ≡ event_of old c) →
    AllCame old xs → AllCame new xs
came_on old new [] full same are = tt
came_on old new (x ∷ xs) full same are =
    let first : event_of new (first_copy x.copies) ≡ event_of old (first_copy x.copies) =
    same (first_copy x.copies) (leads x.copies full) in (
      (are.0.0, are.0.1 ∙ ap (λ (e : Event). comes e are.0.0) (sym first)),
      came_on old new xs (others x.copies full)
          (λ c l. same c (let all = count-append c x.copies (joined (parcels_given xs)) in omega (arith, l, all))) are.1,
    )
  where
    leads : (cs : List ℕ) → NoneEmpty (cs ∷ parcels_given xs) → 0 < count (first_copy cs) (cs ++ joined (parcels_given xs))
    leads [] f = absurd f
    leads (c ∷ cs) f = grind (arith, nat_tests)

    others : (cs : List ℕ) → NoneEmpty (cs ∷ parcels_given xs) → NoneEmpty (parcels_given xs)
    others [] f = absurd f
    others (c ∷ cs) f = f

-- an entry is no answer of the instance
abbrev IsElsewhere : Entry → ℕ → Type 0
IsElsewhere (Answer j made discarded kept) i = (j == i) ≡ false
IsElsewhere other i = Unit {0}

-- behind such an entry what it holds has the event that it had
event_kept : (h : Record) (e : Entry) (i c : ℕ) → IsLegal (e ∷ h) → IsElsewhere e i →
    0 < count c (joined (parcels_at (Held i) (stands h))) → event_of (e ∷ h) c ≡ event_of h c
event_kept h (Answer j made discarded kept) i c legal other there =
    let none = not_there h (Held i) (Held j) c (conserved h legal.1) (apart other) there in
    let released = (conserved (Answer j made discarded kept ∷ h) legal).0 c in
    said_before (λ (output : Output). output.event) made c (event_of h c) (omega (arith, none, released))
  where
    apart : (j == i) ≡ false → (i == j) ≡ false
    apart is = grind (arith, nat_tests, is)
event_kept h e i c legal other there = event_stays h e c tt (stands_live h (Held i) c (conserved h legal.1) there).0

-- and so has what it took
came_kept : (h : Record) (e : Entry) (i : ℕ) → IsLegal (e ∷ h) → abandoned h ≡ false → judge_at h i ≡ true → IsElsewhere e i →
    AllCame h (reverse (unanswered h i)) → AllCame (e ∷ h) (reverse (unanswered h i))
came_kept h e i legal run judge other are = go (unanswered h i) refl are
  where
    go : (xs : List Input) → unanswered h i ≡ xs → AllCame h (reverse xs) → AllCame (e ∷ h) (reverse xs)
    go [] is came = tt
    go (x ∷ xs) is came =
        let some : unanswered h i ≢ [] = λ none. (cc (is, none)) in
        let there : parcels_at (Held i) (stands h) ≡ parcels_given (reverse (x ∷ xs)) =
        stands_at h (Held i) legal.1
        ∙ held_is_given h i legal.1 run judge (settled_since h i legal.1 judge some)
        ∙ ap (λ (given : List Input). parcels_given (reverse given)) is in
        came_on h (e ∷ h) (reverse (x ∷ xs)) (subst NoneEmpty there (none_empty (Held i) (left h) (all_puts h)))
        (λ c l. event_kept h e i c legal other (subst (λ (ps : List (List ℕ)). 0 < count c (joined ps)) (sym there) l)) came

-- all that a judge took since its last Answer came with the event that the record has for it
pub all_came : (h : Record) (i : ℕ) → IsLegal h → abandoned h ≡ false → judge_at h i ≡ true → AllCame h (reverse (unanswered h i))
all_came [] i legal run judge = tt
all_came (Install version plan once instances now ∷ h) i legal run judge =
    subst (λ (k : Record). AllCame (Install version plan once instances now ∷ k) (reverse (unanswered k i)))
    (sym legal.0.row.first) tt
all_came (Take j s copies ∷ h) i legal run judge =
    go (j == i) (came_kept h (Take j s copies) i legal run judge tt (all_came h i legal.1 run judge))
  where
    all : Record
    all = Take j s copies ∷ h

    go : (b : Bool) → AllCame all (reverse (unanswered h i)) →
        AllCame all (reverse ((if b then taken_as h i copies ∷ [] else []) ++ unanswered h i))
    go true before =
        subst (AllCame all) (sym (reverse-append (taken_as h i copies ∷ []) (unanswered h i)))
        (came-append all (reverse (unanswered h i)) (taken_as h i copies ∷ []) before ((lease_now h i, refl), tt))
    go false before = before
all_came (Tick j now ∷ h) i legal run judge =
    go (j == i) refl (came_kept h (Tick j now) i legal run judge tt (all_came h i legal.1 run judge))
  where
    go : (b : Bool) → (j == i) ≡ b → AllCame (Tick j now ∷ h) (reverse (unanswered h i)) →
        AllCame (Tick j now ∷ h) (reverse ((if b then tick_at now ∷ [] else []) ++ unanswered h i))
    go true is before = absurd (unticked h i now judge (subst (λ (k : ℕ). MayTick h k now) (eqb-true j i is) legal.0.row))
    go false is before = before
all_came (Answer j made discarded kept ∷ h) i legal run judge = go (j == i) refl (all_came h i legal.1 run judge)
  where
    go : (b : Bool) → (j == i) ≡ b → AllCame h (reverse (unanswered h i)) →
        AllCame (Answer j made discarded kept ∷ h) (reverse (if b then [] else unanswered h i))
    go true is before = tt
    go false is before = came_kept h (Answer j made discarded kept) i legal run judge is before
all_came (Abandon cause ∷ h) i legal run judge = cc
all_came (e ∷ h) i legal run judge = came_kept h e i legal run judge tt (all_came h i legal.1 run judge)
