-- How each kind of entry changes what stands at a place, in a legal record.
use Rattle.std.proofs.Common.{◌≡◌, ℕ, ◌+◌, ◌<◌, ◌≤◌, Bool, true, false, List, [], ◌∷◌, ◌++◌, map, length, refl, sym, ap, subst, ◌∙◌, arith}
use Rattle.std.specs.Prelude.{◌==◌, ◌&&◌, if◌then◌else◌}
use Rattle.std.proofs.lemmas.Bool.Decides.{nat_tests}
use Rattle.vx_value.specs.declared.event.Event.{Event}
use Rattle.vx_status.specs.declared.outcome.Outcome.{Outcome}
use Rattle.vx_record.specs.declared.child.Child.{Child}
use Rattle.vx_record.specs.declared.output.Output.{Output}
use Rattle.vx_record.specs.declared.entry.Entry.{Entry}
use Rattle.vx_record.specs.declared.entry.Entry.TheVariants.{Born, Split, Push, Take, Answer, Spent}
use Rattle.vx_record.specs.Records.{Record}
use Rattle.vx_record.specs.Copies.{count, joined}
use Rattle.vx_record.specs.Places.{Place, owner, same_place, put_out, all_puts, left}
use Rattle.vx_record.specs.Places.Place.{Outputs, Waiting, Contents, Held}
use Rattle.vx_record.specs.Lists.{shrunk, stands, parcels_at, outputs, waiting, contents, held, places, times_among}
use Rattle.vx_record.specs.Moving.{IsConserved, singles, children_for, parcels_of}
use Rattle.vx_record.specs.Legal.{IsLegal}
use Rattle.vx_record.specs.Shifts.{younger, shift}
use Rattle.vx_record.specs.ShiftLaws.{EntryShifts, StandsAt}
use Rattle.vx_record.proofs.OnePlace.{conserved}
use Rattle.vx_record.proofs.Changes.{none_empty, shrunk-none, same_place_is, places_meant}
use Rattle.vx_record.proofs.Entries.{push_pops, push_grows, push_stays, take_pops, take_grows, take_stays, split_pops, split_grows, answer_shrinks, answer_grows, answer_stays, spent_shrinks, born_grows, born_stays, split_stays}
use Rattle.vx_record.proofs.HeldCopies.{stands_still, places_few}

-- what holds at one place holds at the same
moved : (P : Place → Type 0) (p q : Place) → same_place p q ≡ true → P p → P q
moved P p q is holds = subst P (same_place_is p q is) holds

flip : (i j : ℕ) → (i == j) ≡ false → (j == i) ≡ false
flip i j is = grind (arith, nat_tests)

born_shifts : (h : Record) (i b place : ℕ) (copies : List ℕ) (events : List Event) (waits : Bool) (stream end : ℕ) (p : Place) →
    IsConserved (Born i b place copies events waits stream end ∷ h) →
    parcels_at p (stands (Born i b place copies events waits stream end ∷ h)) ≡ shift (Born i b place copies events waits stream end) p (parcels_at p (stands h))
born_shifts h i b place copies events waits stream end (Outputs j) kept = go (i == j) refl
  where
    e : Entry
    e = Born i b place copies events waits stream end

    go : (t : Bool) → (i == j) ≡ t → outputs (e ∷ h) j ≡ (if t then outputs h j ++ singles copies else outputs h j)
    go true is =
        moved (λ q. parcels_at q (stands (e ∷ h)) ≡ parcels_at q (stands h) ++ singles copies) (Outputs i) (Outputs j) is
        (born_grows h i b place copies events waits stream end kept)
    go false is = born_stays h i b place copies events waits stream end (Outputs j) kept is
born_shifts h i b place copies events waits stream end p kept = born_stays h i b place copies events waits stream end p kept refl

split_shifts : (h : Record) (i ports : ℕ) (copies : List ℕ) (event : Event) (children : List Child) (p : Place) →
    IsConserved (Split i ports copies event children ∷ h) →
    parcels_at p (stands (Split i ports copies event children ∷ h)) ≡ shift (Split i ports copies event children) p (parcels_at p (stands h))
split_shifts h i ports copies event children (Outputs j) kept = go (i == j) refl
  where
    e : Entry
    e = Split i ports copies event children

    go : (t : Bool) → (i == j) ≡ t → outputs (e ∷ h) j ≡ (if t then younger (outputs h j) else outputs h j)
    go true is =
        moved (λ q. parcels_at q (stands (e ∷ h)) ≡ younger (parcels_at q (stands h))) (Outputs i) (Outputs j) is
        (sym (ap younger (split_pops h i ports copies event children kept)))
    go false is = split_stays h i ports copies event children (Outputs j) kept is refl
split_shifts h i ports copies event children (Waiting j t) kept = go (i == j) refl
  where
    e : Entry
    e = Split i ports copies event children

    go : (b : Bool) → (i == j) ≡ b → waiting (e ∷ h) j t ≡ (if b then waiting h j t ++ children_for t children else waiting h j t)
    go true is =
        let same : i ≡ j = grind (arith, nat_tests, is) in
        subst (λ (k : ℕ). waiting (e ∷ h) k t ≡ waiting h k t ++ children_for t children) same (split_grows h i ports t copies event children kept)
    go false is = split_stays h i ports copies event children (Waiting j t) kept refl (flip i j is)
split_shifts h i ports copies event children (Contents j r) kept = split_stays h i ports copies event children (Contents j r) kept refl refl
split_shifts h i ports copies event children (Held j) kept = split_stays h i ports copies event children (Held j) kept refl refl

push_shifts : (h : Record) (i t s : ℕ) (copies : List ℕ) (p : Place) → IsConserved (Push i t s copies ∷ h) →
    parcels_at p (stands (Push i t s copies ∷ h)) ≡ shift (Push i t s copies) p (parcels_at p (stands h))
push_shifts h i t s copies (Waiting j u) kept = go ((i == j) && (t == u)) refl
  where
    e : Entry
    e = Push i t s copies

    go : (b : Bool) → ((i == j) && (t == u)) ≡ b → waiting (e ∷ h) j u ≡ (if b then younger (waiting h j u) else waiting h j u)
    go true is =
        moved (λ q. parcels_at q (stands (e ∷ h)) ≡ younger (parcels_at q (stands h))) (Waiting i t) (Waiting j u) is
        (sym (ap younger (push_pops h i t s copies kept)))
    go false is = push_stays h i t s copies (Waiting j u) kept is refl
push_shifts h i t s copies (Contents j r) kept = go ((t == j) && (s == r)) refl
  where
    e : Entry
    e = Push i t s copies

    go : (b : Bool) → ((t == j) && (s == r)) ≡ b → contents (e ∷ h) j r ≡ (if b then contents h j r ++ copies ∷ [] else contents h j r)
    go true is =
        moved (λ q. parcels_at q (stands (e ∷ h)) ≡ parcels_at q (stands h) ++ copies ∷ []) (Contents t s) (Contents j r) is
        (push_grows h i t s copies kept)
    go false is = push_stays h i t s copies (Contents j r) kept refl is
push_shifts h i t s copies (Outputs j) kept = push_stays h i t s copies (Outputs j) kept refl refl
push_shifts h i t s copies (Held j) kept = push_stays h i t s copies (Held j) kept refl refl

take_shifts : (h : Record) (i s : ℕ) (copies : List ℕ) (p : Place) → IsConserved (Take i s copies ∷ h) →
    parcels_at p (stands (Take i s copies ∷ h)) ≡ shift (Take i s copies) p (parcels_at p (stands h))
take_shifts h i s copies (Contents j r) kept = go ((i == j) && (s == r)) refl
  where
    e : Entry
    e = Take i s copies

    go : (b : Bool) → ((i == j) && (s == r)) ≡ b → contents (e ∷ h) j r ≡ (if b then younger (contents h j r) else contents h j r)
    go true is =
        moved (λ q. parcels_at q (stands (e ∷ h)) ≡ younger (parcels_at q (stands h))) (Contents i s) (Contents j r) is
        (sym (ap younger (take_pops h i s copies kept)))
    go false is = take_stays h i s copies (Contents j r) kept is refl
take_shifts h i s copies (Held j) kept = go (i == j) refl
  where
    e : Entry
    e = Take i s copies

    go : (b : Bool) → (i == j) ≡ b → held (e ∷ h) j ≡ (if b then held h j ++ copies ∷ [] else held h j)
    go true is =
        moved (λ q. parcels_at q (stands (e ∷ h)) ≡ parcels_at q (stands h) ++ copies ∷ []) (Held i) (Held j) is
        (take_grows h i s copies kept)
    go false is = take_stays h i s copies (Held j) kept refl is
take_shifts h i s copies (Outputs j) kept = take_stays h i s copies (Outputs j) kept refl refl
take_shifts h i s copies (Waiting j u) kept = take_stays h i s copies (Waiting j u) kept refl refl

answer_shifts : (h : Record) (i : ℕ) (made : List Output) (discarded rest : List ℕ) (p : Place) → IsConserved (Answer i made discarded rest ∷ h) →
    parcels_at p (stands (Answer i made discarded rest ∷ h)) ≡ shift (Answer i made discarded rest) p (parcels_at p (stands h))
answer_shifts h i made discarded rest (Outputs j) kept = go (i == j) refl
  where
    e : Entry
    e = Answer i made discarded rest

    go : (b : Bool) → (i == j) ≡ b → outputs (e ∷ h) j ≡ (if b then outputs h j ++ parcels_of made else outputs h j)
    go true is =
        moved (λ q. parcels_at q (stands (e ∷ h)) ≡ parcels_at q (stands h) ++ parcels_of made) (Outputs i) (Outputs j) is
        (answer_grows h i made discarded rest kept)
    go false is = answer_stays h i made discarded rest (Outputs j) kept is refl
answer_shifts h i made discarded rest (Held j) kept = go (i == j) refl
  where
    e : Entry
    e = Answer i made discarded rest

    go : (b : Bool) → (i == j) ≡ b → held (e ∷ h) j ≡ (if b then shrunk (put_out made) (held h j) else held h j)
    go true is =
        moved (λ q. parcels_at q (stands (e ∷ h)) ≡ shrunk (put_out made) (parcels_at q (stands h))) (Held i) (Held j) is
        (answer_shrinks h i made discarded rest kept)
    go false is = answer_stays h i made discarded rest (Held j) kept refl is
answer_shifts h i made discarded rest (Waiting j u) kept = answer_stays h i made discarded rest (Waiting j u) kept refl refl
answer_shifts h i made discarded rest (Contents j r) kept = answer_stays h i made discarded rest (Contents j r) kept refl refl

-- of a copy's one place, at an instance, no place of another is one
owned_elsewhere : (i : ℕ) (p : Place) (ps : List Place) → length ps ≤ 1 → 0 < count i (map owner ps) → (i == owner p) ≡ false → times_among p ps ≡ 0
owned_elsewhere i p [] few here other = absurd (omega arith)
owned_elsewhere i p (q ∷ []) few here other = go (same_place q p) refl
  where
    go : (b : Bool) → same_place q p ≡ b → (if b then 1 else 0) + 0 ≡ 0
    go false is = refl
    go true is = let same : owner q ≡ owner p = ap owner (same_place_is q p is) in absurd (grind (arith, nat_tests))
owned_elsewhere i p (q ∷ r ∷ rest) few here other = absurd (omega arith)

-- so nothing of what is spent where it stands is at the places of others
pub spent_none : (h : Record) (i c : ℕ) (p : Place) → IsConserved h → 0 < count i (map owner (places h c)) → (i == owner p) ≡ false →
    count c (joined (parcels_at p (stands h))) ≡ 0
spent_none h i c p kept here other = places_meant h c p ∙ owned_elsewhere i p (places h c) (places_few h c kept) here other

-- and these stay
spent_stays : (h : Record) (i c : ℕ) (p : Place) → IsConserved h → 0 < count i (map owner (places h c)) → (i == owner p) ≡ false →
    shrunk (c ∷ []) (parcels_at p (stands h)) ≡ parcels_at p (stands h)
spent_stays h i c p kept here other = shrunk-none (c ∷ []) (parcels_at p (stands h)) (none_empty p (left h) (all_puts h)) (λ d l. go d l (c == d) refl)
  where
    go : (d : ℕ) → 0 < count d (joined (parcels_at p (stands h))) → (b : Bool) → (c == d) ≡ b → (if b then 1 else 0) + 0 ≡ 0
    go d l false is = refl
    go d l true is =
        let same : c ≡ d = grind (arith, nat_tests, is) in
        let none : count d (joined (parcels_at p (stands h))) ≡ 0 = subst (λ (x : ℕ). count x (joined (parcels_at p (stands h))) ≡ 0) same (spent_none h i c p kept here other) in
        absurd (omega arith)

spent_shifts : (h : Record) (i c : ℕ) (outcome : Outcome) (p : Place) → IsLegal (Spent i c outcome ∷ h) →
    parcels_at p (stands (Spent i c outcome ∷ h)) ≡ shift (Spent i c outcome) p (parcels_at p (stands h))
spent_shifts h i c outcome p legal = go (i == owner p) refl
  where
    less : parcels_at p (stands (Spent i c outcome ∷ h)) ≡ shrunk (c ∷ []) (parcels_at p (stands h))
    less = spent_shrinks h i c outcome p (conserved (Spent i c outcome ∷ h) legal)

    go : (b : Bool) → (i == owner p) ≡ b →
        parcels_at p (stands (Spent i c outcome ∷ h)) ≡ (if b then shrunk (c ∷ []) (parcels_at p (stands h)) else parcels_at p (stands h))
    go true is = less
    go false is = less ∙ spent_stays h i c p (conserved h legal.1) legal.0.row.here is

pub entry_shifts : EntryShifts
entry_shifts h (Born i b place copies events waits stream end) p legal =
    born_shifts h i b place copies events waits stream end p (conserved (Born i b place copies events waits stream end ∷ h) legal)
entry_shifts h (Split i ports copies event children) p legal =
    split_shifts h i ports copies event children p (conserved (Split i ports copies event children ∷ h) legal)
entry_shifts h (Push i t s copies) p legal = push_shifts h i t s copies p (conserved (Push i t s copies ∷ h) legal)
entry_shifts h (Take i s copies) p legal = take_shifts h i s copies p (conserved (Take i s copies ∷ h) legal)
entry_shifts h (Answer i made discarded rest) p legal = answer_shifts h i made discarded rest p (conserved (Answer i made discarded rest ∷ h) legal)
entry_shifts h (Spent i c outcome) p legal = spent_shifts h i c outcome p legal
entry_shifts h e p legal = stands_still h e p tt (conserved h legal.1)

pub stands_at : StandsAt
stands_at [] p legal = refl
stands_at (e ∷ h) p legal = entry_shifts h e p legal ∙ ap (shift e p) (stands_at h p legal.1)
