-- What a transform discarded, what it answers last, where a parcel enters, and how long what failed waits.
use Rattle.std.proofs.Common.{◌≡◌, ℕ, zero, suc, ◌+◌, ◌<◌, ◌≤◌, Bool, true, false, ◌||◌, Some, List, [], ◌∷◌, ◌++◌, sym, refl, ap, subst, arith, inl, inr, length, drop}
use Rattle.std.specs.Prelude.{◌==◌, if◌then◌else◌, nat_lt, slice_get}
use Rattle.std.proofs.lemmas.Bool.Decides.{nat_tests}
use Rattle.std.proofs.lemmas.Bool.{cases_eq}
use Rattle.vx_condition.specs.Steps.{comes, ticks}
use Rattle.vx_plan.specs.declared.stage.Stage.{Stage}
use Rattle.vx_record.specs.declared.entry.Entry.TheVariants.{Install, Lease, Push, Take, Tick, Answer, Attempt}
use Rattle.vx_record.specs.Records.{Record, capped}
use Rattle.vx_record.specs.Copies.{count, times_spent}
use Rattle.vx_record.specs.Turns.{lease_now}
use Rattle.vx_record.specs.Installs.{transform_at}
use Rattle.vx_record.specs.Lists.{contents}
use Rattle.vx_record.specs.Parcels.{first_copy, parcel_event}
use Rattle.vx_record.specs.Stages.{stages_of, room_from}
use Rattle.vx_record.specs.SinkBatches.{failures_with, failed_at, wait_after, oldest_held}
use Rattle.vx_record.specs.Inputs.{unanswered, has_tick, ticks_wait}
use Rattle.vx_record.specs.Owing.{unspent_of, last_discarded, owes_birth, owes_spends_in, owes_discards, owes_answer}
use Rattle.vx_record.specs.Laws.{DiscardsGo, TickLast, PushesFirst, AttemptsWait}
use Rattle.vx_record.proofs.OnePlace.{legal_before}
use Rattle.vx_record.proofs.Rules.{some_is}

pub tick_last : TickLast
tick_last [] i legal t = refl
tick_last (Install version plan once instances now ∷ h) i legal t = ap (λ g. has_tick (drop 1 (unanswered g i))) legal.0.row.first
tick_last (Take j s copies ∷ h) i legal t = go (j == i) refl (tick_last h i legal.1 t)
  where
    go : (b : Bool) → (j == i) ≡ b → has_tick (drop 1 (unanswered h i)) ≡ false →
        has_tick (drop 1 ((if b then record { step = comes (parcel_event h copies) (lease_now h i); copies = copies } ∷ [] else []) ++ unanswered h i)) ≡ false
    go false e ih = ih
    go true e ih =
        let same : j ≡ i = grind (arith, nat_tests) in
        subst (λ k. transform_at h k ≡ true → ticks_wait h k ≡ false) same legal.0.row.unticked t
tick_last (Tick j now ∷ h) i legal t = go (j == i) refl (tick_last h i legal.1 t)
  where
    go : (b : Bool) → (j == i) ≡ b → has_tick (drop 1 (unanswered h i)) ≡ false →
        has_tick (drop 1 ((if b then record { step = ticks now; copies = [] } ∷ [] else []) ++ unanswered h i)) ≡ false
    go false e ih = ih
    go true e ih =
        let same : j ≡ i = grind (arith, nat_tests) in
        subst (λ k. ticks_wait h k ≡ false) same legal.0.row.once
tick_last (Answer j outputs discarded kept ∷ h) i legal t = go (j == i) (tick_last h i legal.1 t)
  where
    go : (b : Bool) → has_tick (drop 1 (unanswered h i)) ≡ false → has_tick (drop 1 (if b then [] else unanswered h i)) ≡ false
    go true ih = refl
    go false ih = ih
tick_last (e ∷ h) i legal t = tick_last h i legal.1 t

-- where none of some copies is unspent, each is spent
pub all_spent : (h : Record) (copies : List ℕ) → unspent_of h copies ≡ false → (c : ℕ) → 0 < count c copies → 0 < times_spent h c
all_spent h [] e c l = absurd (omega arith)
all_spent h (d ∷ ds) e c l = go (times_spent h d == 0) refl (λ g m. all_spent h ds g c m) e
  where
    go : (b : Bool) → (times_spent h d == 0) ≡ b → (unspent_of h ds ≡ false → 0 < count c ds → 0 < times_spent h c) → (b || unspent_of h ds) ≡ false → 0 < times_spent h c
    go true f ih g = cc
    go false f ih g =
        elim (cases_eq d c) [
          | inl same ↦ subst (λ x. 0 < times_spent h x) same (grind (arith, nat_tests))
          | inr other ↦ let more : 0 < count c ds = grind (arith, nat_tests) in ih g more
        ]

third_fails : (a b c d : Bool) → (a || b || c || d) ≡ false → c ≡ false
third_fails a b c d none = grind arith

pub discards_go : DiscardsGo
discards_go later earlier i worker now polls legal c l =
    let row = (legal_before later (Lease i worker now polls ∷ earlier) legal).0.row in
    all_spent earlier (last_discarded earlier i) (third_fails (owes_birth earlier i) (owes_spends_in earlier earlier i) (owes_discards earlier i) (owes_answer earlier i) row.settled) c l

-- what is said of the stage with a number: each before the one that is entered is full, and that one has room
abbrev IsBeforeRoom : Record → ℕ → ℕ → ℕ → Stage → Type 0
IsBeforeRoom h t s r stage = (r < s → stage.max_events ≤ length (contents h t r)) × (r ≡ s → length (contents h t r) < stage.max_events)

room_least : (h : Record) (t from s : ℕ) (stages : List Stage) → room_from from h t stages ≡ Some s → from ≤ s
room_least h t from s [] found = cc
room_least h t from s (stage ∷ rest) found =
    go (nat_lt (length (contents h t from)) stage.max_events) (λ f. room_least h t (from + 1) s rest f) found
  where
    go : (b : Bool) → (room_from (from + 1) h t rest ≡ Some s → from + 1 ≤ s) → (if b then Some from else room_from (from + 1) h t rest) ≡ Some s → from ≤ s
    go true ih f = let e = some_is from s f in omega arith
    go false ih f = let e = ih f in omega arith

room_first : (h : Record) (t from s : ℕ) (stages : List Stage) → room_from from h t stages ≡ Some s → (r : ℕ) (stage : Stage) → slice_get stages r ≡ Some stage →
    IsBeforeRoom h t s (from + r) stage
room_first h t from s [] found r stage at = cc
room_first h t from s (here ∷ rest) found r stage at =
    go (nat_lt (length (contents h t from)) here.max_events) refl found (λ f k g. room_first h t (from + 1) s rest f k stage g) r at
  where
    at_first : (x : Stage) → IsBeforeRoom h t s from x → IsBeforeRoom h t s (from + zero) x
    at_first x is = let same : from ≡ from + zero = omega arith in subst (λ r. IsBeforeRoom h t s r x) same is

    go : (b : Bool) → nat_lt (length (contents h t from)) here.max_events ≡ b → (if b then Some from else room_from (from + 1) h t rest) ≡ Some s →
        (room_from (from + 1) h t rest ≡ Some s → (k : ℕ) → slice_get rest k ≡ Some stage → IsBeforeRoom h t s (from + 1 + k) stage) →
        (k : ℕ) → slice_get (here ∷ rest) k ≡ Some stage → IsBeforeRoom h t s (from + k) stage
    go true e f ih zero g =
        let first = some_is from s f in
        let room : length (contents h t from) < here.max_events = grind (arith, nat_tests) in
        let none : IsBeforeRoom h t s from here = ((λ l. absurd (omega arith)), (λ l. room)) in
        at_first stage (subst (λ (x : Stage). IsBeforeRoom h t s from x) (some_is here stage g) none)
    go true e f ih (suc k) g = let first = some_is from s f in ((λ l. absurd (omega arith)), (λ l. absurd (omega arith)))
    go false e f ih zero g =
        let least = room_least h t (from + 1) s rest f in
        let full : here.max_events ≤ length (contents h t from) = grind (arith, nat_tests) in
        let before : IsBeforeRoom h t s from here = ((λ l. full), (λ l. absurd (omega arith))) in
        at_first stage (subst (λ (x : Stage). IsBeforeRoom h t s from x) (some_is here stage g) before)
    go false e f ih (suc k) g =
        let later : from + 1 + k ≡ from + suc k = omega arith in
        subst (λ r. IsBeforeRoom h t s r stage) later (ih f k g)

pub pushes_first : PushesFirst
pushes_first later earlier i t s copies legal r stage at =
    let row = (legal_before later (Push i t s copies ∷ earlier) legal).0.row in
    let same : 0 + r ≡ r = omega arith in
    subst (λ place. IsBeforeRoom earlier t s place stage) same (room_first earlier t 0 s (stages_of earlier t) row.room r stage at)

-- the moment from which on a sink batch may be attempted again that a copy is in
abbrev retry_after : Record → ℕ → ℕ → ℕ
retry_after h i c = if failures_with h i c == 0 then 0 else capped (failed_at h i c + wait_after h i (failures_with h i c))

-- which is that moment, behind so many failed ones
retry_is : (k moment : ℕ) → 0 < k → (if k == 0 then 0 else moment) ≡ moment
retry_is k moment some = grind (arith, nat_tests)

pub attempts_wait : AttemptsWait
attempts_wait later earlier i copies bytes reply legal failed =
    let row = (legal_before later (Attempt i copies bytes reply ∷ earlier) legal).0.row in
    let same : first_copy copies ≡ oldest_held earlier i = ap first_copy row.all in
    let waited : retry_after earlier i (first_copy copies) ≤ lease_now earlier i = subst (λ c. retry_after earlier i c ≤ lease_now earlier i) (sym same) row.waited in
    subst (λ m. m ≤ lease_now earlier i)
    (retry_is (failures_with earlier i (first_copy copies)) (capped (failed_at earlier i (first_copy copies) + wait_after earlier i (failures_with earlier i (first_copy copies)))) failed)
    waited
