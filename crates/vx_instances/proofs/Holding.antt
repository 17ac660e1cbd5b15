-- What a sink holds: what it took, until that is spent; the moment of the oldest parcel, and the failures of what is held, behind
-- each kind of entry.
use Rattle.std.proofs.Common.{◌≡◌, ◌∙◌, ◌<◌, ◌≤◌, inl, inr, ℕ, ◌+◌, Bool, true, false, Some, None, List, [], ◌∷◌, ◌++◌, length, refl, sym, ap, subst, arith}
use Rattle.std.specs.Prelude.{◌==◌, ◌&&◌, ◌||◌, not, if◌then◌else◌}
use Rattle.std.proofs.lemmas.Bool.{cases_Bool, cases_eq, cases_lt, false≢true, or_parts}
use Rattle.std.proofs.lemmas.Bool.Decides.{nat_tests}
use Rattle.std.proofs.lemmas.List.{append-nil}
use Rattle.std.proofs.lemmas.List.Folds.{list_any-append}
use Rattle.vx_value.specs.Texts.{is_empty}
use Rattle.vx_ends.specs.declared.trouble.Reply.{Reply}
use Rattle.vx_status.specs.declared.outcome.Outcome.{Outcome}
use Rattle.vx_status.specs.declared.outcome.Outcome.TheVariants.{Delivered, Filtered, NewestDropped, NoConsumer, Attempts, Abandoned, Refusal}
use Rattle.vx_plan.specs.Components.{is_sink}
use Rattle.vx_plan.specs.declared.class.Class.TheVariants.{Sink}
use Rattle.vx_record.specs.declared.output.Output.{Output}
use Rattle.vx_record.specs.declared.entry.Entry.{Entry}
use Rattle.vx_record.specs.declared.entry.Entry.TheVariants.{Install, Take, Answer, Attempt, Spent, Abandon}
use Rattle.vx_record.specs.Records.{Record, capped}
use Rattle.vx_record.specs.Legal.{IsLegal}
use Rattle.vx_record.specs.Copies.{count, contains, joined, all_of, spends, times_spent}
use Rattle.vx_record.specs.Tasks.{is_of}
use Rattle.vx_record.specs.Turns.{lease_now}
use Rattle.vx_record.specs.Installs.{sink_at}
use Rattle.vx_record.specs.Ceasing.{cause_of}
use Rattle.vx_record.specs.Lists.{contents, held, places, without, and_rest, shrunk}
use Rattle.vx_record.specs.Moving.{IsConserved}
use Rattle.vx_record.specs.Parcels.{first_copy}
use Rattle.vx_record.specs.Places.{left, all_puts}
use Rattle.vx_record.specs.Places.Place.{Outputs, Waiting, Contents, Held}
use Rattle.vx_record.specs.Shifts.{at}
use Rattle.vx_record.specs.SinkBatches.{attempts_with, failures_with, failed_at, is_failed, taken_at, oldest_held, is_full_batch, is_timed_out, is_last_batch, was_attempted}
use Rattle.vx_record.specs.Spending.{last_attempted}
use Rattle.vx_record.specs.Tallies.{is_first}
use Rattle.vx_record.proofs.Answerers.{sink_untransforming, unanswering}
use Rattle.vx_record.proofs.Attempted.{attempted_held, joined_and_rest, joined_more, count_shrunk}
use Rattle.vx_record.proofs.Ceasing.{has_cause}
use Rattle.vx_record.proofs.Changes.{NoneEmpty, none_empty, places_meant, shrunk-none}
use Rattle.vx_record.proofs.Counts.{count-append}
use Rattle.vx_record.proofs.HeldCopies.{not_there}
use Rattle.vx_record.proofs.OnePlace.{conserved, live_stands}
use Rattle.vx_record.proofs.OwnAttempts.{taken_own, attempts_own, failures_own, failed_own}
use Rattle.vx_record.proofs.OwnPlaces.{held_apart}
use Rattle.vx_record.proofs.Place.{count-oldest}
use Rattle.vx_record.proofs.Promises.{failed_counts, last_counts, transforms_filter}
use Rattle.vx_record.proofs.Shifting.{stands_at}
use Rattle.vx_record.proofs.Untried.{among_length, spent_failed, unspent_before}
use Rattle.vx_counts.specs.Classes.{class_at}
use Rattle.vx_counts.proofs.Beginnings.{oldest_some}
use Rattle.vx_counts.proofs.Once.{itself}
use Rattle.vx_counts.proofs.SpentFrom.{legal_place}
use Rattle.vx_instances.specs.Knowing.{IsSince, HasFailed}
use Rattle.vx_instances.proofs.Observing.{InstallsNothing, stays, component_or_on}

-- THE MOMENT
-- what is kept of a sink is the moment of the oldest parcel that it holds
abbrev pub HasSince : Record → ℕ → ℕ → Type 0
HasSince h i since = sink_at h i ≡ true → IsSince h i since (at h (Held i))

-- a run that isn't given up wasn't before
pub cause_earlier : (h : Record) (e : Entry) → cause_of (e ∷ h) ≡ None → cause_of h ≡ None
cause_earlier h (Abandon cause) going = cc
cause_earlier h e going = going

-- it stays where that parcel is the same, its take, and no attempt of it is lost
since_by : (h k : Record) (i since : ℕ) (ps : List (List ℕ)) → (cause_of k ≡ None → cause_of h ≡ None) →
    ((c : ℕ) → attempts_with k i c ≡ 0 → attempts_with h i c ≡ 0) → ((c : ℕ) → taken_at k i c ≡ taken_at h i c) → IsSince h i since ps → IsSince k i since ps
since_by h k i since [] cause tried taken old = tt
since_by h k i since (copies ∷ rest) cause tried taken old = λ going none. old (cause going) (tried (first_copy copies) none) ∙ sym (taken (first_copy copies))

-- so an entry leaves it that installs, takes, answers and spends nothing
abbrev pub IsCalm : Entry → Type 0
IsCalm (Install version plan once instances now) = ⊥
IsCalm (Take i s copies) = ⊥
IsCalm (Answer i outputs discarded kept) = ⊥
IsCalm (Spent i c outcome) = ⊥
IsCalm other = Unit {0}

pub since_calm : (since : ℕ) (h : Record) (e : Entry) (i : ℕ) → IsCalm e → HasSince h i since → HasSince (e ∷ h) i since
since_calm since h (Install version plan once instances now) i calm was = absurd calm
since_calm since h (Take j s copies) i calm was = absurd calm
since_calm since h (Answer j outputs discarded kept) i calm was = absurd calm
since_calm since h (Spent j c outcome) i calm was = absurd calm
since_calm since h e i calm was = λ sink. since_by h (e ∷ h) i since (at h (Held i)) (cause_earlier h e) (λ c none. omega arith) (λ c. refl) (was sink)

-- and one of others
pub since_far : (since : ℕ) (h : Record) (e : Entry) (i : ℕ) → InstallsNothing e → is_of i e ≡ false → HasSince h i since → HasSince (e ∷ h) i since
since_far since h e i none is was = λ sink.
    rw (held_apart e i (at h (Held i)) is)
    (since_by h (e ∷ h) i since (at h (Held i)) (cause_earlier h e) (λ c untried. sym (stays (λ h i. attempts_with h i c) (attempts_own c) h e i is) ∙ untried)
    (λ c. stays (λ h i. taken_at h i c) (taken_own c) h e i is) (was (sym (component_or_on false is_sink h e i none) ∙ sink)))

-- and an answer, since no sink gives one
pub since_answered : (since : ℕ) (h : Record) (i : ℕ) (outputs : List Output) (discarded kept : List ℕ) → IsLegal (Answer i outputs discarded kept ∷ h) →
    HasSince (Answer i outputs discarded kept ∷ h) i since
since_answered since h i outputs discarded kept legal = λ sink.
    absurd (false≢true (sym (unanswering h i i outputs discarded kept legal (sink_untransforming h i sink)) ∙ itself i))

-- WHAT STANDS THERE
held_full : (h : Record) (i : ℕ) → IsLegal h → NoneEmpty (at h (Held i))
held_full h i legal = subst NoneEmpty (stands_at h (Held i) legal) (none_empty (Held i) (left h) (all_puts h))

pub held_none_empty : (h : Record) (i : ℕ) → NoneEmpty (held h i)
held_none_empty h i = none_empty (Held i) (left h) (all_puts h)

-- some parcels, of which there is one where a copy is in them
some_parcel : (c : ℕ) (ps : List (List ℕ)) → 0 < count c (joined ps) → 0 < length ps
some_parcel c [] l = absurd (omega (arith, l))
some_parcel c (p ∷ ps) l = omega arith

filled : (ps : List (List ℕ)) → is_empty ps ≡ false → 0 < length ps
filled [] some = cc
filled (p ∷ ps) some = omega arith

not_empty : (ps : List (List ℕ)) → 0 < length ps → is_empty ps ≡ false
not_empty [] l = absurd (omega (arith, l))
not_empty (p ∷ ps) l = refl

first_counted : (c : ℕ) (cs : List ℕ) → 0 < count c (c ∷ cs)
first_counted c cs = let t = itself c in grind (arith, nat_tests)

some_first : (copies : List ℕ) → 0 < length copies → 0 < count (first_copy copies) copies
some_first [] l = absurd (omega arith)
some_first (c ∷ cs) l = first_counted c cs

-- the copy of them that came first
pub oldest_among : (ps : List (List ℕ)) → NoneEmpty ps → 0 < length ps → 0 < count (first_copy (joined ps)) (joined ps)
oldest_among [] full l = absurd (omega (arith, l))
oldest_among ([] ∷ ps) full l = absurd full
oldest_among ((c ∷ cs) ∷ ps) full l = let a = first_counted c cs in let b = count-append c (c ∷ cs) (joined ps) in omega (arith, a, b)

-- TAKES
-- what an instance holds isn't taken
not_taken : (h : Record) (i s c : ℕ) (copies : List ℕ) → IsConserved (Take i s copies ∷ h) → 0 < count c (joined (held h i)) → count c copies ≡ 0
not_taken h i s c copies kept l =
    let here = count-oldest c copies (contents h i s) kept.0 in
    let none = not_there h (Held i) (Contents i s) c kept.1 refl l in
    omega (arith, here, none)

taken_now : (h : Record) (i s : ℕ) (copies : List ℕ) → 0 < length copies → taken_at (Take i s copies ∷ h) i (first_copy copies) ≡ lease_now h i
taken_now h i s copies l =
    let some = some_first copies l in
    let has : contains copies (first_copy copies) ≡ true = grind (arith, nat_tests) in
    rw (itself i, has) refl

since_more : (h : Record) (i s : ℕ) (copies : List ℕ) (since before : ℕ) (was : List (List ℕ)) → IsConserved (Take i s copies ∷ h) → 0 < length copies → NoneEmpty was →
    ((c : ℕ) → count c (joined was) ≡ count c (joined (held h i))) → since ≡ (if is_empty was then lease_now h i else before) → IsSince h i before was →
    IsSince (Take i s copies ∷ h) i since (was ++ copies ∷ [])
since_more h i s copies since before [] kept some full same is old = λ going none. is ∙ sym (taken_now h i s copies some)
since_more h i s copies since before ([] ∷ rest) kept some full same is old = absurd full
since_more h i s copies since before ((c ∷ cs) ∷ rest) kept some full same is old = λ going none.
    let here : 0 < count c (joined (held h i)) = (let a = first_counted c cs in let b = count-append c (c ∷ cs) (joined rest) in let e = same c in omega (arith, a, b, e)) in
    let as_it_was : taken_at (Take i s copies ∷ h) i c ≡ taken_at h i c = rw (itself i, not_taken h i s c copies kept here) refl in
    is ∙ old going none ∙ sym as_it_was

pub since_took : (h : Record) (i s : ℕ) (copies : List ℕ) (since before : ℕ) → IsLegal (Take i s copies ∷ h) →
    since ≡ (if is_empty (at h (Held i)) then lease_now h i else before) →
    HasSince h i before → HasSince (Take i s copies ∷ h) i since
since_took h i s copies since before legal is old = λ sink. rw (itself i)
    (since_more h i s copies since before (at h (Held i)) (conserved (Take i s copies ∷ h) legal) (oldest_some h (Contents i s) copies legal.0.row.oldest) (held_full h i legal.1)
    (λ c. ap (λ (ps : List (List ℕ)). count c (joined ps)) (sym (stands_at h (Held i) legal.1))) is (old sink))

-- ATTEMPTS
not_tried : (empty full timed last tried : Bool) → (not empty && (full || timed || last || tried)) ≡ false → empty ≡ false → tried ≡ false
not_tried true full timed last tried unclosed some = cc
not_tried false full timed last tried unclosed some = (or_parts (full || timed || last) tried unclosed).1

-- while a sink takes more, it never attempted the oldest parcel that it holds
untried_yet : (h : Record) (i s : ℕ) (copies : List ℕ) → IsLegal (Take i s copies ∷ h) → sink_at h i ≡ true → 0 < length (held h i) → attempts_with h i (oldest_held h i) ≡ 0
untried_yet h i s copies legal sink some =
    let off = not_tried (is_empty (held h i)) (is_full_batch h i) (is_timed_out h i (lease_now h i)) (is_last_batch h i) (was_attempted h i) (legal.0.row.unclosed sink) (not_empty (held h i) some) in
    grind (arith, nat_tests, off)

without_few : (d : ℕ) (gone xs : List ℕ) → count d (without gone xs) ≤ count d xs
without_few d gone [] = omega arith
without_few d gone (x ∷ xs) = let few = without_few d gone xs in grind arith

shrunk_few : (d : ℕ) (gone : List ℕ) (ps : List (List ℕ)) → count d (joined (shrunk gone ps)) ≤ count d (joined ps)
shrunk_few d gone [] = omega arith
shrunk_few d gone (p ∷ ps) =
    let few = without_few d gone p in
    let rest = shrunk_few d gone ps in
    omega (arith, few, rest, joined_and_rest d (without gone p) (shrunk gone ps), count-append d p (joined ps))

full_rest : (cs : List ℕ) (ps : List (List ℕ)) → NoneEmpty ps → NoneEmpty (and_rest cs ps)
full_rest [] ps full = full
full_rest (c ∷ cs) ps full = full

shrunk_full : (gone : List ℕ) (ps : List (List ℕ)) → NoneEmpty (shrunk gone ps)
shrunk_full gone [] = tt
shrunk_full gone (p ∷ ps) = full_rest (without gone p) (shrunk gone ps) (shrunk_full gone ps)

-- while a copy of the last attempt is unspent, a sink holds nothing but what it attempted
all_tried : (h : Record) (i c d : ℕ) → IsLegal h → sink_at h i ≡ true → 0 < count c (last_attempted h i) → times_spent h c ≡ 0 →
    0 < count d (joined (at h (Held i))) → 0 < attempts_with h i d
all_tried [] i c d legal sink some none here = absurd (omega arith)
all_tried (Install version plan once instances now ∷ h) i c d legal sink some none here =
    let empty = ap (λ (k : Record). count c (last_attempted k i)) legal.0.row.first in absurd (omega (arith, some, empty))
all_tried (Attempt j copies bytes reply ∷ h) i c d legal sink some none here = elim (cases_eq j i) [
  | inl same ↦
      let all : copies ≡ joined (held h i) = rw same at legal.0.row.all in
      let there : count d copies ≡ count d (joined (at h (Held i))) = ap (count d) all ∙ ap (λ (ps : List (List ℕ)). count d (joined ps)) (stands_at h (Held i) legal.1) in
      let own : (j == i) ≡ true = grind (arith, nat_tests) in
      let has : contains copies d ≡ true = grind (arith, nat_tests, there, here) in
      rw (own, has) (omega arith)
  | inr other ↦
      let off : (j == i) ≡ false = grind (arith, nat_tests) in
      let before = all_tried h i c d legal.1 sink (rw off at some) (unspent_before h (Attempt j copies bytes reply) c none) here in
      omega (arith, before)
]
all_tried (Take j s copies ∷ h) i c d legal sink some none here = elim (cases_eq j i) [
  | inl same ↦
      let unspent = unspent_before h (Take j s copies) c none in
      let there = some_parcel c (held h i) (attempted_held h i c legal.1 (last_counts h i c some) unspent) in
      let oldest = oldest_held h i in
      let kept : 0 < count oldest (joined (at h (Held i))) =
      subst (λ (ps : List (List ℕ)). 0 < count oldest (joined ps)) (stands_at h (Held i) legal.1) (oldest_among (held h i) (held_none_empty h i) there) in
      let tried = all_tried h i c oldest legal.1 sink some unspent kept in
      let untried = untried_yet h i s copies (subst (λ (k : ℕ). IsLegal (Take k s copies ∷ h)) same legal) sink there in
      absurd (omega (arith, tried, untried))
  | inr other ↦
      let off : (j == i) ≡ false = grind (arith, nat_tests) in
      all_tried h i c d legal.1 sink some (unspent_before h (Take j s copies) c none) (rw off at here)
]
all_tried (Answer j made discarded kept ∷ h) i c d legal sink some none here =
    all_tried h i c d legal.1 sink some (unspent_before h (Answer j made discarded kept) c none) (rw (unanswering h i j made discarded kept legal (sink_untransforming h i sink)) at here)
all_tried (Spent j g outcome ∷ h) i c d legal sink some none here =
    all_tried h i c d legal.1 sink some (unspent_before h (Spent j g outcome) c none) (elim (cases_Bool (j == i)) [
      | inl own ↦ let fewer = rw own at here in let few = shrunk_few d (g ∷ []) (at h (Held i)) in omega (arith, fewer, few)
      | inr off ↦ rw off at here
    ])
all_tried (e ∷ h) i c d legal sink some none here = all_tried h i c d legal.1 sink some (unspent_before h e c none) here

-- SPENDS
-- what was attempted has no moment to keep
since_tried : (h : Record) (i since : ℕ) (ps : List (List ℕ)) → NoneEmpty ps → ((d : ℕ) → 0 < count d (joined ps) → 0 < attempts_with h i d) → IsSince h i since ps
since_tried h i since [] full tried = tt
since_tried h i since ([] ∷ rest) full tried = absurd full
since_tried h i since ((c ∷ cs) ∷ rest) full tried = λ going none.
    let a = first_counted c cs in let b = count-append c (c ∷ cs) (joined rest) in
    let some = tried c (omega (arith, a, b)) in absurd (omega (arith, some, none))

-- nor has a run that was given up
since_over : (h : Record) (i since : ℕ) (ps : List (List ℕ)) → (cause_of h ≡ None → ⊥) → IsSince h i since ps
since_over h i since [] over = tt
since_over h i since (p ∷ rest) over = λ going none. absurd (over going)

none_counted : (c d : ℕ) (ps : List (List ℕ)) → count c (joined ps) ≡ 0 → 0 < count d (joined ps) → count d (c ∷ []) ≡ 0
none_counted c d ps none some = elim (cases_eq c d) [
  | inl same ↦ absurd (omega (arith, some, ap (λ (k : ℕ). count k (joined ps)) same, none))
  | inr other ↦ grind (arith, nat_tests)
]

module _ (h : Record) (i c since : ℕ) (outcome : Outcome) (legal : IsLegal (Spent i c outcome ∷ h)) where
  -- a copy that isn't held
  held_same : count c (joined (held h i)) ≡ 0 → IsSince h i since (at h (Held i)) → IsSince (Spent i c outcome ∷ h) i since (shrunk (c ∷ []) (at h (Held i)))
  held_same none old =
      let away : count c (joined (at h (Held i))) ≡ 0 = rw (stands_at h (Held i) legal.1) at none in
      rw (shrunk-none (c ∷ []) (at h (Held i)) (held_full h i legal.1) (λ d l. none_counted c d (at h (Held i)) away l))
      (since_by h (Spent i c outcome ∷ h) i since (at h (Held i)) (λ going. going) (λ d untried. untried) (λ d. refl) old)

  -- one that was attempted last
  shrunk_tried : sink_at h i ≡ true → 0 < count c (last_attempted h i) → IsSince (Spent i c outcome ∷ h) i since (shrunk (c ∷ []) (at h (Held i)))
  shrunk_tried sink had =
      since_tried (Spent i c outcome ∷ h) i since (shrunk (c ∷ []) (at h (Held i))) (shrunk_full (c ∷ []) (at h (Held i)))
      (λ d l. all_tried h i c d legal.1 sink had legal.0.row.live.2 (let few = shrunk_few d (c ∷ []) (at h (Held i)) in omega (arith, l, few)))

since_left : (h : Record) (i c since : ℕ) (outcome : Outcome) → IsLegal (Spent i c outcome ∷ h) → sink_at h i ≡ true → IsSince h i since (at h (Held i)) →
    IsSince (Spent i c outcome ∷ h) i since (shrunk (c ∷ []) (at h (Held i)))
since_left h i c since Delivered legal sink old = shrunk_tried h i c since Delivered legal sink legal.0.row.cause.had
since_left h i c since Refusal legal sink old = shrunk_tried h i c since Refusal legal sink legal.0.row.cause.had
since_left h i c since Attempts legal sink old = shrunk_tried h i c since Attempts legal sink (spent_failed h i c legal.1 legal.0.row).had
since_left h i c since Filtered legal sink old = let contrary : true ≡ false = sym (transforms_filter h i c legal.1 legal.0.row) ∙ sink_untransforming h i sink in cc
since_left h i c since Abandoned legal sink old = since_over (Spent i c Abandoned ∷ h) i since (shrunk (c ∷ []) (at h (Held i))) (λ going. false≢true (rw going at (has_cause h legal.0.row.cause.0)))
since_left h i c since NoConsumer legal sink old =
    held_same h i c since NoConsumer legal (not_there h (Outputs i) (Held i) c (conserved h legal.1) refl (legal_place h i c NoConsumer legal)) old
since_left h i c since NewestDropped legal sink old =
    let place = legal_place h i c NewestDropped legal in
    held_same h i c since NewestDropped legal (not_there h (Waiting i place.0) (Held i) c (conserved h legal.1) refl place.1) old

pub since_spent : (h : Record) (i c since : ℕ) (outcome : Outcome) → IsLegal (Spent i c outcome ∷ h) → HasSince h i since → HasSince (Spent i c outcome ∷ h) i since
since_spent h i c since outcome legal old = λ sink. rw (itself i) (since_left h i c since outcome legal sink (old sink))

-- FAILURES
-- what is kept of a sink is how often what it holds failed, and when it did last
abbrev pub HasTried : Record → ℕ → ℕ → ℕ → Type 0
HasTried h i failures failed = sink_at h i ≡ true → HasFailed h i failures failed (at h (Held i))

-- an entry leaves it that leaves what is held, and attempts nothing
abbrev pub IsQuiet : Entry → Type 0
IsQuiet (Attempt i copies bytes reply) = ⊥
IsQuiet other = IsCalm other

pub tried_quiet : (failures failed : ℕ) (h : Record) (e : Entry) (i : ℕ) → IsQuiet e → HasTried h i failures failed → HasTried (e ∷ h) i failures failed
tried_quiet failures failed h (Install version plan once instances now) i quiet was = absurd quiet
tried_quiet failures failed h (Take j s copies) i quiet was = absurd quiet
tried_quiet failures failed h (Answer j outputs discarded kept) i quiet was = absurd quiet
tried_quiet failures failed h (Spent j c outcome) i quiet was = absurd quiet
tried_quiet failures failed h (Attempt j copies bytes reply) i quiet was = absurd quiet
tried_quiet failures failed h e i quiet was = was

-- so does one of others
pub tried_far : (failures failed : ℕ) (h : Record) (e : Entry) (i : ℕ) → InstallsNothing e → is_of i e ≡ false → HasTried h i failures failed → HasTried (e ∷ h) i failures failed
tried_far failures failed h e i none is was = λ sink.
    rw (held_apart e i (at h (Held i)) is)
    (λ c here.
    let old = was (sym (component_or_on false is_sink h e i none) ∙ sink) c here in
    (old.0 ∙ ap capped (sym (stays (λ h i. failures_with h i c) (failures_own c) h e i is)), old.1 ∙ sym (stays (λ h i. failed_at h i c) (failed_own c) h e i is)))

-- and an answer, since no sink gives one
pub tried_answered : (failures failed : ℕ) (h : Record) (i : ℕ) (outputs : List Output) (discarded kept : List ℕ) → IsLegal (Answer i outputs discarded kept ∷ h) →
    HasTried (Answer i outputs discarded kept ∷ h) i failures failed
tried_answered failures failed h i outputs discarded kept legal = λ sink.
    absurd (false≢true (sym (unanswering h i i outputs discarded kept legal (sink_untransforming h i sink)) ∙ itself i))

-- and a spend: what is left was held
pub tried_spent : (failures failed : ℕ) (h : Record) (i c : ℕ) (outcome : Outcome) → HasTried h i failures failed → HasTried (Spent i c outcome ∷ h) i failures failed
tried_spent failures failed h i c outcome was = λ sink. rw (itself i) (λ d here. was sink d (let few = shrunk_few d (c ∷ []) (at h (Held i)) in omega (arith, here, few)))

-- an attempt is of all that is held
counted : (failures failed before was n moment : ℕ) (now : ℕ) (fails : Bool) → failures ≡ capped (before + (if fails then 1 else 0)) → failed ≡ (if fails then now else was) →
    before ≡ capped n → was ≡ moment → (failures ≡ capped (n + (if fails then 1 else 0))) × (failed ≡ (if fails then now else moment))
counted failures failed before was n moment now true more at so then_at = (omega (arith, more, so), at)
counted failures failed before was n moment now false more at so then_at = (omega (arith, more, so), at ∙ then_at)

pub tried_attempted : (failures failed before was : ℕ) (h : Record) (i : ℕ) (copies bytes : List ℕ) (reply : Reply) → IsLegal (Attempt i copies bytes reply ∷ h) →
    failures ≡ capped (before + (if is_failed reply then 1 else 0)) → failed ≡ (if is_failed reply then lease_now h i else was) →
    HasTried h i before was → HasTried (Attempt i copies bytes reply ∷ h) i failures failed
tried_attempted failures failed before was h i copies bytes reply legal more moment old = λ sink c here.
    let all : copies ≡ joined (at h (Held i)) = legal.0.row.all ∙ ap joined (stands_at h (Held i) legal.1) in
    let there = ap (count c) all in
    let has : contains copies c ≡ true = grind (arith, nat_tests, there, here) in
    let kept = old sink c here in
    rw (itself i, has) (counted failures failed before was (failures_with h i c) (failed_at h i c) (lease_now h i) (is_failed reply) more moment kept.0 kept.1)

-- what never failed has no moment of a failure
unfailed_at : (h : Record) (i c : ℕ) → failures_with h i c ≡ 0 → failed_at h i c ≡ 0
unfailed_at [] i c none = refl
unfailed_at (Attempt j copies bytes reply ∷ h) i c none = go ((j == i) && contains copies c && is_failed reply) none (unfailed_at h i c)
  where
    go : (b : Bool) → failures_with h i c + (if b then 1 else 0) ≡ 0 → (failures_with h i c ≡ 0 → failed_at h i c ≡ 0) → (if b then lease_now h i else failed_at h i c) ≡ 0
    go true some rest = absurd (omega (arith, some))
    go false few rest = rest (omega (arith, few))
unfailed_at (e ∷ h) i c none = unfailed_at h i c none

unfailed : (h : Record) (i c : ℕ) → attempts_with h i c ≡ 0 → (failures_with h i c ≡ 0) × (failed_at h i c ≡ 0)
unfailed h i c none =
    let few = failed_counts h i c in
    let zero : failures_with h i c ≡ 0 = omega (arith, none, few) in
    (zero, unfailed_at h i c zero)

-- what waits in a buffer is neither spent nor held, so its instance never attempted it
never_tried : (h : Record) (i s c : ℕ) (copies : List ℕ) → IsLegal (Take i s copies ∷ h) → 0 < count c copies → attempts_with h i c ≡ 0
never_tried h i s c copies legal l = elim (cases_lt 0 (attempts_with h i c)) [
  | inl tried ↦
      let kept = conserved (Take i s copies ∷ h) legal in
      let there = count-oldest c copies (contents h i s) kept.0 in
      let meant = places_meant h c (Contents i s) in
      let live = (live_stands h legal.1 c).1 (among_length (Contents i s) (places h c) (omega (arith, l, there, meant))) in
      let none = not_taken h i s c copies kept (attempted_held h i c legal.1 tried live.2) in
      absurd (omega (arith, l, none))
  | inr few ↦ omega (arith, few)
]

zero_by : (empty : Bool) (n before : ℕ) → n ≡ (if empty then 0 else before) → (empty ≡ false → before ≡ 0) → n ≡ 0
zero_by true n before is zero = is
zero_by false n before is zero = is ∙ zero refl

-- a sink that takes more holds nothing that failed, and takes nothing that did
module _ (h : Record) (i s : ℕ) (copies : List ℕ) (before was : ℕ) (legal : IsLegal (Take i s copies ∷ h)) (sink : sink_at h i ≡ true) (old : HasFailed h i before was (at h (Held i))) where
  none_failed : 0 < length (at h (Held i)) → (before ≡ 0) × (was ≡ 0)
  none_failed some =
      let oldest = oldest_held h i in
      let there : 0 < length (held h i) = subst (λ (ps : List (List ℕ)). 0 < length ps) (sym (stands_at h (Held i) legal.1)) some in
      let here : 0 < count oldest (joined (at h (Held i))) =
      subst (λ (ps : List (List ℕ)). 0 < count oldest (joined ps)) (stands_at h (Held i) legal.1) (oldest_among (held h i) (held_none_empty h i) there) in
      let kept = old oldest here in
      let never = unfailed h i oldest (untried_yet h i s copies legal sink there) in
      (kept.0 ∙ ap capped never.0, kept.1 ∙ never.1)

  failed_now : (failures failed c : ℕ) → failures ≡ 0 → failed ≡ 0 → 0 < count c (joined (at h (Held i) ++ copies ∷ [])) →
      (failures ≡ capped (failures_with h i c)) × (failed ≡ failed_at h i c)
  failed_now failures failed c none never here = elim (cases_lt 0 (count c (joined (at h (Held i))))) [
    | inl held ↦
        let kept = old c held in
        let zero = none_failed (some_parcel c (at h (Held i)) held) in
        (none ∙ sym zero.0 ∙ kept.0, never ∙ sym zero.1 ∙ kept.1)
    | inr few ↦
        let more = joined_more c (at h (Held i)) (copies ∷ []) in
        let one = count-append c copies [] in
        let new = unfailed h i c (never_tried h i s c copies legal (omega (arith, here, few, more, one))) in
        (none ∙ ap capped (sym new.0), never ∙ sym new.1)
  ]

pub tried_took : (failures failed before was : ℕ) (h : Record) (i s : ℕ) (copies : List ℕ) → IsLegal (Take i s copies ∷ h) →
    failures ≡ (if is_empty (at h (Held i)) then 0 else before) → failed ≡ (if is_empty (at h (Held i)) then 0 else was) →
    HasTried h i before was → HasTried (Take i s copies ∷ h) i failures failed
tried_took failures failed before was h i s copies legal none never old = λ sink. rw (itself i) (λ c here.
    let zero = none_failed h i s copies before was legal sink (old sink) in
    failed_now h i s copies before was legal sink (old sink) failures failed c
    (zero_by (is_empty (at h (Held i))) failures before none (λ some. (zero (filled (at h (Held i)) some)).0))
    (zero_by (is_empty (at h (Held i))) failed was never (λ some. (zero (filled (at h (Held i)) some)).1)) here)

-- FIRST COPIES
-- no parcel that a sink took begins with an unspent copy that it doesn't hold
sink_of : (h : Record) (i : ℕ) → class_at h i ≡ Some Sink → sink_at h i ≡ true
sink_of h i class = grind arith

unfirst : (h : Record) (i c : ℕ) → IsLegal h → sink_at h i ≡ true → times_spent h c ≡ 0 → count c (joined (at h (Held i))) ≡ 0 → is_first h i c ≡ false
unfirst [] i c legal sink none away = refl
unfirst (Install version plan once instances now ∷ h) i c legal sink none away = rw (append-nil, legal.0.row.first) refl
unfirst (Take j s copies ∷ h) i c legal sink none away = elim (cases_Bool (j == i)) [
  | inl own ↦
      let more = joined_more c (at h (Held i)) (copies ∷ []) in
      let both = rw own at away in
      let one = count-append c copies [] in
      let some = some_first copies (oldest_some h (Contents j s) copies legal.0.row.oldest) in
      let old = unfirst h i c legal.1 sink (unspent_before h (Take j s copies) c none) (omega (arith, more, both)) in
      let new : (first_copy copies == c) ≡ false = grind (arith, nat_tests, more, both, one, some) in
      rw (own, list_any-append, old, new) refl
  | inr off ↦ rw (off, append-nil) (unfirst h i c legal.1 sink (unspent_before h (Take j s copies) c none) (rw off at away))
]
unfirst (Answer j made discarded kept ∷ h) i c legal sink none away =
    rw append-nil
    (unfirst h i c legal.1 sink (unspent_before h (Answer j made discarded kept) c none) (rw (unanswering h i j made discarded kept legal (sink_untransforming h i sink)) at away))
unfirst (Spent j g outcome ∷ h) i c legal sink none away = rw append-nil (unfirst h i c legal.1 sink (unspent_before h (Spent j g outcome) c none) (elim (cases_Bool (j == i)) [
  | inl own ↦
      let other : count c (g ∷ []) ≡ 0 = (let all = count-append c (all_of spends h) (g ∷ []) in omega (arith, none, all)) in
      sym (count_shrunk c (g ∷ []) (at h (Held i)) other) ∙ (rw own at away)
  | inr off ↦ rw off at away
]))
unfirst (e ∷ h) i c legal sink none away = rw append-nil (unfirst h i c legal.1 sink (unspent_before h e c none) away)

pub unheld_unfirst : (h : Record) (i c : ℕ) → IsLegal h → times_spent h c ≡ 0 → count c (joined (at h (Held i))) ≡ 0 → class_at h i ≡ Some Sink → is_first h i c ≡ false
unheld_unfirst h i c legal unspent unheld class = unfirst h i c legal (sink_of h i class) unspent unheld
