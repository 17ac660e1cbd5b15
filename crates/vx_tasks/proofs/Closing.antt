-- A sink batch that is closed stays so while others go on.
use Rattle.std.proofs.Common.{◌≡◌, ℕ, ◌+◌, ◌≤◌, Bool, true, false, List, [], ◌∷◌, Option, Some, None, refl, sym, ap, ◌∙◌, inl, inr, subst}
use Rattle.std.specs.Prelude.{◌==◌, ◌⊎◌, ◌&&◌, ◌||◌, not, nat_le, nat_lt, length, if◌then◌else◌}
use Rattle.std.proofs.lemmas.Bool.{and_parts, and_from, or_right, not-true, not_from_false, eqb-true, eq-eqb}
use Rattle.vx_value.specs.Texts.{is_empty}
use Rattle.vx_plan.specs.declared.component.Component.{Component}
use Rattle.vx_plan.specs.Components.{is_source, batch_max_events, batch_timeout, retry_wait}
use Rattle.vx_record.specs.declared.entry.Entry.{Entry}
use Rattle.vx_record.specs.declared.entry.Entry.TheVariants.{Read, Born, Push, Take, Spent}
use Rattle.vx_record.specs.Records.{Record, capped}
use Rattle.vx_record.specs.Copies.{joined}
use Rattle.vx_record.specs.Places.{Place}
use Rattle.vx_record.specs.Places.Place.{Contents, Held}
use Rattle.vx_record.specs.Parcels.{first_copy}
use Rattle.vx_record.specs.Turns.{lease_now}
use Rattle.vx_record.specs.Installs.{component_of, component_or}
use Rattle.vx_record.specs.Lists.{stands, parcels_at, contents, held, buffered, is_stage_of}
use Rattle.vx_record.specs.Shifts.{shift, at}
use Rattle.vx_record.specs.Routing.{drains, all_dry, is_named, is_ending}
use Rattle.vx_record.specs.SinkBatches.{taken_at, attempts_with, failures_with, failed_at, wait_after, oldest_held, is_full_batch, is_timed_out, is_last_batch, was_attempted, retry_from}
use Rattle.vx_record.specs.Sourcing.{Yield, yield}
use Rattle.vx_record.specs.Legal.{IsLegal}
use Rattle.vx_record.specs.Tasks.{is_of, mine}
use Rattle.vx_record.specs.Makers.{Spares}
use Rattle.vx_record.specs.Additions.{OnlyAdds}
use Rattle.vx_record.proofs.Adding.{carry_legal, adds_legal}
use Rattle.vx_record.proofs.OnePlace.{conserved}
use Rattle.vx_record.proofs.Shifting.{entry_shifts}
use Rattle.vx_record.proofs.Senders.{uninstalled, same_component_or, wired_same}
use Rattle.vx_record.proofs.Turning.{turn_undry}
use Rattle.vx_record.proofs.Vacant.{creates, enters, where_none, none_where, unentered}
use Rattle.vx_record.proofs.WorkerEnds.{worker_source, source_dry, all_dry_on, unnamed_on, unawaited, dry_by, undrained}
use Rattle.vx_record.proofs.OwnTurns.{moment_own}
use Rattle.vx_record.proofs.OwnPlaces.{held_own}
use Rattle.vx_record.proofs.OwnAttempts.{taken_own, attempts_own, failures_own, failed_own}
use Rattle.vx_tasks.specs.Out.{IsUnread, is_closed_alone, StaysClosed, MayAttemptNow}
use Rattle.vx_tasks.specs.Laws.{ClosedStays}
use Rattle.vx_tasks.proofs.Staying.{stays}

-- THE LAST BATCH
-- what can't get another parcel: its buffer is empty, and nobody sends to it any more
record IsLast (h : Record) (i : ℕ) : Type 0 where
  worker : component_or false (λ (c : Component). not (is_source c)) h i ≡ true
  dry : all_dry h ≡ true
  unnamed : is_named h i ≡ false
  buffer : (s : ℕ) → contents h i s ≡ []
  unread : IsUnread h

self : (i : ℕ) → (i == i) ≡ true
self i = eq-eqb i i refl

last_of : (h : Record) (i : ℕ) → IsLegal h → is_last_batch h i ≡ true → IsUnread h → IsLast h i
last_of h i legal last unread = record {
  worker = is;
  dry = dry_by (drains h i) (all_dry h) (undrained h i legal (worker_source h i is)) ((and_parts w (drains h i || all_dry h) parts.0).1);
  unnamed = not-true (is_named h i) parts.1;
  buffer = λ s. where_none (is_stage_of i) (stands h) ((and_parts (is_ending h i) (is_empty (buffered h i)) last).1) (Contents i s) (self i);
  unread = unread;
}
  where
    w : Bool
    w = component_or false (λ (c : Component). not (is_source c)) h i

    parts : ((w && (drains h i || all_dry h)) ≡ true) × (not (is_named h i) ≡ true)
    parts = and_parts (w && (drains h i || all_dry h)) (not (is_named h i)) ((and_parts (is_ending h i) (is_empty (buffered h i)) last).0)

    is : w ≡ true
    is = (and_parts w (drains h i || all_dry h) parts.0).0

of_last : (h : Record) (i : ℕ) → IsLast h i → is_last_batch h i ≡ true
of_last h i last =
    and_from (is_ending h i) (is_empty (buffered h i))
    (and_from (component_or false (λ (c : Component). not (is_source c)) h i && (drains h i || all_dry h)) (not (is_named h i))
    (and_from (component_or false (λ (c : Component). not (is_source c)) h i) (drains h i || all_dry h) last.worker (or_right (drains h i) (all_dry h) last.dry))
    (not_from_false (is_named h i) last.unnamed))
    (none_where (is_stage_of i) (stands h) stage)
  where
    stage : (p : Place) → is_stage_of i p ≡ true → parcels_at p (stands h) ≡ []
    stage (Contents j s) is = subst (λ (k : ℕ). parcels_at (Contents k s) (stands h) ≡ []) (sym (eqb-true j i is)) (last.buffer s)
    stage p is = cc

-- nobody creates a batch behind what is no Read
unread_yield : (h : Record) (j : ℕ) (y : Yield) → yield h j ≡ Some y → IsUnread h → ⊥
unread_yield (Read k stream took ∷ h) j y is unread = unread
unread_yield h j y is unread = absurd cc

unborn : (h : Record) (e : Entry) → IsLegal (e ∷ h) → IsUnread h → (j : ℕ) → creates j e ≡ false
unborn h (Born k b place copies events waits stream end) legal unread j = absurd (unread_yield h k _ legal.0.row.yields unread)
unborn h e legal unread j = refl

-- nor does anybody read
unread_on : (h : Record) (e : Entry) → IsLegal (e ∷ h) → all_dry h ≡ true → IsUnread (e ∷ h)
unread_on h (Read j stream took) legal dry =
    let row = legal.0.row.turn in
    let no : true ≡ false = sym (source_dry h j legal.1 dry row.source) ∙ turn_undry h j legal.1 row in cc
unread_on h e legal dry = tt

-- a stage that nothing enters and of which nothing is taken is as it was
stage_apart : (e : Entry) (i s : ℕ) (was : List (List ℕ)) → is_of i e ≡ false → enters i e ≡ false → shift e (Contents i s) was ≡ was
stage_apart (Push j t r copies) i s was is off = rw off refl
stage_apart (Take j r copies) i s was is off = rw is refl
stage_apart (Spent j c outcome) i s was is off = rw is refl
stage_apart e i s was is off = refl

last_on : (i : ℕ) (h : Record) (e : Entry) → IsLegal (e ∷ h) → is_of i e ≡ false → IsLast h i → IsLast (e ∷ h) i
last_on i h e legal spares last =
    let kept = uninstalled e h i (λ (c : Component). not (is_source c)) legal last.worker in
    let off = unborn h e legal last.unread in
    let outside = unentered h e i (conserved (e ∷ h) legal) (λ j. unawaited h j i legal.1 last.unnamed) in
    record {
      worker = same_component_or false (λ (c : Component). not (is_source c)) (e ∷ h) h i (wired_same e h i kept) ∙ last.worker;
      dry = all_dry_on h e legal kept last.dry;
      unnamed = unnamed_on h e i legal kept off last.unnamed;
      buffer = λ s. entry_shifts h e (Contents i s) legal ∙ stage_apart e i s (contents h i s) spares outside ∙ last.buffer s;
      unread = unread_on h e legal last.dry;
    }

last_stays : (old new : Record) (i : ℕ) → OnlyAdds (Spares i) old new → IsLegal old → IsLast old i → IsLast new i
last_stays old new i adds legal last = carry_legal (Spares i) (λ h. IsLast h i) (λ h e follows spares was. last_on i h e follows spares was) old new adds legal last

-- ITS OWN
pub observe : {X : Type 0} (none : X) (f : Component → X) (new old : Record) (i : ℕ) → component_of new i ≡ component_of old i → component_or none f new i ≡ component_or none f old i
observe none f new old i same = ap (λ (o : Option Component). elim o [ None ↦ none | Some c ↦ f c ]) same

module _ (old new : Record) (i : ℕ) (same : mine new i ≡ mine old i) (run : component_of new i ≡ component_of old i) (now : IsLegal new) (legal : IsLegal old) where
  held_is : held new i ≡ held old i
  held_is = held_own new i now ∙ ap (λ (m : Record). at m (Held i)) same ∙ sym (held_own old i legal)

  oldest_is : oldest_held new i ≡ oldest_held old i
  oldest_is = ap (λ ps. first_copy (joined ps)) held_is

  full_is : is_full_batch new i ≡ is_full_batch old i
  full_is =
      ap (λ ps. component_or false (λ (c : Component). nat_le (batch_max_events c.settings) (length ps)) new i) held_is
      ∙ observe false (λ (c : Component). nat_le (batch_max_events c.settings) (length (held old i))) new old i run

  taken_is : taken_at new i (oldest_held new i) ≡ taken_at old i (oldest_held old i)
  taken_is = ap (taken_at new i) oldest_is ∙ stays (λ h k. taken_at h k (oldest_held old i)) (taken_own (oldest_held old i)) old new i same

  moment_is : lease_now new i ≡ lease_now old i
  moment_is = stays lease_now moment_own old new i same

  timed_is : is_timed_out new i (lease_now new i) ≡ is_timed_out old i (lease_now old i)
  timed_is =
      ap (λ t. component_or false (λ (c : Component). nat_le (capped (t + batch_timeout c.settings)) (lease_now new i)) new i) taken_is
      ∙ ap (λ t. component_or false (λ (c : Component). nat_le (capped (taken_at old i (oldest_held old i) + batch_timeout c.settings)) t) new i) moment_is
      ∙ observe false (λ (c : Component). nat_le (capped (taken_at old i (oldest_held old i) + batch_timeout c.settings)) (lease_now old i)) new old i run

  tried_is : was_attempted new i ≡ was_attempted old i
  tried_is =
      ap (λ c. nat_lt 0 (attempts_with new i c)) oldest_is
      ∙ ap (λ n. nat_lt 0 n) (stays (λ h k. attempts_with h k (oldest_held old i)) (attempts_own (oldest_held old i)) old new i same)

  alone_is : is_closed_alone new i ≡ is_closed_alone old i
  alone_is =
      ap (λ (b : Bool). b || is_timed_out new i (lease_now new i) || was_attempted new i) full_is
      ∙ ap (λ (b : Bool). is_full_batch old i || b || was_attempted new i) timed_is
      ∙ ap (λ (b : Bool). is_full_batch old i || is_timed_out old i (lease_now old i) || b) tried_is

  -- the wait behind failed attempts
  retry_is : retry_from new i ≡ retry_from old i
  retry_is =
      let c = oldest_held old i in
      ap (λ x. if failures_with new i x == 0 then 0 else capped (failed_at new i x + wait_after new i (failures_with new i x))) oldest_is
      ∙ ap (λ n. if n == 0 then 0 else capped (failed_at new i c + wait_after new i n)) (stays (λ h k. failures_with h k c) (failures_own c) old new i same)
      ∙ ap (λ n. if failures_with old i c == 0 then 0 else capped (n + wait_after new i (failures_with old i c))) (stays (λ h k. failed_at h k c) (failed_own c) old new i same)
      ∙ ap (λ n. if failures_with old i c == 0 then 0 else capped (failed_at old i c + n)) (observe 0 (λ (d : Component). retry_wait d.settings (failures_with old i c)) new old i run)

-- CLOSED
closed_by : (e f t l a : Bool) → (not e && (f || t || l || a)) ≡ true → ((f || t || a) ≡ true) ⊎ (l ≡ true)
closed_by true f t l a is = cc
closed_by false true t l a is = inl refl
closed_by false false true l a is = inl refl
closed_by false false false true a is = inr refl
closed_by false false false false a is = inl is

some_of : (e c : Bool) → (not e && c) ≡ true → e ≡ false
some_of true c is = cc
some_of false c is = refl

alone_closes : (e f t l a : Bool) → e ≡ false → (f || t || a) ≡ true → (not e && (f || t || l || a)) ≡ true
alone_closes true f t l a some is = cc
alone_closes false true t l a some is = refl
alone_closes false false true l a some is = refl
alone_closes false false false true a some is = refl
alone_closes false false false false a some is = is

last_closes : (e f t l a : Bool) → e ≡ false → l ≡ true → (not e && (f || t || l || a)) ≡ true
last_closes true f t l a some is = cc
last_closes false true t l a some is = refl
last_closes false false true l a some is = refl
last_closes false false false true a some is = refl
last_closes false false false false a some is = cc

pub closed_stays : ClosedStays
closed_stays h i unread closed =
    elim (closed_by (is_empty (held h i)) (is_full_batch h i) (is_timed_out h i (lease_now h i)) (is_last_batch h i) (was_attempted h i) closed) [
      | inl alone ↦ inl alone
      | inr last ↦ inr (last, unread)
    ]

pub attempt_stays : (old new : Record) (i : ℕ) → mine new i ≡ mine old i → component_of new i ≡ component_of old i → OnlyAdds (Spares i) old new → IsLegal old → MayAttemptNow old i → MayAttemptNow new i
attempt_stays old new i same run adds legal may = record {
  sink = observe false _ new old i run ∙ may.sink;
  batch_closed = elim still [
    | inl alone ↦ alone_closes (is_empty (held new i)) (is_full_batch new i) (is_timed_out new i (lease_now new i)) (is_last_batch new i) (was_attempted new i) some alone
    | inr last ↦ last_closes (is_empty (held new i)) (is_full_batch new i) (is_timed_out new i (lease_now new i)) (is_last_batch new i) (was_attempted new i) some last.0
  ];
  stays = still;
  waited = subst (λ n. n ≤ lease_now new i) (sym (retry_is old new i same run now legal)) (subst (λ n. retry_from old i ≤ n) (sym (moment_is old new i same run now legal)) may.waited);
}
  where
    now : IsLegal new
    now = adds_legal (Spares i) old new adds legal

    some : is_empty (held new i) ≡ false
    some = ap (λ ps. is_empty ps) (held_is old new i same run now legal) ∙ some_of (is_empty (held old i)) _ may.batch_closed

    still : StaysClosed new i
    still = elim may.stays [
      | inl alone ↦ inl (alone_is old new i same run now legal ∙ alone)
      | inr last ↦ let after = last_stays old new i adds legal (last_of old i legal last.0 last.1) in inr (of_last new i after, after.unread)
    ]
