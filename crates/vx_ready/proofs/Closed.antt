-- When the batch that a sink holds is closed, and for which moment it waits.
use Rattle.std.proofs.Common.{◌≡◌, ◌∙◌, ℕ, ◌+◌, ◌*◌, ◌<◌, ◌≤◌, Bool, true, false, ◌&&◌, ◌||◌, List, [], ◌∷◌, length, Option, Some, None, IsSomeAnd, refl, sym, ap, subst, arith}
use Rattle.std.specs.Prelude.{◌==◌, not, nat_le, nat_lt, slice_get, if◌then◌else◌}
use Rattle.std.proofs.lemmas.Bool.{or_parts}
use Rattle.std.proofs.lemmas.Bool.Decides.{nat_tests}
use Rattle.vx_ends.specs.Observation.{Observation}
use Rattle.vx_sinkcore.specs.Waits.{wait_after}
use Rattle.vx_value.specs.Texts.{is_empty}
use Rattle.vx_plan.specs.declared.component.Component.{Component}
use Rattle.vx_plan.specs.declared.settings.Settings.{Settings}
use Rattle.vx_plan.specs.declared.sink_settings.SinkSettings.{SinkSettings}
use Rattle.vx_plan.specs.Components.{is_sink, batch_max_events, batch_timeout, retry_attempts, retry_wait, wait_of}
use Rattle.vx_plan.specs.Options.{sink_options}
use Rattle.vx_record.specs.Records.{Record, capped}
use Rattle.vx_record.specs.Ceasing.{cause_of}
use Rattle.vx_record.specs.Copies.{count, joined}
use Rattle.vx_record.specs.Installs.{component_of, sink_at}
use Rattle.vx_record.specs.Lists.{held, buffered}
use Rattle.vx_record.specs.Owing.{owes}
use Rattle.vx_record.specs.Parcels.{first_copy}
use Rattle.vx_record.specs.Places.Place.{Held}
use Rattle.vx_record.specs.Ready.{sink_waits}
use Rattle.vx_record.specs.Routing.{is_ending}
use Rattle.vx_record.specs.SinkBatches.{attempts_with, failures_with, failed_at, attempts_allowed, taken_at, oldest_held, is_full_batch, is_timed_out, is_last_batch, was_attempted, is_batch_closed, retry_from, times_out as times_out_at}
use Rattle.vx_record.proofs.Changes.{NoneEmpty}
use Rattle.vx_record.proofs.Shifting.{stands_at}
use Rattle.vx_sinkcore.specs.declared.schedule.Schedule.{Schedule}
use Rattle.vx_instances.specs.declared.facts.Batching.{Batching}
use Rattle.vx_instances.specs.declared.state.InstanceState.{InstanceState}
use Rattle.vx_instances.specs.Knowing.{IsFittedTo, IsSince, schedule_of}
use Rattle.vx_instances.proofs.Holding.{held_none_empty, oldest_among}
use Rattle.vx_moves.specs.declared.engine.EngineState.{EngineState}
use Rattle.vx_moves.specs.Stands.{Stands}
use Rattle.vx_ready.specs.Jobs.{failed_before, is_full, is_full_or_old, retry_moment, schedule_in, times_out}
use Rattle.vx_ready.proofs.Failing.{first_joined, oldest_failed}
use Rattle.vx_ready.proofs.Knowing.{known}
use Rattle.vx_ready.proofs.Testing.{or_false}

-- how a sink collects
abbrev collecting : Component → Batching
collecting c = record { max_events = batch_max_events c.settings; timeout = batch_timeout c.settings; retries = schedule_of c.settings }

-- the component of a sink's state
record Collects {P : Type 0} (state : InstanceState P) (h : Record) (i : ℕ) : Type 0 where
  component : Component
  there : component_of h i ≡ Some component
  batching : state.batching ≡ Some (collecting component)

collects : {P : Type 0} (state : InstanceState P) (h : Record) (i : ℕ) → IsSomeAnd (component_of h i) (IsFittedTo state) → sink_at h i ≡ true → Collects state h i
collects {P} state h i fitted sink = go (component_of h i) refl fitted sink
  where
    go : (o : Option Component) → component_of h i ≡ o → IsSomeAnd o (IsFittedTo state) → (elim o [ None ↦ false | Some c ↦ is_sink c ]) ≡ true → Collects state h i
    go None there is on = absurd is
    go (Some c) there is on = record { component = c; there = there; batching = is.batching ∙ ap (λ (b : Bool). if b then Some (collecting c) else None) on }

-- the oldest parcel that is held was taken at the moment that is kept
since_oldest : (h : Record) (i since : ℕ) (ps : List (List ℕ)) → held h i ≡ ps → 0 < length ps → cause_of h ≡ None → attempts_with h i (oldest_held h i) ≡ 0 → IsSince h i since ps → since ≡ taken_at h i (oldest_held h i)
since_oldest h i since [] is some going none kept = absurd (omega (arith, some))
since_oldest h i since (p ∷ ps) is some going none kept =
    let first : oldest_held h i ≡ first_copy p =
    ap (λ (qs : List (List ℕ)). first_copy (joined qs)) is ∙ first_joined p ps (subst NoneEmpty is (held_none_empty h i)) in
    kept going (ap (attempts_with h i) (sym first) ∙ none) ∙ ap (taken_at h i) (sym first)

-- what has failures has as many as the record has, or some
some_alike : (f n tried : ℕ) → f ≡ capped n → tried ≡ n → nat_lt 0 f ≡ nat_lt 0 tried
some_alike f n tried kept same = grind (arith, nat_tests)

untried_by : (tried : ℕ) → nat_lt 0 tried ≡ false → tried ≡ 0
untried_by tried off = grind (arith, nat_tests, off)

or_true : (a : Bool) → (a || true) ≡ true
or_true true = refl
or_true false = refl

closed_by : (full timed last tried due : Bool) → (tried ≡ false → due ≡ (full || timed)) → ((due || tried) || last) ≡ (full || timed || last || tried)
closed_by full timed last true due same = rw (or_true due, or_true (full || timed || last)) refl
closed_by full timed last false due same = rw (or_false due false refl, same refl, or_false (full || timed || last) false refl) refl

ready_by : (full tried last : Bool) → ((full || tried) || last) ≡ (full || last || tried)
ready_by true tried last = refl
ready_by false true true = refl
ready_by false true false = refl
ready_by false false true = refl
ready_by false false false = refl

pub not_empty : (qs : List (List ℕ)) → 0 < length qs → is_empty qs ≡ false
not_empty [] l = absurd (omega (arith, l))
not_empty (q ∷ qs) l = refl

-- how long a sink waits by its schedule
wait_by : (settings : Settings) (k : ℕ) → wait_after (schedule_of settings).initial_secs (schedule_of settings).max_secs k * 1000 ≡ retry_wait settings k
wait_by settings k = go (sink_options settings)
  where
    go : (o : Option SinkSettings) → wait_after (elim o as (λ _. ℕ) [ None ↦ 0 | Some s ↦ s.request_retry_initial_backoff_secs ]) (elim o as (λ _. ℕ) [ None ↦ 0 | Some s ↦ s.request_retry_max_duration_secs ]) k * 1000
        ≡ (elim o as (λ _. ℕ) [ None ↦ 0 | Some s ↦ wait_of k s ])
    go None = omega arith
    go (Some s) = refl

-- a sink that owes nothing and holds something
module _ {P : Type 0} (observe : P → Observation) (engine : EngineState P) (stands : Stands observe engine) (i : ℕ) (state : InstanceState P) (there : slice_get engine.states i ≡ Some state)
    (settled : owes engine.log i ≡ false) (goes : cause_of engine.log ≡ None) (sink : sink_at engine.log i ≡ true) (some : 0 < length (held engine.log i)) where
  has : Collects state engine.log i
  has = collects state engine.log i (known observe engine stands i state there).fitted.component sink

  -- what is kept of its failures
  kept : (state.facts.failures ≡ capped (failures_with engine.log i (oldest_held engine.log i))) × (state.facts.failed_at ≡ failed_at engine.log i (oldest_held engine.log i))
  kept =
      (known observe engine stands i state there).facts.tried sink (oldest_held engine.log i)
      (subst (λ (qs : List (List ℕ)). 0 < count (oldest_held engine.log i) (joined qs)) (stands_at engine.log (Held i) stands.legal) (oldest_among (held engine.log i) (held_none_empty engine.log i) some))

  failed_is : failed_before state.facts.failures ≡ was_attempted engine.log i
  failed_is =
      some_alike state.facts.failures (failures_with engine.log i (oldest_held engine.log i)) (attempts_with engine.log i (oldest_held engine.log i)) kept.0
      (oldest_failed engine.log i stands.legal settled some).0

  -- and of the moment of its oldest parcel
  since_is : was_attempted engine.log i ≡ false → state.facts.since ≡ taken_at engine.log i (oldest_held engine.log i)
  since_is untried =
      since_oldest engine.log i state.facts.since (held engine.log i) refl some goes (untried_by (attempts_with engine.log i (oldest_held engine.log i)) untried)
      (subst (IsSince engine.log i state.facts.since) (sym (stands_at engine.log (Held i) stands.legal)) ((known observe engine stands i state there).facts.since sink))

  full_is : (n : ℕ) → n ≡ length (held engine.log i) → is_full state.batching n ≡ is_full_batch engine.log i
  full_is n many =
      ap (λ (b : Option Batching). is_full b n) has.batching ∙ ap (nat_le (batch_max_events has.component.settings)) many
      ∙ sym (ap (λ (o : Option Component). elim o [ None ↦ false | Some x ↦ nat_le (batch_max_events x.settings) (length (held engine.log i)) ]) has.there)

  ends_is : was_attempted engine.log i ≡ false → times_out state.batching state.facts.since ≡ times_out_at engine.log i
  ends_is untried =
      ap (λ (b : Option Batching). times_out b state.facts.since) has.batching ∙ ap (λ m. capped (m + batch_timeout has.component.settings)) (since_is untried)
      ∙ sym (ap (λ (o : Option Component). elim o [ None ↦ 0 | Some x ↦ capped (taken_at engine.log i (oldest_held engine.log i) + batch_timeout x.settings) ]) has.there)

  due_is : (now n : ℕ) → n ≡ length (held engine.log i) → was_attempted engine.log i ≡ false →
      is_full_or_old state.batching state.facts.since n now ≡ (is_full_batch engine.log i || is_timed_out engine.log i now)
  due_is now n many untried =
      let h = engine.log in
      let c = has.component in
      ap (λ (b : Option Batching). is_full_or_old b state.facts.since n now) has.batching
      ∙ ap (λ m. nat_le (batch_max_events c.settings) m || nat_le (capped (state.facts.since + batch_timeout c.settings)) now) many
      ∙ ap (λ m. nat_le (batch_max_events c.settings) (length (held h i)) || nat_le (capped (m + batch_timeout c.settings)) now) (since_is untried)
      ∙ sym (ap (λ (o : Option Component). (elim o [ None ↦ false | Some x ↦ nat_le (batch_max_events x.settings) (length (held h i)) ]) || (elim o [ None ↦ false | Some x ↦ nat_le (capped (taken_at h i (oldest_held h i) + batch_timeout x.settings)) now ])) has.there)

  pub closed_some : (now n : ℕ) (full due last : Bool) → n ≡ length (held engine.log i) → full ≡ is_full_or_old state.batching state.facts.since n now → due ≡ (full || failed_before state.facts.failures) →
      last ≡ is_last_batch engine.log i → (due || last) ≡ is_batch_closed engine.log i now
  closed_some now n full due last many full_by due_by last_by =
      let h = engine.log in
      ap (λ b. b || last) (due_by ∙ ap (λ b. full || b) failed_is) ∙ ap (λ b. (full || was_attempted h i) || b) last_by
      ∙ closed_by (is_full_batch h i) (is_timed_out h i now) (is_last_batch h i) (was_attempted h i) full (λ untried. full_by ∙ due_is now n many untried)
      ∙ sym (ap (λ b. not b && (is_full_batch h i || is_timed_out h i now || is_last_batch h i || was_attempted h i)) (not_empty (held h i) some))

  -- when it may attempt that
  pub retries_at : (schedule : Schedule) (moment : ℕ) → schedule ≡ schedule_in state.batching →
      ((n : ℕ) → state.facts.failures ≡ capped n → n ≤ schedule.attempts → moment ≡ retry_moment schedule n state.facts.failed_at) → moment ≡ retry_from engine.log i
  retries_at schedule moment scheduled is =
      let h = engine.log in
      let c = has.component in
      let n = failures_with h i (oldest_held h i) in
      let same : schedule ≡ schedule_of c.settings = scheduled ∙ ap schedule_in has.batching in
      let allowed : attempts_allowed h i ≡ retry_attempts c.settings + 1 = ap (λ (o : Option Component). (elim o as (λ _. ℕ) [ None ↦ 0 | Some x ↦ retry_attempts x.settings ]) + 1) has.there in
      let most : schedule.attempts ≡ retry_attempts c.settings = ap (λ (s : Schedule). s.attempts) same in
      let fewer = (oldest_failed h i stands.legal settled some).1 in
      is n kept.0 (omega (arith, fewer, allowed, most)) ∙ ap (λ (s : Schedule). retry_moment s n state.facts.failed_at) same
      ∙ ap (λ m. if n == 0 then 0 else capped (state.facts.failed_at + m)) (wait_by c.settings n)
      ∙ ap (λ m. if n == 0 then 0 else capped (m + retry_wait c.settings n)) kept.1
      ∙ sym (ap (λ (o : Option Component). if n == 0 then 0 else capped (failed_at h i (oldest_held h i) + (elim o as (λ _. ℕ) [ None ↦ 0 | Some x ↦ retry_wait x.settings n ]))) has.there)

  -- and for which moment it waits
  pub ready_is : (n : ℕ) (full due ready last : Bool) → n ≡ length (held engine.log i) → full ≡ is_full state.batching n → due ≡ (full || failed_before state.facts.failures) → last ≡ is_last_batch engine.log i → ready ≡ (due || last) →
      ready ≡ (is_full_batch engine.log i || is_last_batch engine.log i || was_attempted engine.log i)
  ready_is n full due ready last many full_by due_by last_by ready_by_two =
      let h = engine.log in
      ready_by_two ∙ ap (λ b. b || last) (due_by ∙ ap (λ b. b || failed_before state.facts.failures) (full_by ∙ full_is n many) ∙ ap (λ b. is_full_batch h i || b) failed_is)
      ∙ ap (λ b. (is_full_batch h i || was_attempted h i) || b) last_by ∙ ready_by (is_full_batch h i) (was_attempted h i) (is_last_batch h i)

  waits_some : (ready : Bool) → ready ≡ (is_full_batch engine.log i || is_last_batch engine.log i || was_attempted engine.log i) →
      Some (if ready then retry_from engine.log i else times_out_at engine.log i) ≡ sink_waits engine.log i
  waits_some ready is =
      ap (λ (b : Bool). Some (if b then retry_from engine.log i else times_out_at engine.log i)) is
      ∙ sym (ap (λ (b : Bool). if b then None else Some (if is_full_batch engine.log i || is_last_batch engine.log i || was_attempted engine.log i then retry_from engine.log i else times_out_at engine.log i)) (not_empty (held engine.log i) some))

  pub waits_again : (moment : ℕ) → moment ≡ retry_from engine.log i → true ≡ (is_full_batch engine.log i || is_last_batch engine.log i || was_attempted engine.log i) → Some moment ≡ sink_waits engine.log i
  waits_again moment is ready = ap (λ (m : ℕ). Some m) is ∙ waits_some true ready

  pub waits_ended : (moment : ℕ) → moment ≡ times_out state.batching state.facts.since → false ≡ (is_full_batch engine.log i || is_last_batch engine.log i || was_attempted engine.log i) → Some moment ≡ sink_waits engine.log i
  waits_ended moment is unready =
      ap (λ (m : ℕ). Some m) (is ∙ ends_is (or_parts (is_full_batch engine.log i || is_last_batch engine.log i) (was_attempted engine.log i) (sym unready)).1) ∙ waits_some false unready

-- one that holds nothing waits for none
pub waits_for_none : (h : Record) (i n : ℕ) → n ≡ length (held h i) → n ≡ 0 → None ≡ sink_waits h i
waits_for_none h i n many none = go (held h i) (sym many ∙ none)
  where
    go : (qs : List (List ℕ)) → length qs ≡ 0 →
        ◌≡◌ {A = Option ℕ} None (if is_empty qs then None else Some (if is_full_batch h i || is_last_batch h i || was_attempted h i then retry_from h i else times_out_at h i))
    go [] size = refl
    go (q ∷ qs) size = absurd (omega (arith, size))

-- a batch that is closed has a parcel
pub closed_filled : (h : Record) (i now : ℕ) → is_batch_closed h i now ≡ true → 0 < length (held h i)
closed_filled h i now closed = go (held h i) refl
  where
    go : (qs : List (List ℕ)) → held h i ≡ qs → 0 < length (held h i)
    go [] is =
        let off : is_batch_closed h i now ≡ false = ap (λ (qs : List (List ℕ)). not (is_empty qs) && (is_full_batch h i || is_timed_out h i now || is_last_batch h i || was_attempted h i)) is in
        let contrary : true ≡ false = sym closed ∙ off in
        cc
    go (q ∷ qs) is = let size = ap length is in omega (arith, size)

-- no parcel can follow
pub last_is : (h : Record) (i : ℕ) (empty ending : Bool) → empty ≡ is_empty (buffered h i) → ending ≡ is_ending h i → (empty && ending) ≡ is_last_batch h i
last_is h i empty ending empty_is ending_is = turned empty ending ∙ ap (λ b. b && empty) ending_is ∙ ap (λ b. is_ending h i && b) empty_is
  where
    turned : (a b : Bool) → (a && b) ≡ (b && a)
    turned true true = refl
    turned true false = refl
    turned false true = refl
    turned false false = refl
