-- An instance that has something to do has work in the record, and one that hasn't has none.
use Rattle.std.proofs.Common.{◌≡◌, ◌∙◌, ℕ, ◌<◌, ◌≤◌, Bool, true, false, ◌&&◌, ◌||◌, ◌⊎◌, List, [], length, Option, Some, None, IfSome, IfNone, IsSomeAnd, inl, inr, refl, sym, ap, subst, arith}
use Rattle.std.specs.Prelude.{not, nat_le, slice_get, if◌then◌else◌}
use Rattle.std.proofs.lemmas.Bool.{and_from as both, and_parts, and_right as second_off, or_left as first_on, or_right as second_on}
use Rattle.std.proofs.lemmas.Bool.Decides.{nat_tests}
use Rattle.vx_ends.specs.Observation.{Observation}
use Rattle.vx_value.specs.Texts.{is_empty}
use Rattle.vx_plan.specs.declared.class.Class.{Class}
use Rattle.vx_plan.specs.declared.class.Class.TheVariants.{Source, Transform, Sink}
use Rattle.vx_plan.specs.declared.component.Component.{Component}
use Rattle.vx_plan.specs.Components.{is_source, is_transform, is_sink}
use Rattle.vx_record.specs.Records.{Record}
use Rattle.vx_record.specs.Confirms.{is_confirm_due}
use Rattle.vx_record.specs.Installs.{component_of, source_at, transform_at, sink_at, device_at, is_closed}
use Rattle.vx_record.specs.Lists.{buffered, held}
use Rattle.vx_record.specs.Owing.{is_done, is_source_done, is_worker_done}
use Rattle.vx_record.specs.Ready.{can_read, is_close_due, is_source_ready, is_attempt_due, can_take, is_sink_ready, is_flush_due, is_transform_ready, is_ready, source_waits, sink_waits, waits_until}
use Rattle.vx_record.specs.Legal.{IsLegal}
use Rattle.vx_record.specs.Places.Place.{Held}
use Rattle.vx_record.specs.Ready.{IsReady}
use Rattle.vx_record.specs.Routing.{is_sent, is_ending}
use Rattle.vx_record.specs.Shifts.{at}
use Rattle.vx_record.specs.Transforms.{IsTickDue}
use Rattle.vx_record.specs.SinkBatches.{is_batch_closed, retry_from}
use Rattle.vx_record.proofs.Ceasing.{unabandoned}
use Rattle.vx_instances.specs.declared.state.InstanceState.{InstanceState}
use Rattle.vx_tasks.specs.Joining.{is_joining, joins_at}
use Rattle.vx_tasks.specs.declared.work.Job.{Job}
use Rattle.vx_tasks.specs.declared.work.Job.TheVariants as job
use Rattle.vx_moves.specs.declared.engine.EngineState.{EngineState}
use Rattle.vx_moves.specs.Leasing.{IsFitAt}
use Rattle.vx_moves.specs.Stands.{Stands}
use Rattle.vx_ready.specs.Asking.{source_class, transform_class, sink_class, IsSettled, IsUsable, IsOpen}
use Rattle.vx_ready.specs.Jobs.{IsLeasable, IsSourceJob, IsTransformJob, IsSinkJob, IsJob}
use Rattle.vx_ready.proofs.Closed.{closed_filled, not_empty}
use Rattle.vx_ready.proofs.Done.{none_held}
use Rattle.vx_ready.proofs.Emptied.{holds_none}
use Rattle.vx_ready.proofs.Knowing.{Runs, known, runs, source_is, transform_is, sink_is, unleased, going, unleased_there, owes_none, state_there}

-- TESTS
after_two : (a b c : Bool) → a ≡ true → b ≡ false → c ≡ (a && not b && c)
after_two true true c e f = cc
after_two true false c e f = refl
after_two false b c e f = cc

nothing_due : (sent ending empty none : Bool) → empty ≡ true → none ≡ true → (sent && (not empty || (ending && empty && not none))) ≡ false
nothing_due true true true true e n = refl
nothing_due true false true true e n = refl
nothing_due false ending true true e n = refl
nothing_due sent ending false none e n = cc
nothing_due sent ending true false e n = cc

pub none_map : {A : Type 0} (F G : Type 0) (o : Option A) → (F → G) → IfNone o F → IfNone o G
none_map F G None f is = f is
none_map F G (Some x) f is = tt

-- WORK BY CLASS
source_ready : (h : Record) (i now : ℕ) → Runs h i Source → is_ready h i now ≡ is_source_ready h i now
source_ready h i now runs =
    ap (λ (o : Option Component). elim o [ None ↦ false | Some c ↦ elim c.class [ Source ↦ is_source_ready h i now | Transform ↦ is_transform_ready h i | Sink ↦ is_sink_ready h i now ] ]) runs.there
    ∙ ap (λ (x : Class). elim x [ Source ↦ is_source_ready h i now | Transform ↦ is_transform_ready h i | Sink ↦ is_sink_ready h i now ]) (sym runs.class_is)

sink_ready : (h : Record) (i now : ℕ) → Runs h i Sink → is_ready h i now ≡ is_sink_ready h i now
sink_ready h i now runs =
    ap (λ (o : Option Component). elim o [ None ↦ false | Some c ↦ elim c.class [ Source ↦ is_source_ready h i now | Transform ↦ is_transform_ready h i | Sink ↦ is_sink_ready h i now ] ]) runs.there
    ∙ ap (λ (x : Class). elim x [ Source ↦ is_source_ready h i now | Transform ↦ is_transform_ready h i | Sink ↦ is_sink_ready h i now ]) (sym runs.class_is)

transform_ready : (h : Record) (i now : ℕ) → Runs h i Transform → is_ready h i now ≡ is_transform_ready h i
transform_ready h i now runs =
    ap (λ (o : Option Component). elim o [ None ↦ false | Some c ↦ elim c.class [ Source ↦ is_source_ready h i now | Transform ↦ is_transform_ready h i | Sink ↦ is_sink_ready h i now ] ]) runs.there
    ∙ ap (λ (x : Class). elim x [ Source ↦ is_source_ready h i now | Transform ↦ is_transform_ready h i | Sink ↦ is_sink_ready h i now ]) (sym runs.class_is)

source_job_ready : (h : Record) (i now : ℕ) (work : Job) → IsSourceJob h i now work → is_source_ready h i now ≡ true
source_job_ready h i now job.Read is = first_on (can_read h i now || is_confirm_due h i) (is_close_due h i) (first_on (can_read h i now) (is_confirm_due h i) is)
source_job_ready h i now job.Confirm is = first_on (can_read h i now || is_confirm_due h i) (is_close_due h i) (second_on (can_read h i now) (is_confirm_due h i) is)
source_job_ready h i now job.Collect is = absurd is
source_job_ready h i now job.Attempt is = absurd is
source_job_ready h i now job.Judge is = absurd is
source_job_ready h i now job.Close is = second_on (can_read h i now || is_confirm_due h i) (is_close_due h i) is

transform_job_ready : (h : Record) (i : ℕ) (work : Job) → IsTransformJob h i work → is_transform_ready h i ≡ true
transform_job_ready h i job.Read is = absurd is
transform_job_ready h i job.Confirm is = absurd is
transform_job_ready h i job.Collect is = absurd is
transform_job_ready h i job.Attempt is = absurd is
transform_job_ready h i job.Judge is = both (is_sent h i) (not (is_empty (buffered h i)) || is_flush_due h i) is.0 (first_on (not (is_empty (buffered h i))) (is_flush_due h i) (ap not is.1))
transform_job_ready h i job.Close is = absurd is

sink_job_ready : (h : Record) (i now : ℕ) (work : Job) → IsSinkJob h i now work → is_sink_ready h i now ≡ true
sink_job_ready h i now job.Read is = absurd is
sink_job_ready h i now job.Confirm is = absurd is
sink_job_ready h i now job.Collect is = first_on (is_attempt_due h i now || can_take h i now) (is_close_due h i) (second_on (is_attempt_due h i now) (can_take h i now) is)
sink_job_ready h i now job.Attempt is = first_on (is_attempt_due h i now || can_take h i now) (is_close_due h i) (first_on (is_attempt_due h i now) (can_take h i now) is)
sink_job_ready h i now job.Judge is = absurd is
sink_job_ready h i now job.Close is = second_on (is_attempt_due h i now || can_take h i now) (is_close_due h i) is

-- an instance that merges is a transform
pub joins_transform : (h : Record) (i : ℕ) → joins_at h i ≡ true → transform_at h i ≡ true
joins_transform h i joins = go (component_of h i) joins
  where
    go : (o : Option Component) → (elim o [ None ↦ false | Some c ↦ is_transform c && is_joining c.settings ]) ≡ true → (elim o [ None ↦ false | Some c ↦ is_transform c ]) ≡ true
    go None is = cc
    go (Some c) is = (and_parts (is_transform c) (is_joining c.settings) is).0

transform_of : (class : Class) → transform_class class ≡ true → class ≡ Transform
transform_of Source is = cc
transform_of Transform is = refl
transform_of Sink is = cc

-- an instance is what the class of its state is
module _ {P : Type 0} (observe : P → Observation) (engine : EngineState P) (stands : Stands observe engine) (i : ℕ) (state : InstanceState P) (there : slice_get engine.states i ≡ Some state) where
  pub source_so : state.class ≡ Source → source_at engine.log i ≡ true
  source_so is = sym (source_is observe engine stands i state there) ∙ ap source_class is

  pub transform_so : state.class ≡ Transform → transform_at engine.log i ≡ true
  transform_so is = sym (transform_is observe engine stands i state there) ∙ ap transform_class is

  pub sink_so : state.class ≡ Sink → sink_at engine.log i ≡ true
  sink_so is = sym (sink_is observe engine stands i state there) ∙ ap sink_class is

module _ {P : Type 0} (observe : P → Observation) (engine : EngineState P) (stands : Stands observe engine) (i : ℕ) (state : InstanceState P) (there : slice_get engine.states i ≡ Some state) (settled : IsSettled engine i) (open_at : IsOpen engine i) where
  usable : IsUsable state
  usable = subst (λ (o : Option (InstanceState P)). IsSomeAnd o IsUsable) there open_at

  close_is : device_at engine.log i ≡ true → is_done engine.log i ≡ is_close_due engine.log i
  close_is device =
      after_two (device_at engine.log i) (is_closed engine.log i) (is_done engine.log i) device
      (sym (known observe engine stands i state there).facts.closed ∙ usable.unclosed)

  fit_there : IsFitAt engine.states i
  fit_there = record {
    fed = subst (λ (o : Option (InstanceState P)). IfSome o (λ s. s.facts.starved ≡ false)) (sym there) usable.fed;
    settled = subst (λ (o : Option (InstanceState P)). IfSome o (λ s. s.facts.owing ≡ false)) (sym there) (unleased observe engine stands i state there settled).1.1;
  }

  leasable_by : (now : ℕ) → IsReady engine.log i now → IsLeasable engine i now
  leasable_by now ready = record {
    may = λ worker later. record {
      unleased = (unleased_there observe engine stands i state there settled).1.unleased;
      unretired = sym (known observe engine stands i state there).facts.retired ∙ usable.unretired;
      settled = owes_none observe engine stands i state there settled;
      ready = ready;
      later = later;
      unpolled = refl;
    };
    going = unabandoned engine.log (going observe engine stands i state there settled);
    fit = fit_there;
  }

  leasable : (now : ℕ) → is_ready engine.log i now ≡ true → IsLeasable engine i now
  leasable now ready = leasable_by now (inl ready)

  runs_as : (class : Class) → state.class ≡ class → Runs engine.log i class
  runs_as class is = subst (Runs engine.log i) is (runs observe engine stands i state there)

  pub source_leased : (now : ℕ) (work : Job) → state.class ≡ Source → IsSourceJob engine.log i now work → IsLeasable engine i now
  source_leased now work is does = leasable now (source_ready engine.log i now (runs_as Source is) ∙ source_job_ready engine.log i now work does)

  pub transform_leased : (now : ℕ) (work : Job) → state.class ≡ Transform → IsTransformJob engine.log i work → IsLeasable engine i now
  transform_leased now work is does = leasable now (transform_ready engine.log i now (runs_as Transform is) ∙ transform_job_ready engine.log i work does)

  pub sink_leased : (now : ℕ) (work : Job) → state.class ≡ Sink → IsSinkJob engine.log i now work → IsLeasable engine i now
  sink_leased now work is does = leasable now (sink_ready engine.log i now (runs_as Sink is) ∙ sink_job_ready engine.log i now work does)

  pub source_none : (now : ℕ) → state.class ≡ Source → is_source_ready engine.log i now ≡ false → is_ready engine.log i now ≡ false
  source_none now is none = source_ready engine.log i now (runs_as Source is) ∙ none

  pub transform_none : (now : ℕ) → state.class ≡ Transform → is_transform_ready engine.log i ≡ false → is_ready engine.log i now ≡ false
  transform_none now is none = transform_ready engine.log i now (runs_as Transform is) ∙ none

  pub sink_none : (now : ℕ) → state.class ≡ Sink → is_sink_ready engine.log i now ≡ false → is_ready engine.log i now ≡ false
  sink_none now is none = sink_ready engine.log i now (runs_as Sink is) ∙ none

  pub source_works : (now : ℕ) (work : Job) → state.class ≡ Source → IsSourceJob engine.log i now work → IsJob engine.log i now work
  source_works now work is does = inl (source_so observe engine stands i state there is, does)

  pub transform_works : (now : ℕ) (work : Job) → state.class ≡ Transform → IsTransformJob engine.log i work → IsJob engine.log i now work
  transform_works now work is does = inr (inl (transform_so observe engine stands i state there is, does))

  -- one that merges is a transform
  joins_class : joins_at engine.log i ≡ true → state.class ≡ Transform
  joins_class joins = transform_of state.class (transform_is observe engine stands i state there ∙ joins_transform engine.log i joins)

  merge_leased : (now : ℕ) → joins_at engine.log i ≡ true → is_sent engine.log i ≡ true →
      ((not (is_empty (buffered engine.log i)) || is_flush_due engine.log i) ≡ true) ⊎ IsTickDue engine.log i now → IsLeasable engine i now
  merge_leased now joins sent (inl some) =
      leasable now (transform_ready engine.log i now (runs_as Transform (joins_class joins))
      ∙ both (is_sent engine.log i) (not (is_empty (buffered engine.log i)) || is_flush_due engine.log i) sent some)
  merge_leased now joins sent (inr due) = leasable_by now (inr (record { sent = sent; due = due }))

  merge_unready : (now : ℕ) → joins_at engine.log i ≡ true → is_transform_ready engine.log i ≡ false → is_ready engine.log i now ≡ false
  merge_unready now joins none = transform_ready engine.log i now (runs_as Transform (joins_class joins)) ∙ none

  pub sink_works : (now : ℕ) (work : Job) → state.class ≡ Sink → IsSinkJob engine.log i now work → IsJob engine.log i now work
  sink_works now work is does = inr (inr (sink_so observe engine stands i state there is, does))

pub close_there : {P : Type 0} (observe : P → Observation) (engine : EngineState P) (stands : Stands observe engine) (i : ℕ) → i < length engine.states → IsSettled engine i → IsOpen engine i → device_at engine.log i ≡ true → is_done engine.log i ≡ is_close_due engine.log i
close_there observe engine stands i within settled open_at = let there = state_there engine.states i within in close_is observe engine stands i there.0 there.1 settled open_at

-- WHO MERGES
pub merge_there : {P : Type 0} (observe : P → Observation) (engine : EngineState P) (stands : Stands observe engine) (i : ℕ) → i < length engine.states → IsSettled engine i → IsOpen engine i →
    (now : ℕ) → joins_at engine.log i ≡ true → is_sent engine.log i ≡ true →
    ((not (is_empty (buffered engine.log i)) || is_flush_due engine.log i) ≡ true) ⊎ IsTickDue engine.log i now → IsLeasable engine i now
merge_there observe engine stands i within settled open_at = let there = state_there engine.states i within in merge_leased observe engine stands i there.0 there.1 settled open_at

pub unready_there : {P : Type 0} (observe : P → Observation) (engine : EngineState P) (stands : Stands observe engine) (i : ℕ) → i < length engine.states → IsSettled engine i → IsOpen engine i →
    (now : ℕ) → joins_at engine.log i ≡ true → is_transform_ready engine.log i ≡ false → is_ready engine.log i now ≡ false
unready_there observe engine stands i within settled open_at = let there = state_there engine.states i within in merge_unready observe engine stands i there.0 there.1 settled open_at

-- where nothing is buffered, and it isn't to be flushed, it has no work but a tick
pub no_inputs : (h : Record) (i : ℕ) → (not (is_empty (buffered h i)) || is_flush_due h i) ≡ false → is_transform_ready h i ≡ false
no_inputs h i none = second_off (is_sent h i) (not (is_empty (buffered h i)) || is_flush_due h i) none

-- when it is to be flushed
flush_bare : (ending empty none : Bool) → none ≡ true → false ≡ (ending && empty && not none)
flush_bare true true true is = refl
flush_bare true false true is = refl
flush_bare false true true is = refl
flush_bare false false true is = refl
flush_bare ending empty false is = cc

flush_filled : (ending empty none : Bool) → empty ≡ false → false ≡ (ending && empty && not none)
flush_filled true false none is = refl
flush_filled false false none is = refl
flush_filled ending true none is = cc

flush_ending : (ending empty none : Bool) → empty ≡ true → none ≡ false → ending ≡ (ending && empty && not none)
flush_ending true true false empty_is none_is = refl
flush_ending false true false empty_is none_is = refl
flush_ending ending false none empty_is none_is = cc
flush_ending ending empty true empty_is none_is = cc

pub unflushed_bare : (h : Record) (i : ℕ) → IsLegal h → is_empty (at h (Held i)) ≡ true → false ≡ is_flush_due h i
unflushed_bare h i legal none = flush_bare (is_ending h i) (is_empty (buffered h i)) (is_empty (held h i)) (sym (none_held h i legal) ∙ none)

pub unflushed_filled : (h : Record) (i : ℕ) → is_empty (buffered h i) ≡ false → false ≡ is_flush_due h i
unflushed_filled h i some = flush_filled (is_ending h i) (is_empty (buffered h i)) (is_empty (held h i)) some

pub flushed_ending : (h : Record) (i : ℕ) (ending : Bool) → IsLegal h → is_empty (at h (Held i)) ≡ false → is_empty (buffered h i) ≡ true → ending ≡ is_ending h i → ending ≡ is_flush_due h i
flushed_ending h i ending legal some none is =
    is ∙ flush_ending (is_ending h i) (is_empty (buffered h i)) (is_empty (held h i)) none (sym (none_held h i legal) ∙ some)

-- one without a port never is
pub close_never : (h : Record) (i : ℕ) → device_at h i ≡ false → false ≡ is_close_due h i
close_never h i off = sym (ap (λ b. b && not (is_closed h i) && is_done h i) off)

-- a transform that hasn't sent everything has no work, nor has one with nothing buffered: it holds nothing, so no flush is due
pub unsent_there : (h : Record) (i : ℕ) → is_sent h i ≡ false → is_transform_ready h i ≡ false
unsent_there h i is = ap (λ b. b && (not (is_empty (buffered h i)) || is_flush_due h i)) is

pub idle_there : {P : Type 0} (observe : P → Observation) (engine : EngineState P) (stands : Stands observe engine) (i : ℕ) → i < length engine.states → IsSettled engine i → transform_at engine.log i ≡ true → joins_at engine.log i ≡ false →
    is_empty (buffered engine.log i) ≡ true → is_transform_ready engine.log i ≡ false
idle_there observe engine stands i within settled transform alone empty =
    let h = engine.log in
    let there = state_there engine.states i within in
    let bare : held h i ≡ [] = holds_none h i stands.legal (unabandoned h (going observe engine stands i there.0 there.1 settled)) transform (stands.run.judging i transform alone) (owes_none observe engine stands i there.0 there.1 settled) in
    nothing_due (is_sent h i) (is_ending h i) (is_empty (buffered h i)) (is_empty (held h i)) empty (ap (λ (qs : List (List ℕ)). is_empty qs) bare)

-- a moment that has come, and one that hasn't
soon : (moment from now : ℕ) → moment ≡ from → moment ≤ now → nat_le from now ≡ true
soon moment from now is come = grind (arith, nat_tests)

late : (moment from now : ℕ) → moment ≡ from → now < moment → nat_le from now ≡ false
late moment from now is waits = grind (arith, nat_tests)

-- a batch that is closed may be attempted once it has waited
pub attempts_there : (h : Record) (i now moment : ℕ) → is_batch_closed h i now ≡ true → moment ≡ retry_from h i → moment ≤ now → is_attempt_due h i now ≡ true
attempts_there h i now moment closed is waited = both (is_batch_closed h i now) (nat_le (retry_from h i) now) closed (soon moment (retry_from h i) now is waited)

-- until then a sink has nothing to do: it takes no more, and isn't done, since it holds something
unready : (closed waited more close : Bool) → closed ≡ true → waited ≡ false → close ≡ false → ((closed && waited) || (not closed && more) || close) ≡ false
unready true true more close is off shut = cc
unready true false more close is off shut = shut
unready false waited more close is off shut = cc

unsourced : (h : Record) (i : ℕ) → sink_at h i ≡ true → source_at h i ≡ false
unsourced h i sink = go (component_of h i) sink
  where
    by : (class : Class) → (elim class [ Source ↦ false | Transform ↦ false | Sink ↦ true ]) ≡ true → (elim class [ Source ↦ true | Transform ↦ false | Sink ↦ false ]) ≡ false
    by Source is = cc
    by Transform is = refl
    by Sink is = refl

    go : (o : Option Component) → (elim o as (λ _. Bool) [ None ↦ false | Some c ↦ is_sink c ]) ≡ true → (elim o as (λ _. Bool) [ None ↦ false | Some c ↦ is_source c ]) ≡ false
    go None is = refl
    go (Some c) is = by c.class is

undone : (h : Record) (i : ℕ) → sink_at h i ≡ true → 0 < length (held h i) → is_close_due h i ≡ false
undone h i sink some =
    let worker : is_done h i ≡ is_worker_done h i = ap (λ b. if b then is_source_done h i else is_worker_done h i) (unsourced h i sink) in
    let full : is_worker_done h i ≡ false = second_off (is_ending h i && is_empty (buffered h i) && is_sent h i) (is_empty (held h i)) (not_empty (held h i) some) in
    second_off (device_at h i && not (is_closed h i)) (is_done h i) (worker ∙ full)

pub waiting_there : (h : Record) (i now moment : ℕ) → sink_at h i ≡ true → is_batch_closed h i now ≡ true → moment ≡ retry_from h i → now < moment → is_sink_ready h i now ≡ false
waiting_there h i now moment sink closed is waits =
    unready (is_batch_closed h i now) (nat_le (retry_from h i) now) (not (is_empty (buffered h i))) (is_close_due h i) closed (late moment (retry_from h i) now is waits)
    (undone h i sink (closed_filled h i now closed))

-- WAITS
-- what is said of a moment, if there is one, by what is said of all
pub some_then : {A F : Type 0} (o : Option A) → F → IfSome o (λ x. F)
some_then None said = tt
some_then (Some x) said = said

-- an instance waits as its class does
abbrev until_by : Record → ℕ → Option Component → Option ℕ
until_by h i o = elim o [ None ↦ None | Some c ↦ elim c.class [ Source ↦ source_waits h i | Transform ↦ None | Sink ↦ sink_waits h i ] ]

abbrev class_waits : Record → ℕ → Class → Option ℕ
class_waits h i class = elim class [ Source ↦ source_waits h i | Transform ↦ None | Sink ↦ sink_waits h i ]

until_is : (h : Record) (i : ℕ) (class : Class) → Runs h i class → class_waits h i class ≡ waits_until h i
until_is h i class runs = ap (class_waits h i) runs.class_is ∙ sym (ap (until_by h i) runs.there)

module _ {P : Type 0} (observe : P → Observation) (engine : EngineState P) (stands : Stands observe engine) (i : ℕ) (state : InstanceState P) (there : slice_get engine.states i ≡ Some state) where
  class_until : (class : Class) → state.class ≡ class → class_waits engine.log i class ≡ waits_until engine.log i
  class_until class is = until_is engine.log i class (subst (Runs engine.log i) is (runs observe engine stands i state there))

  pub source_until : state.class ≡ Source → source_waits engine.log i ≡ waits_until engine.log i
  source_until is = class_until Source is

  pub transform_until : state.class ≡ Transform → None ≡ waits_until engine.log i
  transform_until is = class_until Transform is

  pub sink_until : state.class ≡ Sink → sink_waits engine.log i ≡ waits_until engine.log i
  sink_until is = class_until Sink is
