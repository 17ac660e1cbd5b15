-- What the components of a plan do, and that what is done and has no port has no work.
use Rattle.std.proofs.Common.{◌≡◌, ◌∙◌, ℕ, zero, suc, ◌<◌, Bool, true, false, ◌&&◌, ◌||◌, List, [], ◌∷◌, length, Option, Some, None, refl, sym, ap, arith, get_or}
use Rattle.std.specs.Prelude.{not, nat_le, slice_get}
use Rattle.std.proofs.lemmas.Bool.{and_parts, or_from}
use Rattle.vx_plan.specs.declared.class.Class.{Class}
use Rattle.vx_plan.specs.declared.class.Class.TheVariants.{Source, Transform, Sink}
use Rattle.vx_plan.specs.declared.component.Component.{Component}
use Rattle.vx_plan.specs.Components.{is_source, is_transform}
use Rattle.vx_plan.specs.Options.{has_device}
use Rattle.vx_record.specs.Records.{Record}
use Rattle.vx_record.specs.Confirms.{is_confirm_due}
use Rattle.vx_record.specs.Installs.{component_of, source_at, device_at, is_closed}
use Rattle.vx_record.specs.Judges.{is_judging}
use Rattle.vx_record.specs.Legal.{IsLegal}
use Rattle.vx_record.specs.Lists.{buffered, held}
use Rattle.vx_record.specs.Owing.{is_done}
use Rattle.vx_record.specs.Ready.{reading_moment, is_heir, can_read, is_close_due, is_attempt_due, can_take, is_source_ready, is_transform_ready, is_sink_ready, is_ready}
use Rattle.vx_record.specs.Routing.{is_dry, is_sent, is_ending}
use Rattle.vx_record.specs.SinkBatches.{is_full_batch, is_timed_out, is_last_batch, was_attempted, is_batch_closed, retry_from}
use Rattle.vx_value.specs.Texts.{is_empty}
use Rattle.vx_record.proofs.SourceEnds.{source_done}
use Rattle.vx_record.proofs.Vacant.{is_empty_of, unbuffered}
use Rattle.vx_record.proofs.WorkerEnds.{worker_done}
use Rattle.vx_sourcecore.specs.Lines.{is_generating, is_blackhole}
use Rattle.vx_tasks.specs.Joining.{is_joining}
use Rattle.vx_hub.specs.Standing.{merges}
use Rattle.vx_ready.specs.Asking.{source_class, transform_class, sink_class, has_few_ports, is_served, all_served}

-- COMPONENTS
-- each of those that are all served is
pub served_in : (components : List Component) (i : ℕ) (c : Component) → all_served components ≡ true →
    i < length components → c ≡ get_or components i c → is_served c ≡ true
served_in [] i c all l is = absurd (omega (arith, l))
served_in (d ∷ rest) zero c all l is = rw is (and_parts (is_served d) (all_served rest) all).0
served_in (d ∷ rest) (suc i) c all l is = served_in rest i c (and_parts (is_served d) (all_served rest) all).1 (omega (arith, l)) is

pub served_at : (components : List Component) (i : ℕ) (c : Component) → all_served components ≡ true → slice_get components i ≡ Some c → is_served c ≡ true
served_at [] i c all at = cc
served_at (d ∷ rest) zero c all at = let same : d ≡ c = cc in ap is_served (sym same) ∙ (and_parts (is_served d) (all_served rest) all).0
served_at (d ∷ rest) (suc i) c all at = served_at rest i c (and_parts (is_served d) (all_served rest) all).1 at

-- a transform judges that doesn't merge
judge_tests : (device judging few joining : Bool) → ((device && false) || (judging && not device && few) || false || false || (joining && not device && few)) ≡ true → joining ≡ false → judging ≡ true
judge_tests device judging few joining is alone = grind (arith, is, alone)

served_tests : (class : Class) (device judging few generating blackhole joining : Bool) →
    ((device && not (transform_class class)) || (transform_class class && judging && not device && few) || (source_class class && generating) || (sink_class class && blackhole)
    || (transform_class class && joining && not device && few)) ≡ true →
    transform_class class ≡ true → (transform_class class && joining) ≡ false → judging ≡ true
served_tests Source device judging few generating blackhole joining is transform alone = cc
served_tests Transform device judging few generating blackhole joining is transform alone = judge_tests device judging few joining is alone
served_tests Sink device judging few generating blackhole joining is transform alone = cc

pub serves : (c : Component) → is_served c ≡ true → is_transform c ≡ true → merges c ≡ false → is_judging c.settings ≡ true
serves c = served_tests c.class (has_device c.settings) (is_judging c.settings) (has_few_ports c) (is_generating c.settings) (is_blackhole c.settings) (is_joining c.settings)

-- INSTANCES
-- what is done has no work, if it is a transform
unflowing : (sent buffer ending none : Bool) → buffer ≡ true → none ≡ true → (sent && (not buffer || (ending && buffer && not none))) ≡ false
unflowing false buffer ending none b n = refl
unflowing true false ending none b n = cc
unflowing true true ending false b n = cc
unflowing true true true true b n = refl
unflowing true true false true b n = refl

unreadable : (s d t k : Bool) → d ≡ true → (s && not d && t && k) ≡ false
unreadable true true t k e = refl
unreadable false true t k e = refl
unreadable s false t k e = cc

unbatched : (n o w : Bool) → n ≡ true → (not n && o && w) ≡ false
unbatched true o w e = refl
unbatched false o w e = cc

untakeable : (c b : Bool) → b ≡ true → (not c && not b) ≡ false
untakeable true true e = refl
untakeable false true e = refl
untakeable c false e = cc

by_class : (o : Option Component) (s t k : Bool) → ((elim o [ None ↦ false | Some c ↦ is_source c ]) ≡ true → s ≡ false) →
    ((elim o [ None ↦ false | Some c ↦ is_source c ]) ≡ false → (t ≡ false) × (k ≡ false)) →
    (elim o [ None ↦ false | Some c ↦ elim c.class [ Source ↦ s | Transform ↦ t | Sink ↦ k ] ]) ≡ false
by_class None s t k source worker = refl
by_class (Some c) s t k source worker = go c.class source worker
  where
    go : (class : Class) → ((elim class [ Source ↦ true | Transform ↦ false | Sink ↦ false ]) ≡ true → s ≡ false) →
        ((elim class [ Source ↦ true | Transform ↦ false | Sink ↦ false ]) ≡ false → (t ≡ false) × (k ≡ false)) →
        (elim class [ Source ↦ s | Transform ↦ t | Sink ↦ k ]) ≡ false
    go Source source worker = source refl
    go Transform source worker = (worker refl).0
    go Sink source worker = (worker refl).1

-- what is done has no work, if it has no port
pub done_unready : (h : Record) (i now : ℕ) → IsLegal h → device_at h i ≡ false → is_done h i ≡ true → is_ready h i now ≡ false
done_unready h i now legal off done = by_class (component_of h i) (is_source_ready h i now) (is_transform_ready h i) (is_sink_ready h i now) source worker
  where
    closing : is_close_due h i ≡ false
    closing = ap (λ b. b && not (is_closed h i) && is_done h i) off

    source : source_at h i ≡ true → is_source_ready h i now ≡ false
    source on =
        let was = source_done h i on done in
        or_from (can_read h i now || is_confirm_due h i) (is_close_due h i)
        (or_from (can_read h i now) (is_confirm_due h i) (unreadable (is_sent h i) (is_dry h i) (nat_le (reading_moment h i) now) (is_heir h i) was.dry) was.undue)
        closing

    worker : source_at h i ≡ false → (is_transform_ready h i ≡ false) × (is_sink_ready h i now ≡ false)
    worker other =
        let was = worker_done h i legal other done in
        let none = is_empty_of (held h i) was.empty.holdings in (
          unflowing (is_sent h i) (is_empty (buffered h i)) (is_ending h i) (is_empty (held h i)) (unbuffered h i was.empty) none,
          or_from (is_attempt_due h i now || can_take h i now) (is_close_due h i)
              (or_from (is_attempt_due h i now) (can_take h i now)
              (unbatched (is_empty (held h i)) (is_full_batch h i || is_timed_out h i now || is_last_batch h i || was_attempted h i) (nat_le (retry_from h i) now) none)
              (untakeable (is_batch_closed h i now) (is_empty (buffered h i)) (unbuffered h i was.empty)))
              closing,
        )
