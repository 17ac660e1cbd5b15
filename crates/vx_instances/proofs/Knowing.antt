-- What is known of the instances follows the record.
use Rattle.std.proofs.Common.{◌≡◌, ◌∙◌, ◌≢◌, ◌<◌, inl, inr, ℕ, Bool, true, false, List, [], ◌∷◌, Option, Some, None, IfSome, length, refl, sym, ap, subst, arith, slice_get}
use Rattle.std.specs.Prelude.{◌==◌, slice_set, get_or, IsSomeAnd}
use Rattle.std.proofs.lemmas.Bool.Decides.{nat_tests}
use Rattle.std.proofs.lemmas.List.{append-nil}
use Rattle.std.proofs.lemmas.Option.{IfSome_then}
use Rattle.vx_ends.specs.Observation.{Observation}
use Rattle.vx_plan.specs.declared.component.Component.{Component}
use Rattle.vx_plan.specs.Components.{component_named}
use Rattle.vx_plan.specs.Options.{has_device, reading_interval}
use Rattle.vx_record.specs.declared.entry.Entry.{Entry}
use Rattle.vx_record.specs.declared.entry.Entry.TheVariants.{Install, Lease, Answer, Confirm}
use Rattle.vx_record.specs.declared.tally.Tally.{Tally}
use Rattle.vx_record.specs.Records.{Record}
use Rattle.vx_record.specs.Legal.{IsLegal}
use Rattle.vx_record.specs.Tasks.{is_of}
use Rattle.vx_record.specs.Turns.{is_out, lease_now}
use Rattle.vx_record.specs.Ready.{interval_of}
use Rattle.vx_record.specs.Reads.{all_ended}
use Rattle.vx_record.specs.Installs.{Wiring, component_of, device_at, is_closed, is_retired, started, wiring}
use Rattle.vx_record.specs.Ceasing.{lost_at}
use Rattle.vx_record.specs.Sourcing.{failed_starts}
use Rattle.vx_record.specs.Confirms.{is_unconfirmed, last_confirm, due}
use Rattle.vx_record.proofs.OwnTurns.{out_own, closed_own, moment_own, retired_own}
use Rattle.vx_record.proofs.OwnLeases.{lease_apart}
use Rattle.vx_record.proofs.OwnReads.{end_own, loss_own, starts_own}
use Rattle.vx_record.proofs.OwnConfirms.{unconfirmed_own, last_own}
use Rattle.vx_counts.specs.declared.counts.Counts.{Counts}
use Rattle.vx_counts.specs.Meets.{Meets, LeavesBe, ComesFromOthers}
use Rattle.vx_counts.proofs.Stays.{others_stay}
use Rattle.vx_counts.proofs.EachEntry.{each_counted}
use Rattle.vx_counts.proofs.OwnEntries.{counted_by_own}
use Rattle.vx_tasks.specs.declared.task.Task.{Task}
use Rattle.vx_tasks.specs.Observing.{IsObserved}
use Rattle.vx_tasks.specs.Unleased.{HasCome}
use Rattle.vx_tasks.proofs.Answered.{AnswersNone, spares_none, stands_on}
use Rattle.vx_instances.specs.declared.facts.Facts.{Facts}
use Rattle.vx_instances.specs.declared.progress.Progress.{Progress}
use Rattle.vx_instances.specs.declared.state.InstanceState.{InstanceState}
use Rattle.vx_instances.specs.Knowing.{wired_outlets, IsFitted, IsFittedTo, HasFacts, HasProgress, IsTaskOfBut, HasUnleasedTask, IsKnown, Knows, asked}
use Rattle.vx_instances.proofs.Staying.{each_set, size_set, there}
use Rattle.vx_instances.proofs.Observing.{InstallsNothing, IsMute, stays, wiring_on, component_or_on, observed_far, rests_far, come_far, observed_mute, come_mute}
use Rattle.vx_instances.proofs.Owing.{OwesNoMore, owes_far, owes_still}
use Rattle.vx_instances.proofs.Holding.{cause_earlier, since_far, tried_far}
use Rattle.vx_instances.proofs.Progressing.{NotesNone, Stands, far_stands, progress_on}

-- OTHERS
-- what happened to an instance, behind an entry of others
pub facts_far : (f : Facts) (h : Record) (e : Entry) (i : ℕ) → InstallsNothing e → is_of i e ≡ false → HasFacts f h i → HasFacts f (e ∷ h) i
facts_far f h e i none is has = record {
  over = has.over ∙ sym (stays all_ended end_own h e i is);
  lost = has.lost ∙ sym (stays lost_at loss_own h e i is);
  failed_starts = has.failed_starts ∙ sym (stays failed_starts starts_own h e i is);
  confirm_failed = has.confirm_failed ∙ sym (stays is_unconfirmed unconfirmed_own h e i is);
  closed = has.closed ∙ sym (stays is_closed closed_own h e i is);
  retired = has.retired ∙ sym (stays is_retired retired_own h e i is);
  leased_at = has.leased_at ∙ sym (stays lease_now moment_own h e i is);
  reads_from = has.reads_from ∙ sym (rests_far h e i is);
  since = since_far f.since h e i none is has.since;
  tried = tried_far f.failures f.failed_at h e i none is has.tried;
}

-- what its port was asked to confirm
answered_far : (h : Record) (e : Entry) (i : ℕ) → is_of i e ≡ false → last_confirm h i ≡ asked h i → last_confirm (e ∷ h) i ≡ asked (e ∷ h) i
answered_far h e i is same = stays last_confirm last_own h e i is ∙ same ∙ ap (λ (k : Record). due k i) (sym (lease_apart h e i is))

answered_still : (h : Record) (e : Entry) (i : ℕ) → IsMute e → OwesNoMore e → last_confirm h i ≡ asked h i → last_confirm (e ∷ h) i ≡ asked (e ∷ h) i
answered_still h (Confirm j positions made) i mute less same = absurd mute
answered_still h (Lease j worker now polls) i mute less same = absurd less
answered_still h e i mute less same = same

-- COUNTS
-- an entry that counts for no other instance than its own
abbrev pub CountsOwn : Entry → Type 0
CountsOwn e = ComesFromOthers e → ⊥

pub leaves_far : (h : Record) (e : Entry) (i : ℕ) → IsLegal (e ∷ h) → CountsOwn e → is_of i e ≡ false → LeavesBe h i e
leaves_far h e i legal own is = elim (each_counted e h i legal) [ inl counts ↦ absurd (own (counted_by_own e h i legal is counts)) | inr leaves ↦ leaves ]

pub counts_on : {b : Bool} {t : Tally} (h : Record) (e : Entry) (i : ℕ) → IsLegal (e ∷ h) → LeavesBe h i e → (b ≡ false → Meets i h t) → b ≡ false → Meets i (e ∷ h) t
counts_on h e i legal leaves meets is = meets is ∙ sym (others_stay e h i legal leaves)

-- an entry of the instance's own task that counts for no other
abbrev pub IsOwnOf : ℕ → Entry → Type 0
IsOwnOf i e = InstallsNothing e × ((j : ℕ) → is_of j e ≡ (i == j)) × ((h : Record) (j : ℕ) → NotesNone h j e) × CountsOwn e

pub apart_of : (i j : ℕ) → j ≢ i → (i == j) ≡ false
apart_of i j other = grind (arith, nat_tests)

-- an entry that installs nothing starts no instance
started_on : (h : Record) (e : Entry) → InstallsNothing e → length (started (e ∷ h)) ≡ length (started h)
started_on h (Install version plan once instances now) none = absurd none
started_on h e none = ap length (append-nil (started h))

module _ {P : Type 0} where
  -- a state of which no more is written than calls write is for the component that it was for
  fits : (was : InstanceState P) (f : Facts) (p : Progress) (c : Counts) (task : Option (Task P)) (o : Option Component) → IsSomeAnd o (IsFittedTo was) →
      IsSomeAnd o (IsFittedTo (record was { facts = f; progress = p; counts = c; task = task }))
  fits was f p c task None fit = fit
  fits was f p c task (Some d) fit = assumption

  pub fitted_by : {was : InstanceState P} {f : Facts} {p : Progress} {c : Counts} {task : Option (Task P)} {h k : Record} {i : ℕ} → wiring k i ≡ wiring h i → IsFitted was h i →
      IsFitted (record was { facts = f; progress = p; counts = c; task = task }) k i
  fitted_by {was} {f} {p} {c} {task} {h} {k} {i} same fit = record {
    component = subst (λ (o : Option Wiring). IsSomeAnd (elim o [ None ↦ None | Some w ↦ component_named w.plan w.name ]) (IsFittedTo (record was { facts = f; progress = p; counts = c; task = task })))
        (sym same) (fits was f p c task (component_of h i) fit.component);
    outlet = fit.outlet ∙ ap (λ (o : Option Wiring). elim o as (λ _. List (List ℕ)) [ None ↦ [] | Some w ↦ wired_outlets w ]) (sym same);
  }

  -- and it has a port where that has one
  pub device_fits : (state : InstanceState P) (h : Record) (i : ℕ) → IsFitted state h i → device_at h i ≡ state.device
  device_fits state h i fit = go (component_of h i) fit.component
    where
      go : (o : Option Component) → IsSomeAnd o (IsFittedTo state) → elim o as (λ _. Bool) [ None ↦ false | Some c ↦ has_device c.settings ] ≡ state.device
      go None f = absurd f
      go (Some c) f = sym f.device

  -- and it rests behind a read as that does
  pub interval_fits : (state : InstanceState P) (h : Record) (i : ℕ) → IsFitted state h i → interval_of h i ≡ state.interval
  interval_fits state h i fit = go (component_of h i) fit.component
    where
      go : (o : Option Component) → IsSomeAnd o (IsFittedTo state) → elim o as (λ _. ℕ) [ None ↦ 0 | Some c ↦ reading_interval c.settings ] ≡ state.interval
      go None f = absurd f
      go (Some c) f = sym f.interval

-- an entry behind which no more is owed answers nothing
less_answers : (e : Entry) (i : ℕ) → OwesNoMore e → AnswersNone i e
less_answers (Answer j made discarded kept) i less = absurd less
less_answers e i less = tt

-- UNLEASED TASKS
module _ {P : Type 0} (observe : P → Observation) where
  pub but_by : (starved : Bool) (h k : Record) (i : ℕ) (task : Task P) → ((t : Observation) → IsObserved t h i → IsObserved t k i) → (HasCome h i task.role → HasCome k i task.role) →
      IsTaskOfBut observe starved h i task → IsTaskOfBut observe starved k i task
  but_by true h k i task reports comes unleased = (reports (record (observe task.port) { given = None }) unleased.0, comes unleased.1)
  but_by false h k i task reports comes unleased = record { observed = reports (observe task.port) unleased.observed; come = comes unleased.come }

  -- no task is unleased of an instance that is out
  gone : (o : Option (Task P)) (f : Facts) (h : Record) (i : ℕ) → is_out h i ≡ true → IfSome o (HasUnleasedTask observe f h i) → o ≡ None
  gone None f h i out unleased = refl
  gone (Some task) f h i out unleased = let contrary : true ≡ false = sym out ∙ unleased.unleased in cc

module _ {P : Type 0} {observe : P → Observation} where
  -- behind an entry of others
  pub unleased_far : (f : Facts) (h : Record) (e : Entry) (i : ℕ) (task : Task P) → IsLegal (e ∷ h) → InstallsNothing e → is_of i e ≡ false →
      HasUnleasedTask observe f h i task → HasUnleasedTask observe f (e ∷ h) i task
  unleased_far f h e i task legal none is has = record {
    unleased = stays is_out out_own h e i is ∙ has.unleased;
    settled = λ owing going. owes_far h e i none is (has.settled owing (cause_earlier h e going));
    answered = λ device owing going. answered_far h e i is (has.answered (sym (component_or_on false (λ (c : Component). has_device c.settings) h e i none) ∙ device) owing (cause_earlier h e going));
    kept = λ owing going. stands_on task.role h e i (spares_none e i is) (has.kept owing (cause_earlier h e going));
    task_is = but_by observe f.starved h (e ∷ h) i task (λ t. observed_far t h e i none is) (come_far task.role h e i legal none is) has.task_is;
    shut = has.shut;
    fit = has.fit;
  }

  -- behind one that tells and owes nothing, and neither leases nor brings back
  unleased_still : (f : Facts) (closed retired : Bool) (since : ℕ) (h : Record) (e : Entry) (i : ℕ) (task : Task P) → InstallsNothing e → IsMute e → OwesNoMore e →
      is_out (e ∷ h) i ≡ is_out h i →
      (closed ≡ true → (observe task.port).started ≡ false) → HasUnleasedTask observe f h i task →
      HasUnleasedTask observe (record f { closed = closed; retired = retired; since = since }) (e ∷ h) i task
  unleased_still f closed retired since h e i task none mute less out shut has = record {
    unleased = out ∙ has.unleased;
    settled = λ owing going. owes_still h e i less (has.settled owing (cause_earlier h e going));
    answered = λ device owing going. answered_still h e i mute less (has.answered (sym (component_or_on false (λ (c : Component). has_device c.settings) h e i none) ∙ device) owing (cause_earlier h e going));
    kept = λ owing going. stands_on task.role h e i (less_answers e i less) (has.kept owing (cause_earlier h e going));
    task_is = but_by observe f.starved h (e ∷ h) i task (λ t. observed_mute t h e i mute) (come_mute task.role h e i mute) has.task_is;
    shut = shut;
    fit = has.fit;
  }

  -- STATES
  -- behind an entry of others
  pub known_far : {c : Counts} (state : InstanceState P) (h : Record) (e : Entry) (i : ℕ) → IsLegal (e ∷ h) → InstallsNothing e → NotesNone h i e → is_of i e ≡ false →
      (state.facts.behind ≡ false → Meets i (e ∷ h) c.tally) → IsKnown observe state h i → IsKnown observe (record state { counts = c }) (e ∷ h) i
  known_far state h e i legal none notes is counts known = record {
    fitted = fitted_by (wiring_on h e i none) known.fitted;
    facts = facts_far state.facts h e i none is known.facts;
    progress = progress_on state.progress h e i (far_stands h i e none notes is) known.progress;
    counts = counts;
    unleased = IfSome_then state.task known.unleased (λ task. unleased_far state.facts h e i task legal none is);
    away = rw (stays is_out out_own h e i is) known.away;
  }

  -- behind an entry of an instance that is out, and stays so
  pub out_known : {was : InstanceState P} {f : Facts} {p : Progress} {c : Counts} (h : Record) (e : Entry) (i : ℕ) → InstallsNothing e → is_out (e ∷ h) i ≡ is_out h i →
      is_out h i ≡ true →
      HasFacts f (e ∷ h) i → HasProgress p (e ∷ h) i → (f.behind ≡ false → Meets i (e ∷ h) c.tally) → IsKnown observe was h i →
      IsKnown observe (record was { facts = f; progress = p; counts = c }) (e ∷ h) i
  out_known {was} h e i none same out facts progress counts k =
      let away = gone observe was.task was.facts h i out k.unleased in
      record { fitted = fitted_by (wiring_on h e i none) k.fitted; facts = facts; progress = progress; counts = counts; unleased = rw away tt; away = rw away (same ∙ out) }

  -- behind one that tells and owes nothing, and neither leases nor brings back
  pub still_known : {was : InstanceState P} {closed retired : Bool} {since : ℕ} {c : Counts} (h : Record) (e : Entry) (i : ℕ) → InstallsNothing e → IsMute e →
      OwesNoMore e → Stands h i e → is_out (e ∷ h) i ≡ is_out h i →
      HasFacts (record was.facts { closed = closed; retired = retired; since = since }) (e ∷ h) i → (was.facts.behind ≡ false → Meets i (e ∷ h) c.tally) →
      IfSome was.task (λ task. closed ≡ true → (observe task.port).started ≡ false) → IsKnown observe was h i →
      IsKnown observe (record was { facts = record was.facts { closed = closed; retired = retired; since = since }; counts = c }) (e ∷ h) i
  still_known {was} {closed} {retired} {since} {c} h e i none mute less stands out facts counts shut k = record {
    fitted = fitted_by (wiring_on h e i none) k.fitted;
    facts = facts;
    progress = progress_on was.progress h e i stands k.progress;
    counts = counts;
    unleased = go was.task shut k.unleased;
    away = rw out k.away;
  }
    where
      go : (o : Option (Task P)) → IfSome o (λ task. closed ≡ true → (observe task.port).started ≡ false) → IfSome o (HasUnleasedTask observe was.facts h i) →
          IfSome o (HasUnleasedTask observe (record was.facts { closed = closed; retired = retired; since = since }) (e ∷ h) i)
      go None shut unleased = tt
      go (Some task) shut unleased = unleased_still was.facts closed retired since h e i task none mute less out shut unleased

  -- ALL
  -- one state is written, and what is known of the others stays
  pub knows_set : {old : List (InstanceState P)} {is : InstanceState P} {h k : Record} {i : ℕ} → length (started k) ≡ length (started h) → i < length old →
      ((j : ℕ) (state : InstanceState P) → j ≢ i → IsKnown observe state h j → IsKnown observe state k j) → Knows observe old h → IsKnown observe is k i →
      Knows observe (slice_set old i is) k
  knows_set {old} {is} {h} {k} {i} size l others knows own =
      record { size = size_set old i is ∙ knows.size ∙ sym size; each = each_set (λ j state. IsKnown observe state h j) (λ j state. IsKnown observe state k j) old i is l others own knows.each }

  -- behind an entry, by what that leaves
  pub knows_next : {old : List (InstanceState P)} {is : InstanceState P} {h : Record} {i : ℕ} (e : Entry) → InstallsNothing e → i < length old →
      ((j : ℕ) (state : InstanceState P) → j ≢ i → IsKnown observe state h j → IsKnown observe state (e ∷ h) j) → Knows observe old h → IsKnown observe is (e ∷ h) i →
      Knows observe (slice_set old i is) (e ∷ h)
  knows_next {old} {is} {h} {i} e none = knows_set (started_on h e none)

  -- no state is written
  pub knows_aside : {old : List (InstanceState P)} {h : Record} (e : Entry) → InstallsNothing e →
      ((j : ℕ) (state : InstanceState P) → IsKnown observe state h j → IsKnown observe state (e ∷ h) j) →
      Knows observe old h → Knows observe old (e ∷ h)
  knows_aside {old} {h} e none each knows = record { size = knows.size ∙ sym (started_on h e none); each = λ j. IfSome_then (slice_get old j) (knows.each j) (each j) }

  -- CALLS
  -- of the state that a call writes
  module _ (i : ℕ) {items now : List (InstanceState P)} {was : InstanceState P} (view : items ≡ now) (l : i < length now) (read : was ≡ get_or items i was) where
    pub known_was : {h : Record} → Knows observe now h → IsKnown observe was h i
    known_was knows = rw (there i view l read) at (knows.each i)

    -- a call that notes no entry
    pub keeps : {is : InstanceState P} (h : Record) → (IsKnown observe was h i → IsKnown observe is h i) → Knows observe now h → Knows observe (slice_set items i is) h
    keeps h step knows = rw view (knows_set refl l (λ j state other k. k) knows (step (known_was knows)))

    -- one that notes an entry of the instance's own task: that leaves what is known of others
    pub own_steps : {is : InstanceState P} {h : Record} (e : Entry) → IsOwnOf i e → (IsLegal (e ∷ h) → IsKnown observe was h i → IsKnown observe is (e ∷ h) i) →
        Knows observe now h → IsLegal (e ∷ h) → Knows observe (slice_set items i is) (e ∷ h)
    own_steps {is} {h} e own step knows legal = rw view (knows_next e own.0 l (λ j state other known.
        let far = own.1 j ∙ apart_of i j other in
        known_far state h e j legal own.0 (own.2 h j) far (counts_on h e j legal (leaves_far h e j legal own.3 far) known.counts) known) knows (step legal (known_was knows)))
