-- What each call makes of what is known: one lemma a call, for the state that it writes.
use Rattle.std.proofs.Common.{◌≡◌, ◌∙◌, ◌≢◌, ◌<◌, inl, inr, ◌⊎◌, ℕ, ◌+◌, ◌-◌, Bool, true, false, List, [], ◌∷◌, ◌++◌, Option, Some, None, IfSome, IfNone, length, refl, sym, ap, subst, arith}
use Rattle.std.specs.Prelude.{◌&&◌, ◌||◌, not, if◌then◌else◌, slice_set, get_or, is_some, IsSomeAnd}
use Rattle.std.proofs.lemmas.Bool.{cases_Bool, cases_eq, false_from_ne_true, not-false, or_parts}
use Rattle.std.proofs.lemmas.List.{append-nil}
use Rattle.std.proofs.lemmas.Option.{IfSome_then}
use Rattle.vx_value.specs.Texts.{ByteString, is_empty}
use Rattle.vx_value.specs.declared.event.Event.{Event}
use Rattle.vx_ends.specs.Observation.{Observation}
use Rattle.vx_ends.specs.declared.position.Position.{Position}
use Rattle.vx_ends.specs.declared.trouble.Reply.{Reply}
use Rattle.vx_plan.specs.declared.class.Class.{Class}
use Rattle.vx_plan.specs.declared.class.Class.TheVariants.{Source, Transform, Sink}
use Rattle.vx_plan.specs.declared.component.Component.{Component}
use Rattle.vx_status.specs.declared.batch_status.BatchStatus.{BatchStatus}
use Rattle.vx_status.specs.declared.outcome.Outcome.{Outcome}
use Rattle.vx_status.specs.declared.outcome.Outcome.TheVariants.{NewestDropped}
use Rattle.vx_record.specs.declared.output.Output.{Output}
use Rattle.vx_record.specs.declared.taken.Taken.{Taken}
use Rattle.vx_record.specs.declared.entry.Entry.{Entry}
use Rattle.vx_record.specs.declared.entry.Entry.TheVariants.{Lease, Home, Read, Idle, SourceLost, Born, Take, Answer, Attempt, Spent, Notice, Confirm, Closed, Retired}
use Rattle.vx_record.specs.declared.tally.Tally.{Tally}
use Rattle.vx_record.specs.Records.{Record, capped}
use Rattle.vx_record.specs.Legal.{IsLegal}
use Rattle.vx_record.specs.Turns.{is_out, lease_now}
use Rattle.vx_record.specs.Reads.{bytes_taken, is_end, all_ended}
use Rattle.vx_record.specs.Installs.{component_of, device_at, source_at}
use Rattle.vx_record.specs.Sourcing.{failed_starts}
use Rattle.vx_record.specs.Ready.{interval_of}
use Rattle.vx_record.specs.SinkBatches.{is_failed}
use Rattle.vx_record.specs.Confirms.{Birth, births, is_delivered}
use Rattle.vx_record.specs.Places.Place.{Waiting, Held}
use Rattle.vx_record.specs.Shifts.{at}
use Rattle.vx_record.specs.Tallies.{is_batch_of, is_newest}
use Rattle.vx_record.proofs.Senders.{creator}
use Rattle.vx_counts.specs.declared.counts.Counts.{Counts}
use Rattle.vx_counts.specs.Classes.{class_at, IsGiver}
use Rattle.vx_counts.specs.Meets.{Meets, LeavesBe}
use Rattle.vx_counts.specs.Spends.{WasPutIn}
use Rattle.vx_counts.proofs.Classes.{source_is, tally_is}
use Rattle.vx_counts.proofs.Numbering.{one_owner}
use Rattle.vx_counts.proofs.Once.{itself}
use Rattle.vx_sourcecore.specs.declared.prefix.Prefix.{Prefix}
use Rattle.vx_sourcecore.specs.Prefixes.{AreApart, GoesOn, IsPrefixOf, Judgement, NoticeChanges, birth_at}
use Rattle.vx_tasks.specs.declared.task.Task.{Task}
use Rattle.vx_tasks.specs.Observing.{IsObservedButGiven}
use Rattle.vx_tasks.proofs.Saying.{observed_closed}
use Rattle.vx_tasks.specs.Out.{AreDue}
use Rattle.vx_instances.specs.declared.facts.Facts.{Facts}
use Rattle.vx_instances.specs.declared.progress.Progress.{Progress}
use Rattle.vx_instances.specs.declared.state.InstanceState.{InstanceState}
use Rattle.vx_instances.specs.Knowing.{HasProgress, HasUnleasedTask, IsTaskOfBut, IsFitted, IsFittedTo, IsKnown, Knows, asked, count_unnoticed, judged_by}
use Rattle.vx_instances.specs.Calls.{CountsAt, HasTaskBack, IsAskedOf, IsBack, IsClosedBy, IsSettledAt, IsShutAt, Leaves, Shuts, TaskShuts}
use Rattle.vx_instances.specs.Staying.{IsShut, OneState}
use Rattle.vx_instances.proofs.Holding.{since_answered, since_calm, since_spent, since_took, tried_answered, tried_attempted, tried_quiet, tried_spent, tried_took}
use Rattle.vx_instances.proofs.Knowing.{CountsOwn, apart_of, but_by, counts_on, device_fits, facts_far, fitted_by, unleased_far, interval_fits, keeps, known_far, known_was, knows_next, leaves_far, out_known, own_steps, still_known}
use Rattle.vx_instances.proofs.Owing.{owes_still}
use Rattle.vx_instances.proofs.Progressing.{asked_due, births_apart, count_born, count_noticed, count_on, due_unnoticed, going_on, may_new, none_unported, progress_on, reports, unborn_unnoticed, unnoticed_few}
use Rattle.vx_instances.proofs.Staying.{there, writes, written}
use Rattle.vx_tasks.proofs.Answered.{stands_on}
use Rattle.vx_instances.proofs.Observing.{observed_mute, come_mute}

-- what is known of states leads to what is known of others behind an entry
abbrev pub Leads : {P : Type 0} → (P → Observation) → List (InstanceState P) → List (InstanceState P) → Record → Entry → Type 0
Leads observe now new h e = Knows observe now h → IsLegal (e ∷ h) → Knows observe new (e ∷ h)

-- so do counts of an instance
abbrev pub Counted : ℕ → Record → Entry → Tally → Tally → Type 0
Counted i h e was is = IsLegal (e ∷ h) → Meets i h was → Meets i (e ∷ h) is

-- the states, where that of an instance is written
abbrev pub tasked : {P : Type 0} → List (InstanceState P) → ℕ → InstanceState P → Facts → Progress → Counts → List (InstanceState P)
tasked items i was f p c = slice_set items i (record was { facts = f; progress = p; counts = c })

-- what was to be confirmed is taken along by a lease
leased_progress : {device : Bool} {o : Option (List Position)} {p q : Progress} {h : Record} (i worker moment polls : ℕ) → IsAskedOf device o p q → HasProgress p h i →
    HasProgress q (Lease i worker moment polls ∷ h) i
leased_progress {device} {o} {p} {q} {h} i worker moment polls set has = record {
  unnoticed = set.unnoticed ∙ has.unnoticed ∙ sym (count_on h (Lease i worker moment polls ∷ h) i (λ b. refl) (append-nil (births h i)));
  waits = set.waits ∙ has.waits;
  prefix = rw (append-nil, itself i) (set.asked (judged_by h) (births h i) (asked h i) has.prefix);
}

-- CLASSES
class_is : {P : Type 0} (state : InstanceState P) (h : Record) (i : ℕ) → IsFitted state h i → class_at h i ≡ Some state.class
class_is state h i fit = go (component_of h i) fit.component
  where
    go : (o : Option Component) → IsSomeAnd o (IsFittedTo state) → elim o as (λ _. Option Class) [ None ↦ None | Some c ↦ Some c.class ] ≡ Some state.class
    go None f = absurd f
    go (Some c) f = ap (λ (k : Class). Some k) (sym f.class)

pub no_sink : {o : Option Class} {k : Class} → o ≡ Some k → (k ≡ Sink → ⊥) → o ≡ Some Sink → ⊥
no_sink is never sink = never (cc)

-- a class that is no sink's gives
pub gives : {o : Option Class} (k : Class) → o ≡ Some k → (k ≡ Sink → ⊥) → IsGiver o
gives Source is never = rw is tt
gives Transform is never = rw is tt
gives Sink is never = absurd (never refl)

-- SPENDS
-- what is said of a spend that isn't counted: the test fails on one side or the other
pub unless : {A : Type 0} (s f r b : Bool) → (s ≡ false → A → ⊥) → f ≡ r → b ≡ (s && f) → b ≡ false → A → r ≡ false
unless true f r b other is both none a = sym is ∙ sym both ∙ none
unless false f r b other is both none a = absurd (other refl a)

-- a spend that isn't of the newest counts for its own task alone
own_spend : (i c : ℕ) (outcome : Outcome) → is_newest outcome ≡ false → CountsOwn (Spent i c outcome)
own_spend i c NewestDropped never = cc
own_spend i c outcome never = λ x. x

pub leaves_own : (h : Record) (i c : ℕ) (outcome : Outcome) → is_newest outcome ≡ false → IsLegal (Spent i c outcome ∷ h) → (k : ℕ) → k ≢ i →
    LeavesBe h k (Spent i c outcome)
leaves_own h i c outcome newest legal k other = leaves_far h (Spent i c outcome) k legal (own_spend i c outcome newest) (apart_of i k other)

-- nor does what waited for another count
pub leaves_target : (h : Record) (i t c : ℕ) (copies : List ℕ) → WasPutIn h (Waiting i t) copies c → (k : ℕ) → k ≢ t → LeavesBe h k (Spent i c NewestDropped)
leaves_target h i t c copies put k other = λ class. record { giver = i; target = t; copies = copies; put = put; apart = rw (apart_of t k other) refl }

-- the state of whatever instance, behind a spend
pub spent_known : {P : Type 0} {observe : P → Observation} {counts : Counts} (was : InstanceState P) (h : Record) (i j c : ℕ) (outcome : Outcome) → IsLegal (Spent i c outcome ∷ h) →
    (was.facts.behind ≡ false → Meets j (Spent i c outcome ∷ h) counts.tally) → IsKnown observe was h j →
    IsKnown observe (record was { counts = counts }) (Spent i c outcome ∷ h) j
spent_known {observe = observe} {counts = counts} was h i j c outcome legal met k = elim (cases_eq i j) [
  | inl same ↦ rw same (own (subst (λ (n : ℕ). IsLegal (Spent n c outcome ∷ h)) same legal) (λ known. subst (λ (n : ℕ). Meets j (Spent n c outcome ∷ h) counts.tally) same (met known)))
  | inr other ↦ known_far was h (Spent i c outcome) j legal tt tt (apart_of i j (λ same. other (sym same))) met k
]
  where
    own : IsLegal (Spent j c outcome ∷ h) → (was.facts.behind ≡ false → Meets j (Spent j c outcome ∷ h) counts.tally) →
        IsKnown observe (record was { counts = counts }) (Spent j c outcome ∷ h) j
    own legal met =
        still_known h (Spent j c outcome) j tt tt tt tt refl (search (since_spent h j c was.facts.since outcome legal k.facts.since, tried_spent was.facts.failures was.facts.failed_at h j c outcome k.facts.tried)) met
        (IfSome_then was.task k.unleased (λ task unleased. unleased.shut)) k

-- CLOSED PORTS
-- a port that is closed tells what it told, but for what was given, too
but_given_shut : (was is : Observation) (h : Record) (i : ℕ) → IsClosedBy was is → IsObservedButGiven was h i → IsObservedButGiven is h i
but_given_shut was is h i closed observed =
    observed_closed (record was { given = None }) (record is { given = None }) h i (assumption closed.bytes) (assumption closed.counts) observed

module _ {P : Type 0} (observe : P → Observation) where
  unleased_shut : (starved : Bool) (h : Record) (i : ℕ) (was is : Task P) → is.role ≡ was.role → IsClosedBy (observe was.port) (observe is.port) →
      IsTaskOfBut observe starved h i was → IsTaskOfBut observe starved h i is
  unleased_shut true h i was is role closed unleased = (
    but_given_shut (observe was.port) (observe is.port) h i closed unleased.0,
    rw role unleased.1,
  )
  unleased_shut false h i was is role closed unleased =
      record { observed = observed_closed (observe was.port) (observe is.port) h i closed.bytes closed.counts unleased.observed; come = rw role unleased.come }

  -- what a closed port leaves of a task, if that is unleased
  record IsLeftBy (was is : Option (Task P)) : Type 0 where
    same : is_some is ≡ is_some was
    shut : IfSome is (λ task. (observe task.port).started ≡ false)
    unleased : (f : Facts) (h : Record) (i : ℕ) → IfSome was (HasUnleasedTask observe f h i) → IfSome is (HasUnleasedTask observe f h i)
    away : (h : Record) (i : ℕ) → IfNone was (is_out h i ≡ true) → IfNone is (is_out h i ≡ true)

  left_by : (was is : Option (Task P)) → TaskShuts observe was is → IsLeftBy was is
  left_by None is shuts = rw shuts (record { same = refl; shut = tt; unleased = λ f h i unleased. unleased; away = λ h i away. away })
  left_by (Some was) None shuts = absurd shuts
  left_by (Some was) (Some is) shuts = record {
    same = refl;
    shut = shuts.1.shut;
    unleased = λ f h i unleased. record {
      unleased = unleased.unleased;
      settled = unleased.settled;
      answered = unleased.answered;
      kept = λ owing going. rw shuts.0 (unleased.kept owing going);
      task_is = unleased_shut f.starved h i was is shuts.0 shuts.1 unleased.task_is;
      shut = λ _. shuts.1.shut;
      fit = λ counted. rw shuts.0 (unleased.fit counted);
    };
    away = λ h i away. tt;
  }

-- STARVED PORTS
-- a port of which more isn't known than what it was given tells the rest
but_less : {P : Type 0} (observe : P → Observation) (starved : Bool) (h : Record) (i : ℕ) (task : Task P) → IsTaskOfBut observe starved h i task →
    IsTaskOfBut observe true h i task
but_less observe true h i task unleased = unleased
but_less observe false h i task unleased = (assumption unleased.observed, unleased.come)

module _ {P : Type 0} {observe : P → Observation} (i : ℕ) {items now : List (InstanceState P)} {was : InstanceState P} (view : items ≡ now) (l : i < length now) (read : was ≡ get_or items i was) where
  -- UNLEASED OR OUT
  pub closed_knows : (h : Record) → IsShutAt observe now i → Leads observe now (tasked items i was (record was.facts { closed = true }) was.progress was.counts) h (Closed i)
  closed_knows h shut = own_steps i view l read (Closed i) (tt, λ j. refl, λ k j. tt, λ no. no) (λ legal k.
      still_known h (Closed i) i tt tt tt tt refl (search (itself i, since_calm was.facts.since h (Closed i) i tt k.facts.since, tried_quiet was.facts.failures was.facts.failed_at h (Closed i) i tt k.facts.tried)) (counts_on h (Closed i) i legal tt k.counts)
      (IfSome_then was.task (rw (there i view l read) at shut) (λ task is _. is)) k)

  pub retired_knows : (h : Record) → Leads observe now (tasked items i was (record was.facts { retired = true }) was.progress was.counts) h (Retired i)
  retired_knows h = own_steps i view l read (Retired i) (tt, λ j. refl, λ k j. tt, λ no. no) (λ legal k.
      still_known h (Retired i) i tt tt tt tt refl (search (itself i, since_calm was.facts.since h (Retired i) i tt k.facts.since, tried_quiet was.facts.failures was.facts.failed_at h (Retired i) i tt k.facts.tried)) (counts_on h (Retired i) i legal tt k.counts)
      (IfSome_then was.task k.unleased (λ task unleased. unleased.shut)) k)

  -- OUT
  pub idle_knows : {after rest from : ℕ} {failed : Bool} → (was.facts.failed_starts < 4 ⊎ (failed ≡ false) → after ≡ (if failed then was.facts.failed_starts + 1 else 0)) →
      rest ≡ (if failed then 1000 else 20) → from ≡ capped (was.facts.leased_at + rest) →
      (h : Record) → Leads observe now (tasked items i was (record was.facts { failed_starts = after; reads_from = from }) was.progress was.counts) h (Idle i failed)
  idle_knows {after} {rest} {from} {failed} set is_rest is_from h = own_steps i view l read (Idle i failed) (tt, λ j. refl, λ k j. tt, λ no. no) (λ legal k.
      let few : was.facts.failed_starts < 4 ⊎ (failed ≡ false) = elim (cases_Bool failed) [ inl is ↦ inl (rw k.facts.failed_starts (legal.0.row.few is)) | inr is ↦ inr is ] in
      let starts : after ≡ (if failed then failed_starts h i + 1 else 0) = set few ∙ ap (λ (n : ℕ). if failed then n + 1 else 0) k.facts.failed_starts in
      let rests : from ≡ capped (lease_now h i + (if failed then 1000 else 20)) = is_from ∙ rw (k.facts.leased_at, is_rest) refl in
      out_known h (Idle i failed) i tt refl legal.0.row.turn.out
      (search (itself i, starts, rests, since_calm was.facts.since h (Idle i failed) i tt k.facts.since, tried_quiet was.facts.failures was.facts.failed_at h (Idle i failed) i tt k.facts.tried))
      (progress_on was.progress h (Idle i failed) i tt k.progress) (counts_on h (Idle i failed) i legal tt k.counts) k)

  pub lost_knows : (after : ℕ) (failed : Bool) (h : Record) →
      Leads observe now (tasked items i was (record was.facts { lost = Some after }) was.progress was.counts) h (SourceLost i after failed)
  lost_knows after failed h = own_steps i view l read (SourceLost i after failed) (tt, λ j. refl, λ k j. tt, λ no. no) (λ legal k.
      out_known h (SourceLost i after failed) i tt refl legal.0.row.turn.out
      (search (itself i, since_calm was.facts.since h (SourceLost i after failed) i tt k.facts.since, tried_quiet was.facts.failures was.facts.failed_at h (SourceLost i after failed) i tt k.facts.tried))
      (progress_on was.progress h (SourceLost i after failed) i tt k.progress) (counts_on h (SourceLost i after failed) i legal tt k.counts) k)

  -- what a source took is counted
  pub bytes_read : (h : Record) → CountsAt now i → source_at h i ≡ true → Knows observe now h → was.counts.tally.read ≡ capped (bytes_taken h i)
  bytes_read h counts source knows =
      ap (λ (t : Tally). t.read) ((known_was i view l read knows).counts (rw (there i view l read) at counts) ∙ tally_is h i Source (source_is h i source))

  pub read_knows : {counted behind over all : Bool} {from : ℕ} {new : Tally} {stream : ℕ} {took : Taken} (h : Record) →
      behind ≡ (not counted || was.facts.behind) → over ≡ (all || was.facts.over) → from ≡ capped (was.facts.leased_at + was.interval) → all ≡ is_end took →
      (counted ≡ true → Counted i h (Read i stream took) was.counts.tally new) →
      Leads observe now (tasked items i was (record was.facts { over = over; failed_starts = 0; behind = behind; reads_from = from }) was.progress (record { tally = new })) h (Read i stream took)
  read_knows {counted} {behind} {over} {all} {from} {new} {stream} {took} h is_behind is_over is_from is_all counts = own_steps i view l read (Read i stream took) (tt, λ j. refl, λ k j. tt, λ no. no) (λ legal k.
      let observed : over ≡ (is_end took || all_ended h i) = rw (is_over, is_all, k.facts.over) refl in
      let rests : from ≡ capped (lease_now h i + interval_of h i) = is_from ∙ rw (k.facts.leased_at, interval_fits was h i k.fitted) refl in
      out_known h (Read i stream took) i tt refl legal.0.row.turn.out
      (search (itself i, observed, rests, since_calm was.facts.since h (Read i stream took) i tt k.facts.since, tried_quiet was.facts.failures was.facts.failed_at h (Read i stream took) i tt k.facts.tried))
      (progress_on was.progress h (Read i stream took) i tt k.progress)
      (λ known. let two = or_parts (not counted) was.facts.behind (sym is_behind ∙ known) in counts (not-false counted two.0) legal (k.counts two.1)) k)

  pub attempted_knows : {failures failed : ℕ} {fails : Bool} {new : Tally} (h : Record) (copies : List ℕ) (gave : ByteString) (reply : Reply) →
      fails ≡ is_failed reply → failures ≡ capped (was.facts.failures + (if fails then 1 else 0)) → failed ≡ (if fails then was.facts.leased_at else was.facts.failed_at) →
      Counted i h (Attempt i copies gave reply) was.counts.tally new →
      Leads observe now (tasked items i was (record was.facts { failures = failures; failed_at = failed }) was.progress (record { tally = new })) h (Attempt i copies gave reply)
  attempted_knows {failures} {failed} {fails} h copies gave reply is_failing is_failures is_moment counted = own_steps i view l read (Attempt i copies gave reply) (tt, λ j. refl, λ k j. tt, λ no. no) (λ legal k.
      let more : failures ≡ capped (was.facts.failures + (if is_failed reply then 1 else 0)) = is_failures ∙ rw is_failing refl in
      let moment : failed ≡ (if is_failed reply then lease_now h i else was.facts.failed_at) = is_moment ∙ rw (is_failing, k.facts.leased_at) refl in
      out_known h (Attempt i copies gave reply) i tt refl legal.0.row.out
      (search (
        since_calm was.facts.since h (Attempt i copies gave reply) i tt k.facts.since,
        tried_attempted failures failed was.facts.failures was.facts.failed_at h i copies gave reply legal more moment k.facts.tried,
      ))
      (progress_on was.progress h (Attempt i copies gave reply) i tt k.progress) (λ known. counted legal (k.counts known)) k)

  pub answered_knows : {new : Tally} (h : Record) (outputs : List Output) (discarded kept : List ℕ) → Counted i h (Answer i outputs discarded kept) was.counts.tally new →
      Leads observe now (tasked items i was was.facts was.progress (record { tally = new })) h (Answer i outputs discarded kept)
  answered_knows h outputs discarded kept counted = own_steps i view l read (Answer i outputs discarded kept) (tt, λ j. refl, λ k j. tt, λ no. no) (λ legal k.
      out_known h (Answer i outputs discarded kept) i tt refl legal.0.row.out (search (since_answered was.facts.since h i outputs discarded kept legal, tried_answered was.facts.failures was.facts.failed_at h i outputs discarded kept legal))
      (progress_on was.progress h (Answer i outputs discarded kept) i tt k.progress) (λ known. counted legal (k.counts known)) k)

  pub confirmed_knows : {new : Tally} {positions : List Position} {made : Bool} (h : Record) → Counted i h (Confirm i positions made) was.counts.tally new →
      Leads observe now (tasked items i was (record was.facts { confirm_failed = not made }) was.progress (record { tally = new })) h (Confirm i positions made)
  confirmed_knows {new} {positions} {made} h counted = own_steps i view l read (Confirm i positions made) (tt, λ j. refl, λ k j. tt, λ no. no) (λ legal k.
      out_known h (Confirm i positions made) i tt refl legal.0.row.out
      (search (itself i, since_calm was.facts.since h (Confirm i positions made) i tt k.facts.since, tried_quiet was.facts.failures was.facts.failed_at h (Confirm i positions made) i tt k.facts.tried))
      (progress_on was.progress h (Confirm i positions made) i tt k.progress) (λ known. counted legal (k.counts known)) k)

  pub took_knows : {since failures failed moment : ℕ} {first : Bool} {new : Tally} (h : Record) (s : ℕ) (copies : List ℕ) → since ≡ (if first then moment else was.facts.since) →
      failures ≡ (if first then 0 else was.facts.failures) → failed ≡ (if first then 0 else was.facts.failed_at) → first ≡ is_empty (at h (Held i)) → moment ≡ lease_now h i → Counted i h (Take i s copies) was.counts.tally new →
      Leads observe now (tasked items i was (record was.facts { since = since; failures = failures; failed_at = failed }) was.progress (record { tally = new })) h (Take i s copies)
  took_knows {since} {failures} {failed} {moment} {first} h s copies is_since is_failures is_failed is_first is_now counted = own_steps i view l read (Take i s copies) (tt, λ j. refl, λ k j. tt, λ no. no) (λ legal k.
      let kept : since ≡ (if is_empty (at h (Held i)) then lease_now h i else was.facts.since) = is_since ∙ rw (is_first, is_now) refl in
      let none : failures ≡ (if is_empty (at h (Held i)) then 0 else was.facts.failures) = is_failures ∙ rw is_first refl in
      let never : failed ≡ (if is_empty (at h (Held i)) then 0 else was.facts.failed_at) = is_failed ∙ rw is_first refl in
      out_known h (Take i s copies) i tt refl legal.0.row.out
      (search (
        since_took h i s copies since was.facts.since legal kept k.facts.since,
        tried_took failures failed was.facts.failures was.facts.failed_at h i s copies legal none never k.facts.tried,
      ))
      (progress_on was.progress h (Take i s copies) i tt k.progress) (λ known. counted legal (k.counts known)) k)

  -- LEASES AND HOMES
  pub left_knows : {moment : ℕ} {is : InstanceState P} {task : Task P} {positions : Option (List Position)} → Leaves moment was is task positions →
      (h : Record) (worker polls : ℕ) → Leads observe now (slice_set items i is) h (Lease i worker moment polls)
  left_knows {moment} {is} leaves h worker polls = own_steps i view l read (Lease i worker moment polls) (tt, λ j. refl, λ k j. tt, λ no. no) (λ legal k. rw leaves.rest (record {
    fitted = fitted_by refl k.fitted;
    facts = search (itself i, since_calm was.facts.since h (Lease i worker moment polls) i tt k.facts.since, tried_quiet was.facts.failures was.facts.failed_at h (Lease i worker moment polls) i tt k.facts.tried);
    progress = leased_progress i worker moment polls leaves.asked k.progress;
    counts = counts_on h (Lease i worker moment polls) i legal tt k.counts;
    unleased = tt;
    away = rw (itself i) refl;
  }))

  -- the task that is taken along was unleased
  pub left_unleased : {moment : ℕ} {is : InstanceState P} {task : Task P} {positions : Option (List Position)} → Leaves moment was is task positions → (h : Record) → Knows observe now h →
      HasUnleasedTask observe was.facts h i task
  left_unleased leaves h knows = rw leaves.had at (known_was i view l read knows).unleased

  -- and what it takes along is due
  pub left_due : {moment : ℕ} {is : InstanceState P} {task : Task P} {positions : Option (List Position)} → Leaves moment was is task positions → (h : Record) (worker polls : ℕ) →
      IsSettledAt now i → Knows observe now h → IsLegal (Lease i worker moment polls ∷ h) → AreDue (Lease i worker moment polls ∷ h) i positions
  left_due {moment = moment} {positions = positions} leaves h worker polls settled knows legal =
      let k = known_was i view l read knows in
      let same : was.device ≡ device_at h i = sym (device_fits was h i k.fitted) in
      elim (cases_Bool (device_at h i)) [
        | inl on ↦
            asked_due h i legal.1 ((left_unleased leaves h knows).answered on (rw (there i view l read) at settled) (going_on h legal.0.still)) positions worker moment polls on
            (leaves.asked.due (same ∙ on) (judged_by h) (births h i) (asked h i) k.progress.prefix)
        | inr off ↦ rw (leaves.asked.none (same ∙ off)) (none_unported h i worker moment polls off)
      ]

  pub back_knows : (task : Task P) (h : Record) → HasTaskBack observe now h i task → Leads observe now (slice_set items i (record was { task = Some task })) h (Home i)
  back_knows task h there_is = own_steps i view l read (Home i) (tt, λ j. refl, λ k j. tt, λ no. no) (λ legal k.
      let back : IsBack observe was.facts h i task = rw (there i view l read) at there_is in
      record {
        fitted = fitted_by refl k.fitted;
        facts = search (since_calm was.facts.since h (Home i) i tt k.facts.since, tried_quiet was.facts.failures was.facts.failed_at h (Home i) i tt k.facts.tried);
        progress = progress_on was.progress h (Home i) i tt k.progress;
        counts = counts_on h (Home i) i legal tt k.counts;
        unleased = record {
          unleased = rw (itself i) refl;
          settled = λ owing going. owes_still h (Home i) i tt (back.settled owing going);
          answered = back.answered;
          kept = λ owing going. stands_on task.role h (Home i) i tt (back.kept owing going);
          task_is = but_by observe was.facts.starved h (Home i ∷ h) i task (λ t. observed_mute t h (Home i) i tt) (come_mute task.role h (Home i) i tt) back.task_is;
          shut = back.shut;
          fit = back.fit;
        };
        away = tt;
      })

  -- BIRTHS AND NOTICES
  pub born_knows : {n : ℕ} {q : Prefix} {new : Tally} (h : Record) (batch place stream end : ℕ) (copies : List ℕ) (made : List Event) (waits : Bool) →
      n ≡ capped (was.progress.unnoticed + 1) → q.waits ≡ was.progress.prefix.waits → ((judged : Judgement) (bs : List Birth) (asked : List Position) →
      judged.may (birth_at was.progress.prefix.waits batch (record { stream = stream; end = end })) ≡ not was.progress.prefix.waits →
      IsPrefixOf was.progress.prefix judged bs asked →
      IsPrefixOf q judged (bs ++ birth_at was.progress.prefix.waits batch (record { stream = stream; end = end }) ∷ []) asked) →
      Counted i h (Born i batch place copies made waits stream end) was.counts.tally new →
      Leads observe now (tasked items i was was.facts (record { unnoticed = n; prefix = q }) (record { tally = new })) h (Born i batch place copies made waits stream end)
  born_knows {n} h batch place stream end copies made waits is_n keeps grows counted =
      own_steps i view l read (Born i batch place copies made waits stream end) (tt, λ j. refl, λ k j. tt, λ no. no) (λ legal k.
      let birth : Birth = record { batch = batch; waits = waits; stream = stream; end = end } in
      let own : was.progress.prefix.waits ≡ waits = k.progress.waits ∙ sym legal.0.row.waiting in
      let none = unborn_unnoticed h batch legal.1 legal.0.row.number in
      let grown : births (Born i batch place copies made waits stream end ∷ h) i ≡ births h i ++ birth ∷ [] = rw (itself i) refl in
      let before = k.progress.unnoticed in
      let few = unnoticed_few h i legal.1 in
      let fits = legal.0.row.fits in
      let number : n ≡ count_unnoticed h (births h i) + 1 = is_n ∙ ap (λ (m : ℕ). capped (m + 1)) before ∙ omega (arith, few, fits) in
      let may = may_new h batch was.progress.prefix.waits (record { stream = stream; end = end }) legal.1 legal.0.row.number in
      out_known h (Born i batch place copies made waits stream end) i tt refl (creator h i (record { events = made; stream = stream; end = end }) legal.1 legal.0.row.yields).1
      (search (since_calm was.facts.since h (Born i batch place copies made waits stream end) i tt k.facts.since, tried_quiet was.facts.failures was.facts.failed_at h (Born i batch place copies made waits stream end) i tt k.facts.tried))
      (record {
        unnoticed = number ∙ sym (count_born h (births h i) birth none) ∙ sym (ap (count_unnoticed h) grown);
        waits = keeps ∙ k.progress.waits;
        prefix = rw grown (rw own at (grows (judged_by h) (births h i) (asked h i) may k.progress.prefix));
      })
      (λ known. counted legal (k.counts known)) k)

  -- a notice is told to the instance that created its batch alone
  pub noticed_knows : {n : ℕ} {q : Prefix} {new : Tally} {b : ℕ} {status : BatchStatus} (h : Record) → n ≡ was.progress.unnoticed - 1 →
      q.waits ≡ was.progress.prefix.waits →
      ((judged next : Judgement) (bs : List Birth) (asked : List Position) → NoticeChanges b (is_delivered status) judged next → AreApart bs →
      IsPrefixOf was.progress.prefix judged bs asked → IsPrefixOf q next bs asked) → Counted i h (Notice b status) was.counts.tally new → is_batch_of h i b ≡ true →
      Leads observe now (tasked items i was was.facts (record { unnoticed = n; prefix = q }) (record { tally = new })) h (Notice b status)
  noticed_knows {n} {b = b} {status = status} h is_n keeps noticed counted own knows legal =
      let k = known_was i view l read knows in
      let none = due_unnoticed h b status legal in
      let apart = births_apart h i legal.1 in
      let before = k.progress.unnoticed in
      let less = count_noticed h b status (births h i) none apart own in
      let number : n ≡ count_unnoticed (Notice b status ∷ h) (births h i) = omega (arith, is_n, before, less) in
      rw view (knows_next (Notice b status) tt l (λ j state other known.
      let far : is_batch_of h j b ≡ false = false_from_ne_true (is_batch_of h j b) (λ is. other (one_owner h j i b legal.1 is own)) in
      known_far state h (Notice b status) j legal tt far refl (counts_on h (Notice b status) j legal far known.counts) known) knows
      (record {
        fitted = fitted_by refl k.fitted;
        facts = facts_far was.facts h (Notice b status) i tt refl k.facts;
        progress = record {
          unnoticed = rw append-nil number;
          waits = keeps ∙ k.progress.waits;
          prefix = rw append-nil (noticed (judged_by h) (judged_by (Notice b status ∷ h)) (births h i) (asked h i) (reports h b status none) apart k.progress.prefix);
        };
        counts = λ known. counted legal (k.counts known);
        unleased = IfSome_then was.task k.unleased (λ task. unleased_far was.facts h (Notice b status) i task legal tt refl);
        away = k.away;
      }))

  -- SPENDS
  -- one that the instance counts, whoever spends: it counts for no other
  pub spent_knows : {new : Tally} {c : ℕ} {outcome : Outcome} (h : Record) (by : ℕ) →
      (IsLegal (Spent by c outcome ∷ h) → (k : ℕ) → k ≢ i → LeavesBe h k (Spent by c outcome)) →
      (class_at h i ≡ Some was.class → Counted i h (Spent by c outcome) was.counts.tally new) →
      Leads observe now (tasked items i was was.facts was.progress (record { tally = new })) h (Spent by c outcome)
  spent_knows {c = c} {outcome = outcome} h by leaves counted knows legal =
      let k = known_was i view l read knows in
      rw view (knows_next (Spent by c outcome) tt l
      (λ j state other known. spent_known state h by j c outcome legal (counts_on h (Spent by c outcome) j legal (leaves legal j other) known.counts) known) knows
      (spent_known was h by i c outcome legal (λ met. counted (class_is was h i k.fitted) legal (k.counts met)) k))

  -- MARKS
  -- what is owed isn't known any more
  pub owed_knows : (h : Record) → Knows observe now h → Knows observe (tasked items i was (record was.facts { owing = true }) was.progress was.counts) h
  owed_knows h = keeps i view l read h (λ k. record {
    fitted = fitted_by refl k.fitted;
    facts = assumption k.facts;
    progress = k.progress;
    counts = k.counts;
    unleased = IfSome_then was.task k.unleased (λ task unleased.
        record { unleased = unleased.unleased; settled = λ owing going. cc; answered = λ device owing going. cc; kept = λ owing going. cc; task_is = unleased.task_is; shut = unleased.shut; fit = unleased.fit });
    away = k.away;
  })

  -- nor what its port gave
  pub starved_knows : (h : Record) → Knows observe now h → Knows observe (tasked items i was (record was.facts { starved = true }) was.progress was.counts) h
  starved_knows h = keeps i view l read h (λ k. record {
    fitted = fitted_by refl k.fitted;
    facts = assumption k.facts;
    progress = k.progress;
    counts = k.counts;
    unleased = IfSome_then was.task k.unleased (λ task unleased.
        record { unleased = unleased.unleased; settled = unleased.settled; answered = unleased.answered; kept = unleased.kept; task_is = but_less observe was.facts.starved h i task unleased.task_is; shut = unleased.shut; fit = unleased.fit });
    away = k.away;
  })

  -- there is memory for a batch more
  pub ready_knows : {q : Prefix} → GoesOn was.progress.prefix q → (h : Record) → Knows observe now h →
      Knows observe (tasked items i was was.facts (record was.progress { prefix = q }) was.counts) h
  ready_knows goes h = keeps i view l read h (λ k. record {
    fitted = fitted_by refl k.fitted;
    facts = k.facts;
    progress = record { unnoticed = k.progress.unnoticed; waits = goes.waits ∙ k.progress.waits; prefix = goes.stands (judged_by h) (births h i) (asked h i) k.progress.prefix };
    counts = k.counts;
    unleased = k.unleased;
    away = k.away;
  })

  -- its port is closed
  pub shut_knows : {is : InstanceState P} → Shuts observe was is → (h : Record) → Knows observe now h → Knows observe (slice_set items i is) h
  shut_knows {is} shuts h = keeps i view l read h (λ k.
      let left = left_by observe was.task is.task shuts.task in
      rw shuts.rest (record { fitted = fitted_by refl k.fitted; facts = k.facts; progress = k.progress; counts = k.counts; unleased = left.unleased was.facts h i k.unleased; away = left.away h i k.away }))

  pub shut_stays : {is : InstanceState P} → Shuts observe was is → OneState IsShut i now (slice_set items i is)
  shut_stays {is} shuts = writes i view l read IsShut is (record { rest = shuts.rest; unleased = (left_by observe was.task is.task shuts.task).same })

  pub shut_at : {is : InstanceState P} → Shuts observe was is → IsShutAt observe (slice_set items i is) i
  shut_at {is} shuts = rw (view, written now i is l) (left_by observe was.task is.task shuts.task).shut
