-- What the notes of a landing need, what they add, and what becomes of an instance that is given up.
use Rattle.std.proofs.Common.{zero, suc, ◌≡◌, ◌∙◌, ℕ, ◌+◌, ◌<◌, ◌≤◌, Bool, true, false, List, [], ◌∷◌, length, take, Option, Some, None, IfSome, IsSomeAnd, refl, sym, subst, arith, inr}
use Rattle.std.specs.Prelude.{◌==◌, is_some, slice_get}
use Rattle.std.specs.List.{list_any}
use Rattle.std.proofs.lemmas.Bool.{eqb-true, false_from_ne_true, leb-true, lt-ltb}
use Rattle.std.proofs.lemmas.Option.{IfSome_then}
use Rattle.std.proofs.Math.Seq.{take-length}
use Rattle.vx_value.specs.Texts.{ByteString}
use Rattle.vx_ends.specs.Observation.{Observation}
use Rattle.vx_ends.specs.declared.trouble.Reply.{Reply}
use Rattle.vx_ends.specs.declared.trouble.Reply.TheVariants as reply
use Rattle.vx_status.specs.declared.outcome.Outcome.{Outcome}
use Rattle.vx_status.specs.declared.outcome.Outcome.TheVariants.{Abandoned}
use Rattle.vx_record.specs.declared.abandon_cause.AbandonCause.{AbandonCause}
use Rattle.vx_record.specs.declared.entry.Entry.{Entry}
use Rattle.vx_record.specs.declared.entry.Entry.TheVariants.{Lease, Home, Read, Attempt, Spent, Abandon}
use Rattle.vx_record.specs.Records.{Record}
use Rattle.vx_record.specs.Abandoning.{abandoned, at_abandon}
use Rattle.vx_record.specs.Additions.{OnlyAdds}
use Rattle.vx_record.specs.Ceasing.{cause_of}
use Rattle.vx_record.specs.Copies.{count, joined}
use Rattle.vx_record.specs.Encoding.{encoded, is_prefix}
use Rattle.vx_record.specs.Ending.{MayClose}
use Rattle.vx_record.specs.Generating.{IsGenerated}
use Rattle.vx_record.specs.Installs.{device_at, is_closed}
use Rattle.vx_record.specs.Legal.{IsLegal}
use Rattle.vx_record.specs.Lists.{held}
use Rattle.vx_record.specs.Makers.{IsFor}
use Rattle.vx_record.specs.Places.Place.{Held}
use Rattle.vx_record.specs.Shifts.{at}
use Rattle.vx_record.specs.SinkBatches.{attempts_allowed, failures_with, oldest_held}
use Rattle.vx_record.specs.Sinking.{MayAttempt}
use Rattle.vx_record.specs.Spending.{HasCause}
use Rattle.vx_record.specs.Tasks.{of_task, is_number}
use Rattle.vx_record.specs.Turns.{is_out, since_lease, is_turn_of, is_attempt_of}
use Rattle.vx_record.proofs.Adding.{adds_none, adds_one}
use Rattle.vx_record.proofs.Alike.{alike, first_there}
use Rattle.vx_record.proofs.Ceasing.{unabandoned, has_abandoned}
use Rattle.vx_record.proofs.Shifting.{stands_at}
use Rattle.vx_counts.proofs.Once.{itself}
use Rattle.vx_sourcecore.specs.declared.source.Cut.{Cut}
use Rattle.vx_sourcecore.specs.NewLines.{AreNew}
use Rattle.vx_sourcecore.specs.Turns.{Reading}
use Rattle.vx_tasks.specs.declared.task.Role.{Role}
use Rattle.vx_tasks.specs.Out.{MayReadNow, MayAttemptNow}
use Rattle.vx_tasks.specs.Observing.{IsObservedButGiven}
use Rattle.vx_tasks.proofs.Saying.{observed_closed}
use Rattle.vx_instances.specs.Calls.{IsBack, IsClosedBy, IsShutAt}
use Rattle.vx_instances.specs.Knowing.{IsTaskOfBut, IsKnown, Knows}
use Rattle.vx_instances.specs.declared.facts.Facts.{Facts}
use Rattle.vx_instances.specs.declared.state.InstanceState.{InstanceState}
use Rattle.vx_moves.specs.declared.engine.EngineState.{EngineState}
use Rattle.vx_moves.specs.Leaving.{Leaves, LeavesUnobserved}
use Rattle.vx_moves.specs.Reading.{MayNoteRead}
use Rattle.vx_moves.specs.Returns.{HaveReturned}
use Rattle.vx_moves.specs.Spends.{MaySpendAll, OnlySpends}
use Rattle.vx_moves.specs.Stands.{Stands, Steps}
use Rattle.vx_moves.proofs.Leaving.{capacities_both, each_both}
use Rattle.vx_landing.specs.Landings.{ComesBehind, HasNoted, HasNotedRead, decides, outcome_of}
use Rattle.vx_landing.proofs.Owing.{spends_keep, spends_wider, was_out}

-- THE RUN
-- whether it is given up, as the engine's state knows
module _ {P : Type 0} (observe : P → Observation) where
  pub none_known : (engine : EngineState P) → Stands observe engine → is_some engine.run.abandoned ≡ false → cause_of engine.log ≡ None
  none_known engine stands none = go engine.run.abandoned stands.run.cause none
    where
      go : (o : Option AbandonCause) → o ≡ cause_of engine.log → is_some o ≡ false → cause_of engine.log ≡ None
      go None is none = sym is
      go (Some cause) is none = cc

  pub over_known : (engine : EngineState P) → Stands observe engine → is_some engine.run.abandoned ≡ true → abandoned engine.log ≡ true
  over_known engine stands some = has_abandoned engine.log (rw (← stands.run.cause) some)

  pub going_known : (engine : EngineState P) → Stands observe engine → abandoned engine.log ≡ false → is_some engine.run.abandoned ≡ false
  going_known engine stands going = false_from_ne_true (is_some engine.run.abandoned) (λ some. let over = over_known engine stands some in cc)

  pub not_over : (engine : EngineState P) → Stands observe engine → is_some engine.run.abandoned ≡ false → abandoned engine.log ≡ true → ⊥
  not_over engine stands none over = let not = unabandoned engine.log (none_known engine stands none) in cc

-- WHO IS OUT
-- nobody is leased behind an abandonment: who is out was out before it
pub left_out : (h : Record) (i : ℕ) → IsLegal h → is_out h i ≡ true → abandoned h ≡ true → is_out (at_abandon h) i ≡ true
left_out [] i legal out gone = cc
left_out (Abandon cause ∷ h) i legal out gone = out
left_out (Lease j worker now polls ∷ h) i legal out gone = let no : false ≡ true = legal.0.still gone in cc
left_out (Home j ∷ h) i legal out gone = left_out h i legal.1 (was_out (j == i) (is_out h i) out) gone
left_out (e ∷ h) i legal out gone = left_out h i legal.1 out gone

-- an entry of a task is of no other
pub for_own : (e : Entry) (i : ℕ) (h : Record) → of_task e ≡ Some i → IsFor i h e
for_own e i h own j of = sym (eqb-true i j (subst (λ (o : Option ℕ). is_number j o ≡ true) own of))

-- WHAT WAS GIVEN
taken_prefix : (n : ℕ) (w : ByteString) → is_prefix (take n w) w ≡ true
taken_prefix zero w = refl
taken_prefix (suc n) [] = refl
taken_prefix (suc n) (b ∷ w) = rw (itself b) (taken_prefix n w)

-- an attempt that decides is a cause to spend what it had
answered_cause : (h : Record) (i c : ℕ) (bytes : ByteString) (answer : Reply) → IsLegal h → decides h i answer ≡ true → 0 < count c (joined (held h i)) →
    HasCause (Attempt i (joined (held h i)) bytes answer ∷ h) i c (outcome_of answer)
answered_cause h i c bytes reply.Ok legal last some = record { had = rw (itself i) some; answered = rw (itself i) refl }
answered_cause h i c bytes reply.Refused legal last some = record { had = rw (itself i) some; answered = rw (itself i) refl }
answered_cause h i c bytes reply.Failed legal last some =
    let same = (alike h i c (oldest_held h i) legal some (first_there c (joined (held h i)) some)).1 in
    let few : attempts_allowed h i ≤ failures_with h i (oldest_held h i) + 1 = leb-true (attempts_allowed h i) (failures_with h i (oldest_held h i) + 1) last in
    rw (itself i, lt-ltb 0 (count c (joined (held h i))) some) (omega (arith, same, few))

pub may_spend : (h log : Record) (i : ℕ) (bytes : ByteString) (answer : Reply) → IsLegal h → decides h i answer ≡ true →
    log ≡ Attempt i (joined (held h i)) bytes answer ∷ h → cause_of log ≡ None → MaySpendAll log (Held i) (outcome_of answer)
may_spend h log i bytes answer legal last noted going =
    let not = unabandoned log going in
    rw noted (record {
      cause = λ c among. answered_cause h i c bytes answer legal last (rw (stands_at h (Held i) legal) among);
      left = λ c over. let no = rw noted at not in cc;
    })

-- NOTES
pub leaves_both : {P : Type 0} {a b c : EngineState P} → Leaves a b → Leaves b c → Leaves a c
leaves_both {a = a} {b = b} {c = c} first second = record {
  states = each_both a.states b.states c.states first.states second.states;
  capacities = capacities_both a.places b.places c.places first.capacities second.capacities;
  run = second.run ∙ first.run;
}

module _ {P : Type 0} {observe : P → Observation} where
  -- one entry more
  pub adds_step : {Kind : Record → Entry → Type 0} {h : Record} {mid new : EngineState P} {e : Entry} → OnlyAdds Kind h mid.log → Kind mid.log e →
      Steps observe e mid new → OnlyAdds Kind h new.log
  adds_step {Kind} {h} {mid} {new} {e} adds kind steps = adds_one Kind h mid.log new.log e adds steps.follows kind steps.noted

  pub adds_own : {i : ℕ} {e : Entry} {old new : EngineState P} → of_task e ≡ Some i → Steps observe e old new → OnlyAdds (IsFor i) old.log new.log
  adds_own {i} {e} {old} own steps = adds_step (adds_none (IsFor i) old.log old.log refl) (for_own e i old.log own) steps

  pub noted : {i : ℕ} {e : Entry} {old new : EngineState P} → of_task e ≡ Some i → Steps observe e old new → Leaves old new → HasNoted observe i e old new
  noted own steps leaves = record { steps = steps; only = adds_own own steps; leaves = leaves }

  -- what was spent is the instance's, and comes behind what was done
  pub spends_own : {i : ℕ} {outcome : Outcome} {old new : EngineState P} → OnlySpends observe i outcome old new → OnlyAdds (IsFor i) old.log new.log
  spends_own {i} {outcome} spent = spends_wider (IsFor i) (λ h c. for_own (Spent i c outcome) i h refl) (λ h b status k of. cc) spent.only

  pub spends_behind : {i : ℕ} {outcome : Outcome} {old new : EngineState P} → OnlySpends observe i outcome old new → OnlyAdds (ComesBehind i) old.log new.log
  spends_behind {i} spent = spends_wider (ComesBehind i) (λ h c. refl) (λ h b status. tt) spent.only

  -- it leaves a run given up, and who is unleased there
  pub over_still : {i : ℕ} {outcome : Outcome} {old new : EngineState P} → OnlySpends observe i outcome old new → abandoned old.log ≡ true → abandoned new.log ≡ true
  over_still spent = spends_keep (λ h. abandoned h ≡ true) (λ h c over. over) (λ h b status over. over) spent.only

  pub unleased_still : {i : ℕ} {outcome : Outcome} {old new : EngineState P} → OnlySpends observe i outcome old new → is_out old.log i ≡ false → is_out new.log i ≡ false
  unleased_still {i} spent = spends_keep (λ h. is_out h i ≡ false) (λ h c unleased. unleased) (λ h b status unleased. unleased) spent.only

  -- and its port may be closed then
  pub may_shut : {i : ℕ} {old new : EngineState P} {state : InstanceState P} → device_at new.log i ≡ true → abandoned old.log ≡ true →
      OnlySpends observe i Abandoned old new → slice_get new.states i ≡ Some state → state.facts.closed ≡ false → MayClose new.log i
  may_shut {i} {old} {new} {state} device over spent there unclosed =
      let known : IsKnown observe state new.log i = rw there at (spent.stands.states.each i) in
      record {
        device = device;
        unclosed = sym known.facts.closed ∙ unclosed;
        over = inr (over_still spent over);
      }

  -- as it is already where that is known
  pub shut_so : (i : ℕ) {engine : EngineState P} {state : InstanceState P} → Stands observe engine → slice_get engine.states i ≡ Some state → state.facts.closed ≡ true →
      is_closed engine.log i ≡ true
  shut_so i {engine} {state} stands there closed =
      let known : IsKnown observe state engine.log i = rw there at (stands.states.each i) in sym known.facts.closed ∙ closed

pub noted_read : {P : Type 0} (observe : P → Observation) {unobserved : Bool} {i : ℕ} {old new : EngineState P} (o : Option Reading) →
    IsSomeAnd o (λ reading. Steps observe (Read i reading.stream reading.took) old new) → LeavesUnobserved unobserved i old new →
    IsSomeAnd o (λ reading. HasNotedRead observe unobserved i (Read i reading.stream reading.took) old new)
noted_read observe None steps leaves = steps
noted_read observe (Some reading) steps leaves = record { steps = steps; only = adds_own refl steps; leaves = leaves }

module _ {P : Type 0} {observe : P → Observation} {engine : EngineState P} (stands : Stands observe engine) where
  -- an instance that is out has no task here, and so no port that is started
  pub shut_out : (i : ℕ) → is_out engine.log i ≡ true → IsShutAt observe engine.states i
  shut_out i out = IfSome_then (slice_get engine.states i) (stands.states.each i) (λ state known. IfSome_then state.task known.unleased (λ task unleased. let in_it = unleased.unleased in cc))

  -- where memory was wanting less is said, so the engine's state still stands
  pub marked : {states : List (InstanceState P)} → length states ≡ length engine.states → Knows observe states engine.log →
      Stands observe (record engine { states = states; run = record engine.run { out_of_memory = true } })
  marked size knows = let off : true ≡ false → HaveReturned engine.log = λ is. cc in assumption (off, stands.size ∙ sym size)

  module _ {i : ℕ} where
    pub may_attempt : {all : ByteString} {sent : ℕ} {answer : Reply} → is_out engine.log i ≡ true → list_any (is_attempt_of i) (since_lease engine.log i) ≡ false →
        MayAttemptNow engine.log i → all ≡ encoded engine.log i (at engine.log (Held i)) → (answer ≡ reply.Ok → sent ≡ length all) →
        (device_at engine.log i ≡ false → answer ≡ reply.Ok) → MayAttempt engine.log i (joined (held engine.log i)) (take sent all) answer
    may_attempt {all} {sent} out once may whole well blackhole_ok =
        let is : encoded engine.log i (held engine.log i) ≡ all = rw (stands_at engine.log (Held i) stands.legal) (sym whole) in
        record {
          sink = may.sink;
          out = out;
          once = once;
          all = refl;
          batch_closed = may.batch_closed;
          waited = may.waited;
          given = rw is (taken_prefix sent all);
          whole = λ ok. rw (is, well ok) (take-length all);
          blackhole_ok = blackhole_ok;
        }

    pub may_read : (cut : Option Cut) (o : Option Reading) → is_out engine.log i ≡ true → list_any (is_turn_of i) (since_lease engine.log i) ≡ false →
        MayReadNow engine.log i → IfSome o (λ reading. IsGenerated engine.log i reading.stream reading.took) → IsSomeAnd o (λ reading. IfSome cut (λ cut. AreNew engine.log i reading.stream reading.took cut.new)) →
        IsSomeAnd o (MayNoteRead engine.log i cut)
    may_read cut None out once may readable lines = lines
    may_read cut (Some reading) out once may readable lines = record {
      row = record {
        turn = record { source = may.source; out = out; readable = may.readable; once = once };
        generated = readable;
      };
      left = left_out engine.log i stands.legal out;
      lines = lines;
    }

-- WHAT IS HANDED BACK CLOSED
module _ {P : Type 0} (observe : P → Observation) (h : Record) (i : ℕ) (port shut : P) (does : Role) (closed : IsClosedBy (observe port) (observe shut)) where
  still_observed : IsObservedButGiven (observe port) h i → IsObservedButGiven (observe shut) h i
  still_observed observed =
      observed_closed (record (observe port) { given = None }) (record (observe shut) { given = None }) h i (assumption closed.bytes) (assumption closed.counts) observed

  still_unleased : (starved : Bool) → IsTaskOfBut observe starved h i (record { port = port; role = does }) →
      IsTaskOfBut observe starved h i (record { port = shut; role = does })
  still_unleased true unleased = (still_observed unleased.0, unleased.1)
  still_unleased false unleased = record { observed = observed_closed (observe port) (observe shut) h i closed.bytes closed.counts unleased.observed; come = unleased.come }

  pub back_shut : (f : Facts) → IsBack observe f h i (record { port = port; role = does }) → IsBack observe f h i (record { port = shut; role = does })
  back_shut f back = assumption (still_unleased f.starved back.task_is, closed.shut)
