-- A transform that judged comes back: what it answers, and what is left once that was noted.
use Rattle.std.proofs.Common.{◌≡◌, ◌∙◌, ℕ, ◌<◌, Bool, true, false, List, [], ◌∷◌, ◌++◌, length, map, None, IfSome, IsSome, refl, sym, ap, subst}
use Rattle.std.specs.Prelude.{◌||◌, Ok, Err, OnOk, OnErr, Result, is_err, slice_get}
use Rattle.vx_ends.specs.Observation.{Observation}
use Rattle.vx_ledger.specs.Copies.{numbers_of}
use Rattle.vx_ledger.specs.declared.parcel.Parcel.{Parcel}
use Rattle.vx_ledger.specs.declared.short.Short.{Short}
use Rattle.vx_ledger.specs.declared.short.Short.TheVariants.{WantOfMemory}
use Rattle.vx_status.specs.declared.outcome.Outcome.TheVariants.{Filtered}
use Rattle.vx_record.specs.declared.entry.Entry.{Entry}
use Rattle.vx_record.specs.declared.entry.Entry.TheVariants.{Answer, Spent, Notice}
use Rattle.vx_record.specs.Records.{Record}
use Rattle.vx_record.specs.Abandoning.{abandoned}
use Rattle.vx_record.specs.Additions.{OnlyAdds}
use Rattle.vx_record.specs.Ceasing.{cause_of}
use Rattle.vx_record.specs.Judges.{judge_at}
use Rattle.vx_record.specs.Legal.{IsLegal}
use Rattle.vx_record.specs.Makers.{IsFor}
use Rattle.vx_record.specs.Owing.{owes}
use Rattle.vx_record.specs.Parcels.{parcel_event}
use Rattle.vx_record.specs.Places.Place.{Held}
use Rattle.vx_record.specs.Shifts.{at}
use Rattle.vx_record.proofs.Adding.{adds_both, adds_none}
use Rattle.vx_record.proofs.Ceasing.{unabandoned}
use Rattle.vx_record.proofs.Judged.{runner_transforms}
use Rattle.vx_record.proofs.Judges.{filtered_there}
use Rattle.vx_places.specs.Numbers.{numbers}
use Rattle.vx_places.specs.Capacities.{SameCapacities}
use Rattle.vx_places.specs.Views.{parcels_here}
use Rattle.vx_counts.proofs.Once.{itself}
use Rattle.vx_tasks.specs.declared.landing.Done.TheVariants as done
use Rattle.vx_tasks.specs.declared.task.Task.{Task}
use Rattle.vx_tasks.specs.Unleased.{HasKept}
use Rattle.vx_tasks.specs.Judging.{put_out_on, refused_on}
use Rattle.vx_tasks.proofs.Answering.{answer_here, length_here, kept_here}
use Rattle.vx_tasks.proofs.Writing.{events_said}
use Rattle.vx_instances.proofs.Observing.{observed_mute, come_mute}
use Rattle.vx_moves.specs.Answering.{put_out_of, refused_of, answer_by, MayAnswerNow}
use Rattle.vx_moves.specs.declared.engine.EngineState.{EngineState}
use Rattle.vx_moves.specs.declared.run.Run.{Run}
use Rattle.vx_moves.specs.Spends.{MaySpendAll}
use Rattle.vx_moves.specs.Stands.{Stands}
use Rattle.vx_moves.proofs.Keepers.{seen_alone}
use Rattle.vx_landing.specs.Failures.{LacksBirth}
use Rattle.vx_landing.specs.Landings.{ComesBehind, HasAnsweredBy, HasLanded, IsBackWith, IsOwingNow, IsWellLanded, Owes, done_entries}
use Rattle.vx_landing.specs.Standing.{IsWellAt, IsFedAt}
use Rattle.vx_landing.proofs.Answering.{leaves_both, spends_behind, spends_own}
use Rattle.vx_landing.proofs.Landed.{IsArrived, IsOwing, back_owing, landed_by, landed_well}
use Rattle.vx_landing.proofs.Owing.{work_entries_none, owes_answered, settled_by, spends_keep}
use Rattle.vx_landing.proofs.States.{LeavesBe, be_here, be_stays, both_are, carried, lands, well_on}

-- WHAT IS ANSWERED
-- what the record has put out and discarded of some parcels is what is made of them
put_out_same : (h : Record) (ports : List ℕ) (parcels : List Parcel) → map (parcel_event h) (numbers parcels) ≡ map (λ (p : Parcel). p.event) parcels →
    put_out_of h ports (numbers parcels) ≡ put_out_on ports parcels
put_out_same h [] parcels said = refl
put_out_same h (n ∷ ns) [] said = refl
put_out_same h (n ∷ ns) (p ∷ ps) said =
    let event : parcel_event h (numbers_of p.finalizers) ≡ p.event = cc in
    let rest : map (parcel_event h) (numbers ps) ≡ map (λ (q : Parcel). q.event) ps = cc in
    rw (event, put_out_same h ns ps rest) refl

refused_same : (ports : List ℕ) (parcels : List Parcel) → refused_of ports (numbers parcels) ≡ refused_on ports parcels
refused_same [] parcels = refl
refused_same (n ∷ ns) [] = refl
refused_same (n ∷ ns) (p ∷ ps) = rw (refused_same ns ps) refl

same_length : (parcels : List Parcel) → length (numbers parcels) ≡ length parcels
same_length [] = refl
same_length (p ∷ ps) = rw (same_length ps) refl

-- all that a judge holds behind its answer that answer discarded
pub may_filter : (h log : Record) (i : ℕ) (ports : List ℕ) → IsLegal log → log ≡ answer_by h i ports ∷ h → abandoned log ≡ false → judge_at h i ≡ true →
    MaySpendAll log (Held i) Filtered
may_filter h log i ports legal noted going judge =
    rw noted (record {
      cause = λ c among. filtered_there (answer_by h i ports ∷ h) i (rw noted at legal) (rw noted at going) judge (rw (itself i) refl) c among;
      left = λ c over. let no = rw noted at going in cc;
    })

module _ {P : Type 0} {observe : P → Observation} {old : EngineState P} {i : ℕ} (stands : Stands observe old) where
  -- who may answer judges
  pub may_judge : {ports : List ℕ} → IsSome (parcels_here old.places (Held i)) → MayAnswerNow old.log i ports → judge_at old.log i ≡ true
  may_judge kept now =
      stands.run.judging i (runner_transforms old.log i now.may.rule now.may.follows) (seen_alone old.places old.log i stands.keepers.apart kept)

  module _ {task : Task P} {ports : List ℕ} (b : IsBackWith observe old i task (done.Judged ports)) where
    -- what was judged may be answered
    pub may_answer : abandoned old.log ≡ false → MayAnswerNow old.log i ports
    may_answer going =
        let said = events_said old.log b.parcels b.held.known b.held.filled in
        record {
          going = going;
          each = length_here old.log i task.role ports b.parcels stands.legal b.fit b.held b.acted going ∙ (sym (same_length b.parcels) ∙ ap length b.held.held);
          may = rw (← b.held.held, put_out_same old.log ports b.parcels said, refused_same ports b.parcels)
              (answer_here old.log i task.role ports b.parcels stands.legal b.fit b.held b.acted going b.out);
        }

    -- WHAT IS LEFT
    arrived : abandoned old.log ≡ true → IsArrived observe old.log i task
    arrived over = record {
      out = b.out;
      observed = b.observed;
      come = b.acted.come;
      answered = b.answered;
      kept = λ going. let not = unabandoned old.log going in cc;
      shut = λ closed. cc;
      fit = b.fit;
    }

    abbrev answered : Record
    answered = answer_by old.log i ports ∷ old.log

    -- what it keeps stands for what it answered
    stood_behind : abandoned old.log ≡ false → HasKept answered i task.role
    stood_behind going =
        let said = events_said old.log b.parcels b.held.known b.held.filled in
        let same : Answer i (put_out_on ports b.parcels) (refused_on ports b.parcels) [] ≡ answer_by old.log i ports =
        rw (← b.held.held, put_out_same old.log ports b.parcels said, refused_same ports b.parcels) refl in
        subst (λ (e : Entry). HasKept (e ∷ old.log) i task.role) same
        (kept_here old.log i task.role ports b.parcels stands.legal b.fit b.held b.acted going)

    arrived_behind : abandoned old.log ≡ false → IsArrived observe answered i task
    arrived_behind going =
        let e = answer_by old.log i ports in
        record {
          out = b.out;
          observed = observed_mute (observe task.port) old.log e i tt b.observed;
          come = come_mute task.role old.log e i tt b.acted.come;
          answered = b.answered;
          kept = λ none. stood_behind going;
          shut = λ closed. cc;
          fit = b.fit;
        }

    -- once the answer was noted, unless the run is given up
    record IsJudged (over : Bool) (new : EngineState P) : Type 0 where
      now : Stands observe new
      only : OnlyAdds (IsFor i) old.log new.log
      be : LeavesBe i old new
      well : IfSome (slice_get new.states i) IsWellAt
      arrived : IsArrived observe new.log i task
      settled : cause_of new.log ≡ None → owes new.log i ≡ false
      behind : OnlyAdds (ComesBehind i) (done_entries over old.log i (done.Judged ports) ++ old.log) new.log

    is_judged : {new : EngineState P} → HasAnsweredBy observe i ports old new → (over : Bool) → abandoned old.log ≡ over → IsJudged over new
    is_judged is true over = rw (is.over over) (record {
      now = stands;
      only = adds_none (IsFor i) old.log old.log refl;
      be = be_here;
      well = b.well;
      arrived = arrived over;
      settled = λ going. let not = unabandoned old.log going in cc;
      behind = adds_none (ComesBehind i) old.log old.log refl;
    })
    is_judged {new} is false going =
        let noted = is.noted going in
        let spent = is.spent going in
        let leaves = leaves_both noted.leaves spent.leaves in
        record {
          now = spent.stands;
          only = adds_both (IsFor i) _ _ _ noted.only (spends_own spent);
          be = be_stays leaves (spent.size ∙ noted.steps.size);
          well = well_on i leaves b.well;
          arrived = spends_keep (λ h. IsArrived observe h i task)
              (λ h c was. let e = Spent i c Filtered in assumption (observed_mute (observe task.port) h e i tt was.observed, come_mute task.role h e i tt was.come, was))
              (λ h batch status was. let e = Notice batch status in assumption (observed_mute (observe task.port) h e i tt was.observed, come_mute task.role h e i tt was.come, was))
              spent.only (rw noted.steps.noted (arrived_behind going));
          settled = λ none. owes_answered old.log new.log i (put_out_of old.log ports (at old.log (Held i))) (refused_of ports (at old.log (Held i))) [] Filtered b.settled
              (rw noted.steps.noted at spent.only) spent.stands.legal (is.none going);
          behind = rw noted.steps.noted at (spends_behind spent);
        }

    module _ {new : EngineState P} (within : i < length old.states) where
      -- where no memory was found nothing was noted, and what is owed isn't known
      landed_unanswered : Stands observe new → new.log ≡ old.log → LeavesBe i old new → IsOwingNow i old.states new.states → HasLanded observe i task old new
      landed_unanswered now same be owing =
          let marks = both_are Owes (slice_get old.states i) (slice_get new.states i) owing.one in
          landed_by stands within b same now (adds_none (IsFor i) old.log new.log same)
          (lands be (carried Owes IsWellAt IsFedAt (slice_get old.states i) (slice_get new.states i) marks b.well
          (λ was is owes well. record { counted = owes.counted ∙ well.counted; fed = owes.fed ∙ well.fed })))
          b.out
          (back_owing stands within b same now b.observed b.acted.come b.unclosed
          (carried Owes IsWellAt (IsOwing task) (slice_get old.states i) (slice_get new.states i) marks b.well
          (λ was is owes well. record { owing = owes.owing; fed = owes.fed ∙ well.fed; fit = λ counted. b.fit })))
          (λ fed. record { settled = settled_by old.log i (work_entries_none old.log i b.settled).spends; observed = b.answered })

      pub landed_judged : {E : Type 0} (r : Result (Unit {0}) E) → OnOk r (HasAnsweredBy observe i ports old new) → Stands observe new → length new.states ≡ length old.states →
          SameCapacities old.places new.places → new.run ≡ old.run → OnErr r (IsOwingNow i old.states new.states) → OnErr r (new.log ≡ old.log) →
          HasLanded observe i task old new
      landed_judged (Ok x) is now size capacities run owing same =
          let j = is_judged is (abandoned old.log) refl in
          landed_well stands within b refl j.now j.only j.be j.well j.arrived j.settled
      landed_judged (Err e) is now size capacities run owing same =
          landed_unanswered now same (record { size = size; capacities = capacities; run = run; others = owing.others }) owing

    pub judged_behind : {E : Type 0} (new : EngineState P) (r : Result (Unit {0}) E) → OnOk r (HasAnsweredBy observe i ports old new) → OnErr r (new.log ≡ old.log) →
        OnlyAdds (ComesBehind i) (done_entries (is_err r || abandoned old.log) old.log i (done.Judged ports) ++ old.log) new.log
    judged_behind new (Ok x) is same = (is_judged is (abandoned old.log) refl).behind
    judged_behind new (Err e) is same = adds_none (ComesBehind i) old.log new.log same

    pub judged_well : {E : Type 0} (new : EngineState P) (r : Result (Unit {0}) E) → OnOk r (HasAnsweredBy observe i ports old new) → OnOk r (IsWellLanded i old new)
    judged_well new (Ok x) is = let j = is_judged is (abandoned old.log) refl in record { fed = ap (λ (r : Run). r.out_of_memory) j.be.run; state = j.well }
    judged_well new (Err e) is = tt

-- memory is wanting
pub lacks_memory : (h : Record) (short : Short) → short ≡ WantOfMemory → LacksBirth h short
lacks_memory h short is = rw is tt
