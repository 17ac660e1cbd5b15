-- A task that is out is kept by whatever spares it.
use Rattle.std.proofs.Common.{◌≡◌, ℕ, Bool, true, false, List, [], ◌∷◌, ◌++◌, Option, Some, None, refl, sym, ap, ◌∙◌, subst}
use Rattle.std.specs.Prelude.{◌≢◌, ◌&&◌, ◌==◌, IfSome, IsSomeAnd, map, nat_lt, if◌then◌else◌}
use Rattle.std.specs.List.{list_any}
use Rattle.vx_value.specs.declared.event.Event.{Event}
use Rattle.vx_ends.specs.Observation.{Observation}
use Rattle.vx_ends.specs.declared.position.Position.{Position}
use Rattle.vx_ledger.specs.declared.parcel.Parcel.{Parcel}
use Rattle.vx_plan.specs.declared.component.Component.{Component}
use Rattle.vx_plan.specs.Components.{is_source, is_transform}
use Rattle.vx_plan.specs.Options.{conditions_of, demo_of, encoding, reading_interval}
use Rattle.vx_record.specs.declared.entry.Entry.{Entry}
use Rattle.vx_record.specs.declared.entry.Entry.TheVariants as entry
use Rattle.vx_record.specs.Records.{Record, capped}
use Rattle.vx_record.specs.Legal.{IsLegal}
use Rattle.vx_record.specs.Places.Place.{Held}
use Rattle.vx_record.specs.Shifts.{at}
use Rattle.vx_record.specs.Turns.{at_lease, lease_now, since_lease, is_turn_of, is_attempt_of, is_confirm_of}
use Rattle.vx_record.specs.Copies.{count}
use Rattle.vx_record.specs.Generating.{lines_given, IsGenerated}
use Rattle.vx_record.specs.Installs.{wiring, component_of, source_at, transform_at, device_at, is_closed}
use Rattle.vx_record.specs.Parcels.{parcel_event}
use Rattle.vx_record.specs.Encoding.{given, bytes_for, encoded}
use Rattle.vx_record.specs.Reads.{bytes_taken, taken}
use Rattle.vx_record.specs.Sourcing.{failed_starts}
use Rattle.vx_record.specs.Confirms.{due, is_confirm_due}
use Rattle.vx_record.specs.Owing.{took_since, owes_discards, owes_answer, is_done}
use Rattle.vx_record.specs.Transforms.{Rule, judges, RunsBy, answered_events}
use Rattle.vx_record.specs.Ready.{can_read}
use Rattle.vx_record.specs.Tasks.{is_of, mine, out_to}
use Rattle.vx_record.specs.Makers.{Spares}
use Rattle.vx_record.specs.Additions.{OnlyAdds}
use Rattle.vx_record.proofs.OwnTurns.{worker_own, moment_own, closed_own}
use Rattle.vx_record.proofs.OwnLeases.{turned_own, tried_own, confirmed_own, lease_stays}
use Rattle.vx_record.proofs.OwnConfirms.{given_own}
use Rattle.vx_record.proofs.OwnReads.{bytes_own, starts_own, taken_own}
use Rattle.vx_record.proofs.OwnAnswers.{took_own}
use Rattle.vx_record.proofs.Adding.{carry_legal}
use Rattle.vx_record.proofs.TasksOut.{spared_stays}
use Rattle.vx_sourcecore.specs.declared.source.Turned.{Turned}
use Rattle.vx_sourcecore.specs.declared.source.Turned.TheVariants as turned
use Rattle.vx_pick.specs.Picks.{Picks, AreMeant}
use Rattle.vx_sourcecore.proofs.Keeping.{wiring_kept, abreast_kept, turned_kept}
use Rattle.vx_sourcecore.proofs.MakingKept.{generating_kept, made_kept}
use Rattle.vx_sourcecore.specs.Lines.{is_blackhole}
use Rattle.vx_sourcecore.specs.Turns.{Reading, reading_of}
use Rattle.vx_places.specs.Numbers.{numbers}
use Rattle.vx_tasks.specs.declared.confirming.Confirmed.{Confirmed}
use Rattle.vx_tasks.specs.declared.landing.Done.{Done}
use Rattle.vx_tasks.specs.declared.landing.Done.TheVariants as done
use Rattle.vx_tasks.specs.declared.task.Role.{Role}
use Rattle.vx_tasks.specs.declared.task.Role.TheVariants as role
use Rattle.vx_tasks.specs.declared.work.Job.{Job}
use Rattle.vx_tasks.specs.declared.work.Job.TheVariants as job
use Rattle.vx_tasks.specs.Observing.{IsObserved, GoesBeyond}
use Rattle.vx_tasks.specs.Joining.{is_joining, joins_at}
use Rattle.vx_tasks.specs.Unleased.{HasCome, StandsAt, HasKept}
use Rattle.vx_tasks.specs.Out.{IsReadable, IsIdle, IsHeld, MayAttemptNow, MayReadNow, MayCloseNow, MayJudgeNow, IsGiven, AreJudged, AreDue, turn_entry, work_entries, confirm_entries, IsConfirmedSo, IsKeptBy, ReportsDone, HasRoleTurned, HasActed, events_held, picked_ports}
use Rattle.vx_tasks.specs.Laws.{LeftKept, DoneKept}
use Rattle.vx_tasks.proofs.Staying.{stays, runs, wired_runs, device_is, observed_same, held_stays}
use Rattle.vx_tasks.proofs.Alone.{generated_same}
use Rattle.vx_tasks.proofs.Closing.{observe, attempt_stays}
use Rattle.vx_tasks.proofs.Writing.{events_said}
use Rattle.vx_tasks.proofs.Answered.{answered_stays}
use Rattle.vx_tasks.proofs.Discarding.{discards_later}

-- RECORDS WITH THE SAME ENTRIES OF A TASK
-- entries in front of both
mine_behind : (es : List Entry) (old new : Record) (i : ℕ) → mine new i ≡ mine old i → mine (es ++ new) i ≡ mine (es ++ old) i
mine_behind [] old new i same = same
mine_behind (e ∷ es) old new i same = ap (λ (m : Record). if is_of i e then e ∷ m else m) (mine_behind es old new i same)

-- a turn is told alike
turn_same : (old new : Record) (i : ℕ) (turned : Turned) → mine new i ≡ mine old i → turn_entry new i turned ≡ turn_entry old i turned
turn_same old new i (turned.Lines stream n room cut) same = refl
turn_same old new i (turned.StreamEnded stream cut) same = refl
turn_same old new i (turned.AllEnded stream cut) same = refl
turn_same old new i turned.Idle same = refl
turn_same old new i (turned.Failed at_start) same =
    ap (λ n. if at_start && nat_lt n 4 then entry.Idle i true else entry.SourceLost i (capped (bytes_taken new i)) at_start) (stays failed_starts starts_own old new i same)
    ∙ ap (λ n. if at_start && nat_lt (failed_starts old i) 4 then entry.Idle i true else entry.SourceLost i (capped n) at_start) (stays bytes_taken bytes_own old new i same)

work_entries_same : (old new : Record) (i : ℕ) (parcels : List Parcel) (d : Done) → mine new i ≡ mine old i → work_entries new i parcels d ≡ work_entries old i parcels d
work_entries_same old new i parcels done.Nothing same = refl
work_entries_same old new i parcels (done.Read turned) same = ap (λ (e : Entry). e ∷ []) (turn_same old new i turned same)
work_entries_same old new i parcels (done.Attempted all sent answer) same = refl
work_entries_same old new i parcels (done.Judged ports) same = refl
work_entries_same old new i parcels done.Closed same = refl
work_entries_same old new i parcels done.OutOfMemory same = refl
work_entries_same old new i parcels done.Starved same = refl

-- and none of these entries installs anything
turn_wired : (h : Record) (i : ℕ) (turned : Turned) → wiring (turn_entry h i turned ∷ h) i ≡ wiring h i
turn_wired h i (turned.Lines stream n room cut) = refl
turn_wired h i (turned.StreamEnded stream cut) = refl
turn_wired h i (turned.AllEnded stream cut) = refl
turn_wired h i turned.Idle = refl
turn_wired h i (turned.Failed at_start) = go (at_start && nat_lt (failed_starts h i) 4)
  where
    go : (b : Bool) → wiring ((if b then entry.Idle i true else entry.SourceLost i (capped (bytes_taken h i)) at_start) ∷ h) i ≡ wiring h i
    go true = refl
    go false = refl

work_entries_wired : (h : Record) (i : ℕ) (parcels : List Parcel) (d : Done) → wiring (work_entries h i parcels d ++ h) i ≡ wiring h i
work_entries_wired h i parcels done.Nothing = refl
work_entries_wired h i parcels (done.Read turned) = turn_wired h i turned
work_entries_wired h i parcels (done.Attempted all sent answer) = refl
work_entries_wired h i parcels (done.Judged ports) = refl
work_entries_wired h i parcels done.Closed = refl
work_entries_wired h i parcels done.OutOfMemory = refl
work_entries_wired h i parcels done.Starved = refl

confirm_wired : (h : Record) (i : ℕ) (confirmed : Option Confirmed) → wiring (confirm_entries i confirmed ++ h) i ≡ wiring h i
confirm_wired h i None = refl
confirm_wired h i (Some c) = refl

-- so a port that tells what one of them will have tells what the other will
module _ (observed : Observation) (old new : Record) (i : ℕ) (same : mine new i ≡ mine old i) (wired : wiring new i ≡ wiring old i) where
  work_entries_observed : (parcels : List Parcel) (d : Done) → IsObserved observed (work_entries old i parcels d ++ old) i → IsObserved observed (work_entries new i parcels d ++ new) i
  work_entries_observed parcels d is =
      observed_same observed (work_entries old i parcels d ++ old) (work_entries new i parcels d ++ new) i
      (ap (λ (es : List Entry). mine (es ++ new) i) (work_entries_same old new i parcels d same) ∙ mine_behind (work_entries old i parcels d) old new i same)
      (work_entries_wired new i parcels d ∙ wired ∙ sym (work_entries_wired old i parcels d))
      is

  reports_same : (parcels : List Parcel) (d : Done) → ReportsDone observed old i parcels d → ReportsDone observed new i parcels d
  reports_same parcels done.Nothing is = work_entries_observed parcels done.Nothing is
  reports_same parcels (done.Read turned) is = work_entries_observed parcels (done.Read turned) is
  reports_same parcels (done.Attempted all sent answer) is = work_entries_observed parcels (done.Attempted all sent answer) is
  reports_same parcels (done.Judged ports) is = work_entries_observed parcels (done.Judged ports) is
  reports_same parcels done.Closed is = work_entries_observed parcels done.Closed is
  reports_same parcels done.OutOfMemory is = work_entries_observed parcels done.OutOfMemory is
  reports_same parcels done.Starved is = observed_same (record observed { given = None }) old new i same wired is

reports_behind : (observed : Observation) (old new : Record) (i : ℕ) → mine new i ≡ mine old i → wiring new i ≡ wiring old i → (confirmed : Option Confirmed) (parcels : List Parcel) (d : Done) →
    ReportsDone observed (confirm_entries i confirmed ++ old) i parcels d → ReportsDone observed (confirm_entries i confirmed ++ new) i parcels d
reports_behind observed old new i same wired confirmed parcels d is =
    reports_same observed (confirm_entries i confirmed ++ old) (confirm_entries i confirmed ++ new) i
    (mine_behind (confirm_entries i confirmed) old new i same)
    (confirm_wired new i confirmed ∙ wired ∙ sym (confirm_wired old i confirmed))
    parcels d is

-- WHAT IS KEPT
module _ (old new : Record) (i worker : ℕ) (legal : IsLegal old) (adds : OnlyAdds (Spares i) old new) (out : out_to old i ≡ Some worker) where
  same : mine new i ≡ mine old i
  same = spared_stays old new i adds

  wired : wiring new i ≡ wiring old i
  wired = wiring_kept old new i (runs old i worker legal out) adds

  run : component_of new i ≡ component_of old i
  run = wired_runs new old i wired

  lease : at_lease new i ≡ at_lease old i
  lease = lease_stays old new i adds

  moment : lease_now new i ≡ lease_now old i
  moment = stays lease_now moment_own old new i same

  source : source_at new i ≡ source_at old i
  source = observe false is_source new old i run

  out_kept : out_to new i ≡ Some worker
  out_kept = stays out_to worker_own old new i same ∙ out

  idle_kept : IsIdle old i → IsIdle new i
  idle_kept idle = record {
    no_turn = stays (λ h k. list_any (is_turn_of k) (since_lease h k)) turned_own old new i same ∙ idle.no_turn;
    no_attempt = stays (λ h k. list_any (is_attempt_of k) (since_lease h k)) tried_own old new i same ∙ idle.no_attempt;
    no_confirm = stays (λ h k. list_any (is_confirm_of k) (since_lease h k)) confirmed_own old new i same ∙ idle.no_confirm;
    unclosed = stays is_closed closed_own old new i same ∙ idle.unclosed;
  }

  ported : device_at new i ≡ device_at old i
  ported = device_is new old i run

  joins_kept : joins_at new i ≡ joins_at old i
  joins_kept = observe false (λ (c : Component). is_transform c && is_joining c.settings) new old i run

  come_kept : (r : Role) → HasCome old i r → HasCome new i r
  come_kept (role.Source core) is = (abreast_kept old new i core adds is.0, ported ∙ is.1)
  come_kept (role.Generator generator) is = (generating_kept old new i generator adds is.0, ported ∙ is.1)
  come_kept role.Blackhole is = subst (λ (o : Option Component). IsSomeAnd o (λ (c : Component). is_blackhole c.settings ≡ true)) (sym run) is
  come_kept (role.Sink codec) is = subst (λ (o : Option Component). IsSomeAnd o (λ (c : Component). encoding c.settings ≡ Some codec)) (sym run) is
  come_kept (role.Transform picker) is = subst (λ (o : Option Component). IsSomeAnd o (λ (c : Component). Picks c.settings picker)) (sym run) is
  come_kept role.Merge is = joins_kept ∙ is
  come_kept role.Unfit is = tt

  due_kept : (positions : Option (List Position)) → AreDue old i positions → AreDue new i positions
  due_kept None is = subst (λ (h : Record). is_confirm_due h i ≡ false) (sym lease) is
  due_kept (Some positions) is =
      (source ∙ is.0, (subst (λ (h : Record). is_confirm_due h i ≡ true) (sym lease) is.1.0, subst (λ (h : Record). positions ≡ due h i) (sym lease) is.1.1))

  read_kept : MayReadNow old i → MayReadNow new i
  read_kept may = record {
    source = source ∙ may.source;
    readable = subst (λ (h : Record). can_read h i (lease_now new i) ≡ true) (sym lease) (subst (λ (t : ℕ). can_read (at_lease old i) i t ≡ true) (sym moment) may.readable);
  }

  close_kept : MayCloseNow old i → MayCloseNow new i
  close_kept may = record {
    device = device_is new old i run ∙ may.device;
    over = subst (λ (h : Record). is_done h i ≡ true) (sym lease) may.over;
    confirmed = subst (λ (h : Record). is_confirm_due h i ≡ false) (sym lease) may.confirmed;
  }

  attempt_kept : MayAttemptNow old i → MayAttemptNow new i
  attempt_kept may = attempt_stays old new i same run adds legal may

  settled_kept : owes_discards old i ≡ false → owes_discards new i ≡ false
  settled_kept = carry_legal (Spares i) (λ h. owes_discards h i ≡ false) (λ h e follows spares was. discards_later h e i spares was) old new adds legal

  judge_kept : MayJudgeNow old i → MayJudgeNow new i
  judge_kept may = record {
    transform = observe false is_transform new old i run ∙ may.transform;
    took = stays took_since took_own old new i same ∙ may.took;
    settled = settled_kept may.settled;
  }

  untaken_kept : owes_answer old i ≡ false → owes_answer new i ≡ false
  untaken_kept is = ap (λ (b : Bool). b && took_since new i) (observe false is_transform new old i run) ∙ ap (λ (b : Bool). transform_at old i && b) (stays took_since took_own old new i same) ∙ is

  given_kept : (wanted : Job) → IsGiven old i wanted → IsGiven new i wanted
  given_kept job.Read is = read_kept is
  given_kept job.Confirm is = tt
  given_kept job.Collect is = tt
  given_kept job.Attempt is = attempt_kept is
  given_kept job.Close is = close_kept is
  given_kept job.Judge is = judge_kept is

  undue_kept : is_confirm_due (at_lease old i) i ≡ false → is_confirm_due (at_lease new i) i ≡ false
  undue_kept is = subst (λ (h : Record). is_confirm_due h i ≡ false) (sym lease) is

  so_kept : (d : Done) (confirmed : Option Confirmed) → IsConfirmedSo old i d confirmed → IsConfirmedSo new i d confirmed
  so_kept done.Nothing None is = undue_kept is
  so_kept (done.Read turned) None is = undue_kept is
  so_kept (done.Attempted all sent answer) None is = undue_kept is
  so_kept (done.Judged ports) None is = undue_kept is
  so_kept done.Closed None is = undue_kept is
  so_kept done.OutOfMemory None is = tt
  so_kept done.Starved None is = undue_kept is
  so_kept done.Nothing (Some c) is = due_kept (Some c.positions) is
  so_kept (done.Read turned) (Some c) is = due_kept (Some c.positions) is
  so_kept (done.Attempted all sent answer) (Some c) is = due_kept (Some c.positions) is
  so_kept (done.Judged ports) (Some c) is = due_kept (Some c.positions) is
  so_kept done.Closed (Some c) is = due_kept (Some c.positions) is
  so_kept done.OutOfMemory (Some c) is = due_kept (Some c.positions) is
  so_kept done.Starved (Some c) is = due_kept (Some c.positions) is

  -- what was done
  turned_role_kept : (r : Role) (turned : Turned) → HasRoleTurned old i r turned → HasRoleTurned new i r turned
  turned_role_kept (role.Source core) turned is = (turned_kept old new i core turned adds is.0, ported ∙ is.1)
  turned_role_kept (role.Generator generator) turned is = (made_kept old new i generator turned adds is.0, ported ∙ is.1)
  turned_role_kept role.Blackhole turned is = is
  turned_role_kept (role.Sink codec) turned is = is
  turned_role_kept (role.Transform picker) turned is = is
  turned_role_kept role.Merge turned is = is
  turned_role_kept role.Unfit turned is = tt

  given_lines : lines_given new i ≡ lines_given old i
  given_lines = ap (count 10) (stays (λ h k. taken h k 0) (taken_own 0) old new i same)

  readable_kept : (turned : Turned) → IsReadable old i turned → IsReadable new i turned
  readable_kept turned is = go (reading_of turned) is
    where
      go : (o : Option Reading) → IfSome o (λ (reading : Reading). IsGenerated old i reading.stream reading.took) →
          IfSome o (λ (reading : Reading). IsGenerated new i reading.stream reading.took)
      go None is = is
      go (Some reading) is = generated_same old new i reading.stream reading.took
          (observe None (λ (c : Component). demo_of c.settings) new old i run) given_lines
          (observe 0 (λ (c : Component). if reading_interval c.settings == 0 then 64 else 1) new old i run) is

  encoded_kept : (parcels : List Parcel) → IsHeld old i parcels → IsHeld new i parcels → encoded new i (at new (Held i)) ≡ encoded old i (at old (Held i))
  encoded_kept parcels was is =
      ap (encoded new i) (sym is.held)
      ∙ observe [] (λ (c : Component). bytes_for c.settings (map (parcel_event new) (numbers parcels))) new old i run
      ∙ ap (λ (events : List Event). elim (component_of old i) [ None ↦ [] | Some c ↦ bytes_for c.settings events ]) (events_said new parcels is.known is.filled ∙ sym (events_said old parcels was.known was.filled))
      ∙ ap (encoded old i) was.held

  -- the events of what it holds, and the rule by which it picks
  held_events : (h : Record) (parcels : List Parcel) → IsHeld h i parcels → map (parcel_event h) (at h (Held i)) ≡ map (λ (p : Parcel). p.event) parcels
  held_events h parcels held = ap (map (parcel_event h)) (sym held.held) ∙ events_said h parcels held.known held.filled

  rule_kept : (rule : Rule) → RunsBy new i rule → RunsBy old i rule
  rule_kept rule by = record { component = by.component; runs = sym run ∙ by.runs; transform = by.transform; tests = by.tests; mean = by.mean; ruled = by.ruled }

  judged_kept : (parcels : List Parcel) (ports : List ℕ) → IsHeld old i parcels → IsHeld new i parcels → AreJudged old i ports → AreJudged new i ports
  judged_kept parcels ports was now are = λ judge by.
      are judge (rule_kept (judges judge) by)
      ∙ ap (λ (earlier : List Event). picked_ports judge earlier (events_held old i)) (sym (answered_stays old new i adds))
      ∙ ap (picked_ports judge (answered_events new i)) (held_events old parcels was ∙ sym (held_events new parcels now))

  -- what it keeps stands for what it did
  stands_kept : (r : Role) → HasKept old i r → HasKept new i r
  stands_kept r = subst (StandsAt r) (sym (answered_stays old new i adds))

  behind_kept : (r : Role) (parcels : List Parcel) → IsHeld old i parcels → IsHeld new i parcels →
      StandsAt r (answered_events old i ++ events_held old i) → StandsAt r (answered_events new i ++ events_held new i)
  behind_kept r parcels was now is =
      subst (λ (es : List Event). StandsAt r (answered_events new i ++ es)) (held_events old parcels was ∙ sym (held_events new parcels now))
      (subst (λ (es : List Event). StandsAt r (es ++ events_held old i)) (sym (answered_stays old new i adds)) is)

  by_kept : (r : Role) (d : Done) → IsKeptBy old i r d → IsKeptBy new i r d
  by_kept r done.Nothing is = stands_kept r is
  by_kept r (done.Read turned) is = stands_kept r is
  by_kept r (done.Attempted all sent answer) is = stands_kept r is
  by_kept r (done.Judged ports) is = tt
  by_kept r done.Closed is = stands_kept r is
  by_kept r done.OutOfMemory is = tt
  by_kept r done.Starved is = stands_kept r is

  meant_kept : (parcels : List Parcel) → IsHeld old i parcels → IsHeld new i parcels → (at old (Held i) ≢ [] → IsSomeAnd (component_of old i) (λ (c : Component). AreMeant (conditions_of c.settings))) →
      at new (Held i) ≢ [] → IsSomeAnd (component_of new i) (λ (c : Component). AreMeant (conditions_of c.settings))
  meant_kept parcels was now meant some =
      subst (λ (o : Option Component). IsSomeAnd o (λ (c : Component). AreMeant (conditions_of c.settings))) (sym run) (meant (λ none. some (sym now.held ∙ was.held ∙ none)))

  acted_kept : (observed : Observation) (r : Role) (parcels : List Parcel) (d : Done) → IsHeld old i parcels → IsHeld new i parcels → HasActed observed old i r d → HasActed observed new i r d
  acted_kept observed r parcels done.Nothing was now is = come_kept r is
  acted_kept observed r parcels (done.Read turned) was now is = record {
    may = read_kept is.may;
    come = turned_role_kept r turned is.come;
    ported = λ none. ported ∙ is.ported none;
    readable = readable_kept turned is.readable;
    whole = is.whole;
    few = is.few;
    fit = is.fit;
  }
  acted_kept observed r parcels (done.Attempted all sent answer) was now is = record {
    may = attempt_kept is.may;
    come = come_kept r is.come;
    whole = is.whole ∙ sym (encoded_kept parcels was now);
    within = is.within;
    ok = is.ok;
    blackhole_ok = λ none. is.blackhole_ok (sym ported ∙ none);
  }
  acted_kept observed r parcels (done.Judged ports) was now is = record {
    may = judge_kept is.may;
    come = come_kept r is.come;
    judged = judged_kept parcels ports was now is.judged;
    kept = behind_kept r parcels was now is.kept;
    meant = meant_kept parcels was now is.meant;
  }
  acted_kept observed r parcels done.Closed was now is = record { may = close_kept is.may; come = come_kept r is.come; shut = is.shut }
  acted_kept observed r parcels done.OutOfMemory was now is = come_kept r is
  acted_kept observed r parcels done.Starved was now is = record {
    may = attempt_kept is.may;
    come = come_kept r is.come;
    beyond = subst (λ (w : List ℕ). GoesBeyond observed.given w (encoded new i (at new (Held i)))) (sym (stays given given_own old new i same))
        (subst (λ (w : List ℕ). GoesBeyond observed.given (given old i) w) (sym (encoded_kept parcels was now)) is.beyond);
    shut = is.shut;
  }

pub left_kept : {P : Type 0} (observed : P → Observation) → LeftKept observed
left_kept observed old new work legal adds left =
    let i = work.instance in
    let w = work.worker in
    record {
      out = out_kept old new i w legal adds left.out;
      idle = idle_kept old new i w legal adds left.out left.idle;
      unleased = record {
        observed = observed_same (observed work.task.port) old new i (same old new i w legal adds left.out) (wired old new i w legal adds left.out) left.unleased.observed;
        come = come_kept old new i w legal adds left.out work.task.role left.unleased.come;
      };
      kept = stands_kept old new i w legal adds left.out work.task.role left.kept;
      held = held_stays work.held.items old new i adds legal left.held;
      asked = due_kept old new i w legal adds left.out work.positions left.asked;
      job = given_kept old new i w legal adds left.out work.job left.job;
      settled = settled_kept old new i w legal adds left.out left.settled;
      untaken = λ no. untaken_kept old new i w legal adds left.out (left.untaken no);
      fit = left.fit;
      alone = joins_kept old new i w legal adds left.out ∙ left.alone;
    }

pub done_kept : {P : Type 0} (observed : P → Observation) → DoneKept observed
done_kept observed old new landing legal adds back =
    let i = landing.instance in
    let w = landing.worker in
    let now = held_stays landing.held.items old new i adds legal back.held in
    record {
      out = out_kept old new i w legal adds back.out;
      idle = idle_kept old new i w legal adds back.out back.idle;
      held = now;
      confirmed = so_kept old new i w legal adds back.out landing.done landing.confirmed back.confirmed;
      observed = reports_behind (observed landing.task.port) old new i (same old new i w legal adds back.out) (wired old new i w legal adds back.out) landing.confirmed landing.held.items landing.done back.observed;
      acted = acted_kept old new i w legal adds back.out (observed landing.task.port) landing.task.role landing.held.items landing.done back.held now back.acted;
      kept = by_kept old new i w legal adds back.out landing.task.role landing.done back.kept;
      settled = settled_kept old new i w legal adds back.out back.settled;
      untaken = λ no. untaken_kept old new i w legal adds back.out (back.untaken no);
      fit = back.fit;
      alone = joins_kept old new i w legal adds back.out ∙ back.alone;
    }
