-- What was done was noted, and the task can come back.
use Rattle.std.proofs.Common.{◌≡◌, ◌⊎◌, ◌∙◌, ℕ, ◌<◌, Bool, true, false, [], ◌∷◌, length, Option, Some, None, IfSome, IsSomeAnd, refl, sym, ap, inl, inr}
use Rattle.std.specs.Prelude.{◌&&◌, nat_lt, slice_get, take, if◌then◌else◌}
use Rattle.std.specs.Option.{is_none}
use Rattle.std.proofs.lemmas.List.{append-nil}
use Rattle.vx_ends.specs.Observation.{Observation}
use Rattle.vx_ends.specs.declared.trouble.Reply.{Reply}
use Rattle.vx_ledger.specs.declared.short.Short.{Short}
use Rattle.vx_record.specs.declared.entry.Entry.{Entry}
use Rattle.vx_record.specs.declared.entry.Entry.TheVariants as entry
use Rattle.vx_record.specs.declared.taken.Taken.{Taken}
use Rattle.vx_record.specs.Records.{Record, capped}
use Rattle.vx_record.specs.Abandoning.{abandoned}
use Rattle.vx_record.specs.Additions.{OnlyAdds}
use Rattle.vx_record.specs.Ceasing.{cause_of}
use Rattle.vx_record.specs.Confirms.{last_confirm, due}
use Rattle.vx_record.specs.Copies.{counting, joined, next_copy}
use Rattle.vx_record.specs.Installs.{device_at, is_closed, started}
use Rattle.vx_record.specs.Lists.{held}
use Rattle.vx_record.specs.Makers.{IsFor}
use Rattle.vx_record.specs.Owing.{owes}
use Rattle.vx_record.specs.Places.Place.{Held}
use Rattle.vx_record.specs.Reads.{bytes_taken}
use Rattle.vx_record.specs.Shifts.{at}
use Rattle.vx_record.specs.Sourcing.{failed_starts, yield, must_wait}
use Rattle.vx_record.specs.Turns.{is_out, at_lease}
use Rattle.vx_record.proofs.Adding.{adds_none}
use Rattle.vx_record.proofs.Ceasing.{unabandoned}
use Rattle.vx_record.proofs.Shifting.{stands_at}
use Rattle.vx_record.proofs.Untried.{spends_settled}
use Rattle.vx_places.specs.Capacities.{SameCapacities}
use Rattle.vx_counts.proofs.Once.{itself}
use Rattle.vx_sourcecore.specs.Abreast.{IsCutOf}
use Rattle.vx_sourcecore.specs.declared.source.Cut.{Cut}
use Rattle.vx_sourcecore.specs.declared.source.Turned.{Turned}
use Rattle.vx_sourcecore.specs.declared.source.Turned.TheVariants as turned
use Rattle.vx_sourcecore.specs.Laws.{IsUnread}
use Rattle.vx_sourcecore.specs.Turns.{Reading, reading_of, cut_of}
use Rattle.vx_sourcecore.proofs.Keeping.{abreast_under}
use Rattle.vx_sourcecore.proofs.MakingKept.{generating_under}
use Rattle.vx_tasks.specs.declared.landing.Done.{Done}
use Rattle.vx_tasks.specs.declared.landing.Done.TheVariants as done
use Rattle.vx_tasks.specs.declared.task.Role.{Role}
use Rattle.vx_tasks.specs.declared.task.Role.TheVariants as role
use Rattle.vx_tasks.specs.declared.task.Task.{Task}
use Rattle.vx_tasks.specs.Unleased.{HasCome, HasKept}
use Rattle.vx_tasks.specs.Out.{HasRoleTurned, is_unfit, lacks_cut, read_entry, turn_entry, leaves_taken}
use Rattle.vx_tasks.specs.Observing.{IsObserved}
use Rattle.vx_instances.specs.Calls.{IsBack, HasTaskBack}
use Rattle.vx_instances.specs.declared.state.InstanceState.{InstanceState}
use Rattle.vx_instances.specs.Knowing.{IsKnown}
use Rattle.vx_instances.specs.Staying as staying
use Rattle.vx_instances.proofs.Owing.{owes_still}
use Rattle.vx_instances.proofs.Observing.{observed_mute, come_mute}
use Rattle.vx_moves.specs.Creating.{IsBirthShort}
use Rattle.vx_moves.specs.declared.engine.EngineState.{EngineState}
use Rattle.vx_moves.specs.declared.run.Run.{Run}
use Rattle.vx_moves.specs.Leaving.{Leaves}
use Rattle.vx_moves.specs.Returns.{AreSettled, IsReturned}
use Rattle.vx_moves.specs.Stands.{Stands}
use Rattle.vx_landing.specs.Failures.{LacksBirth}
use Rattle.vx_landing.specs.Landings.{ComesBehind, HasCreatedCutBatch, HasLanded, HasNoted, HasNotedRead, HasSpentBy, IsBackWith, IsMarked, IsOwingNow, IsWellLanded, LandsOn, Owes, decides, outcome_of}
use Rattle.vx_landing.specs.Standing.{IsWellAt, IsFedAt}
use Rattle.vx_landing.proofs.Answering.{adds_step, for_own, leaves_both, spends_behind}
use Rattle.vx_landing.proofs.Lending.{kept_on}
use Rattle.vx_landing.proofs.Owing.{work_entries_none, lacks_birth, owes_attempted, owes_barren, owes_created, owes_none, owes_retried, settled_by, spends_keep, uncaused}
use Rattle.vx_landing.proofs.States.{LeavesBe, NowOwes, NowStarves, be_both, be_here, be_stays, both_are, both_said, carried, carried_one, fed_well, lands, others_both, others_one, well_on}

-- WHAT A TASK DOES
-- an instance works with a port or not behind an entry that installs nothing
ported_under : (h : Record) (e : Entry) (i : ℕ) → IsUnread e → device_at (e ∷ h) i ≡ device_at h i
ported_under h (entry.Install version plan once instances now) i unread = absurd unread
ported_under h e i unread = refl

pub come_under : (r : Role) (h : Record) (e : Entry) (i : ℕ) → IsUnread e → HasCome h i r → HasCome (e ∷ h) i r
come_under (role.Source core) h e i unread come = (abreast_under h e i core unread come.0, ported_under h e i unread ∙ come.1)
come_under (role.Generator generator) h e i unread come = (generating_under h e i generator unread come.0, ported_under h e i unread ∙ come.1)
come_under role.Blackhole h (entry.Install version plan once instances now) i unread come = absurd unread
come_under role.Blackhole h e i unread come = come
come_under (role.Sink codec) h (entry.Install version plan once instances now) i unread come = absurd unread
come_under (role.Sink codec) h e i unread come = come
come_under (role.Transform picker) h (entry.Install version plan once instances now) i unread come = absurd unread
come_under (role.Transform picker) h e i unread come = come
come_under role.Merge h (entry.Install version plan once instances now) i unread come = absurd unread
come_under role.Merge h e i unread come = come
come_under role.Unfit h e i unread come = tt

-- a turn that took nothing leaves it where it was
role_idle : (r : Role) (h : Record) (i : ℕ) (took : Turned) → reading_of took ≡ None → HasRoleTurned h i r took → HasCome h i r
role_idle (role.Source core) h i took none turned = (rw none at turned.0, turned.1)
role_idle (role.Generator generator) h i took none turned = absurd (rw none at turned.0)
role_idle role.Blackhole h i took none turned = absurd turned
role_idle (role.Sink codec) h i took none turned = absurd turned
role_idle (role.Transform picker) h i took none turned = absurd turned
role_idle role.Merge h i took none turned = absurd turned
role_idle role.Unfit h i took none turned = tt

-- whoever reads is a source where what it read was cut
role_cut : (r : Role) (h : Record) (i : ℕ) (took : Turned) (reading : Reading) (cut : Cut) → reading_of took ≡ Some reading → cut_of took ≡ Some cut →
    HasRoleTurned h i r took → is_unfit r ≡ lacks_cut took →
    HasCome (entry.Read i reading.stream reading.took ∷ h) i r × (IsCutOf h i reading.stream reading.took cut × (is_unfit r ≡ false))
role_cut (role.Source core) h i took reading cut reads cuts turned fit = let both = rw (reads, cuts) at turned.0 in ((both.0, turned.1), (both.1, refl))
role_cut (role.Generator generator) h i took reading cut reads cuts turned fit = let both = rw (reads, cuts) at turned.0 in ((both.0, turned.1), (both.1, refl))
role_cut role.Blackhole h i took reading cut reads cuts turned fit = absurd turned
role_cut (role.Sink codec) h i took reading cut reads cuts turned fit = absurd turned
role_cut (role.Transform picker) h i took reading cut reads cuts turned fit = absurd turned
role_cut role.Merge h i took reading cut reads cuts turned fit = absurd turned
role_cut role.Unfit h i took reading cut reads cuts turned fit = let no = rw (reads, cuts) at fit in cc

-- and it is of no use any more where it wasn't
role_uncut : (r : Role) (h k : Record) (i : ℕ) (took : Turned) (reading : Reading) → reading_of took ≡ Some reading → cut_of took ≡ None →
    HasRoleTurned k i r took → is_unfit r ≡ lacks_cut took → HasCome h i r
role_uncut (role.Source core) h k i took reading reads cuts turned fit = let no = rw (reads, cuts) at fit in cc
role_uncut (role.Generator generator) h k i took reading reads cuts turned fit = let no = rw (reads, cuts) at fit in cc
role_uncut role.Blackhole h k i took reading reads cuts turned fit = let no = rw (reads, cuts) at fit in cc
role_uncut (role.Sink codec) h k i took reading reads cuts turned fit = let no = rw (reads, cuts) at fit in cc
role_uncut (role.Transform picker) h k i took reading reads cuts turned fit = let no = rw (reads, cuts) at fit in cc
role_uncut role.Merge h k i took reading reads cuts turned fit = absurd turned
role_uncut role.Unfit h k i took reading reads cuts turned fit = tt

-- what a turn read is told by its entry
entry_of : (h : Record) (i : ℕ) (took : Turned) {reading : Reading} → reading_of took ≡ Some reading →
    turn_entry h i took ≡ entry.Read i reading.stream reading.took
entry_of h i turned.Idle is = cc
entry_of h i (turned.Failed at_start) is = cc
entry_of h i took is = ap (read_entry i) is

-- what was cut is what the read yields
yields_cut : (h : Record) (i : ℕ) {stream : ℕ} (reading : Reading) (cut : Cut) → reading.stream ≡ stream → IsCutOf h i reading.stream reading.took cut →
    0 < length cut.events → yield (entry.Read i reading.stream reading.took ∷ h) i ≡ Some (record { events = cut.events; stream = stream; end = cut.end })
yields_cut h i reading cut same is some =
    rw (itself i) (λ t. Some (record { events = sym is.events t; stream = (sym (is.of_stream some) ∙ same) t; end = sym (is.end some) t }))

-- a read spends nothing
settled_read : (h : Record) (i stream : ℕ) (took : Taken) → AreSettled h i → AreSettled (entry.Read i stream took ∷ h) i
settled_read h i stream took settled going c some = rw append-nil (settled going c some)

some_of : {A : Type 0} (F : A → Type 0) (o : Option A) → IsSomeAnd o F → (x : A) × ((o ≡ Some x) × F x)
some_of F None is = absurd is
some_of F (Some x) is = (x, (refl, is))

-- A TASK THAT COMES BACK
-- a task as the record has it, but for what it owes to it
pub record IsArrived {P : Type 0} (observe : P → Observation) (h : Record) (i : ℕ) (task : Task P) : Type 0 where
  pub out : is_out h i ≡ true
  pub observed : IsObserved (observe task.port) h i
  pub come : HasCome h i task.role
  pub answered : device_at h i ≡ true → last_confirm h i ≡ due (at_lease h i) i
  pub kept : cause_of h ≡ None → HasKept h i task.role
  pub shut : is_closed h i ≡ true → (observe task.port).started ≡ false
  pub fit : is_unfit task.role ≡ false

-- what its instance owes isn't known any more
pub record IsOwing {P : Type 0} (task : Task P) (state : InstanceState P) : Type 0 where
  pub owing : state.facts.owing ≡ true
  pub fed : state.facts.starved ≡ false
  pub fit : state.facts.behind ≡ false → is_unfit task.role ≡ false

module _ {P : Type 0} {observe : P → Observation} {i : ℕ} {task : Task P} {old : EngineState P} {outcome : Done}
    (stands : Stands observe old) (within : i < length old.states) (b : IsBackWith observe old i task outcome) where
  pub landed_by : {h : Record} {new : EngineState P} → new.log ≡ h → Stands observe new → OnlyAdds (IsFor i) old.log new.log → LandsOn i old new → is_out h i ≡ true →
      HasTaskBack observe new.states h i task → (new.run.out_of_memory ≡ false → IsReturned h i) → HasLanded observe i task old new
  landed_by {h} {new} log now only leaves out back returned = record {
    stands = now;
    only = only;
    leaves = leaves;
    out = rw log out;
    kept = kept_on old.places new.places i (rw stands.size within) leaves.capacities b.kept;
    back = rw log back;
    returned = λ fed. rw log (returned fed);
  }

  -- all is well
  pub landed_well : {h : Record} {new : EngineState P} → new.log ≡ h → Stands observe new → OnlyAdds (IsFor i) old.log new.log → LeavesBe i old new →
      IfSome (slice_get new.states i) IsWellAt → IsArrived observe h i task → (cause_of h ≡ None → owes h i ≡ false) → HasLanded observe i task old new
  landed_well {h} {new} log now only be well arrived settled =
      landed_by log now only (lands be (fed_well (slice_get new.states i) well)) arrived.out
      (both_said (λ state. IsKnown observe state h i) IsWellAt (λ state. IsBack observe state.facts h i task) (slice_get new.states i)
      (rw log at (now.states.each i)) well (λ state known well. record {
        settled = λ owing. settled;
        answered = λ device owing going. arrived.answered device;
        kept = λ owing going. arrived.kept going;
        task_is = rw well.fed (record { observed = arrived.observed; come = arrived.come });
        shut = λ closed. arrived.shut (sym known.facts.closed ∙ closed);
        fit = λ counted unfit. let no = rw unfit at arrived.fit in cc;
      }))
      (λ fed. record { settled = λ going. settled_by h i (spends_settled h i (settled (uncaused h going))) going; observed = arrived.answered })

  -- so it is behind one entry
  landed_noted : {e : Entry} {new : EngineState P} → HasNoted observe i e old new → IsArrived observe (e ∷ old.log) i task → owes (e ∷ old.log) i ≡ false →
      HasLanded observe i task old new
  landed_noted noted arrived none = landed_well noted.steps.noted noted.steps.stands noted.only (be_stays noted.leaves noted.steps.size) (well_on i noted.leaves b.well) arrived (λ going. none)

  -- memory was wanting
  pub back_owing : {h : Record} {new : EngineState P} → new.log ≡ h → Stands observe new → IsObserved (observe task.port) h i → HasCome h i task.role →
      is_closed h i ≡ false → IfSome (slice_get new.states i) (IsOwing task) → HasTaskBack observe new.states h i task
  back_owing {h} {new} log now observed come unclosed owing =
      both_said (λ state. IsKnown observe state h i) (IsOwing task) (λ state. IsBack observe state.facts h i task) (slice_get new.states i)
      (rw log at (now.states.each i)) owing (λ state known owes. record {
        settled = λ none going. let some = owes.owing in cc;
        answered = λ device none going. let some = owes.owing in cc;
        kept = λ none going. let some = owes.owing in cc;
        task_is = rw owes.fed (record { observed = observed; come = come });
        shut = λ closed. let is : is_closed h i ≡ true = sym known.facts.closed ∙ closed in cc;
        fit = λ counted unfit. let no = rw unfit at (owes.fit counted) in cc;
      })

  landed_marked : {h : Record} {mid new : EngineState P} {Marks : InstanceState P → InstanceState P → Type 0} → mid.log ≡ h → Stands observe mid → OnlyAdds (IsFor i) old.log mid.log →
      LeavesBe i old mid → IsMarked observe Marks i mid new → is_out h i ≡ true → HasTaskBack observe new.states h i task → HasLanded observe i task old new
  landed_marked {h} {mid} {new} {Marks} log now only be marked out back =
      let short : new.run.out_of_memory ≡ true = ap (λ (r : Run). r.out_of_memory) marked.run in
      landed_by (marked.log ∙ log) marked.stands (rw marked.log only)
      (record {
        size = marked.stands.states.size ∙ (ap (λ (h : Record). length (started h)) marked.log ∙ sym now.states.size) ∙ be.size;
        capacities = rw marked.places be.capacities;
        run = rw (marked.run, be.run) refl;
        short = λ was. short;
        others = others_both old.states mid.states new.states be.others (others_one Marks i mid.states new.states marked.states);
        fed = λ fed. cc;
      })
      out back (λ fed. cc)

-- it owes nothing before what was done, unless that is to be answered yet
pub owes_before : {P : Type 0} {observe : P → Observation} {engine : EngineState P} {i : ℕ} {task : Task P} {outcome : Done} → IsBackWith observe engine i task outcome →
    leaves_taken outcome ≡ false → owes engine.log i ≡ false
owes_before {engine = engine} {i = i} b answered = owes_none engine.log i b.settled (b.untaken answered)

-- WHAT WAS DONE
module _ {P : Type 0} {observe : P → Observation} {i : ℕ} {task : Task P} {old : EngineState P} (stands : Stands observe old) (within : i < length old.states) where
  pub landed_nothing : IsBackWith observe old i task done.Nothing → HasLanded observe i task old old
  landed_nothing b =
      landed_well stands within b refl stands (adds_none (IsFor i) old.log old.log refl) be_here b.well
      (record { out = b.out; observed = b.observed; come = b.acted; answered = b.answered; kept = λ going. b.remembers; shut = λ closed. cc; fit = b.fit }) (λ going. owes_before b refl)

  pub landed_closed : {new : EngineState P} → IsBackWith observe old i task done.Closed → HasNoted observe i (entry.Closed i) old new →
      HasLanded observe i task old new
  landed_closed b noted =
      let observed = observed_mute (observe task.port) old.log (entry.Closed i) i tt b.observed in
      let come = come_mute task.role old.log (entry.Closed i) i tt b.acted.come in
      landed_noted stands within b noted
      (record { out = b.out; observed = observed; come = come; answered = b.answered; kept = λ going. b.remembers; shut = λ closed. b.acted.shut; fit = b.fit })
      (owes_still old.log (entry.Closed i) i tt (owes_before b refl))

  -- a turn that took nothing
  landed_idle_by : {took : Turned} {failed : Bool} {new : EngineState P} → reading_of took ≡ None → is_unfit task.role ≡ false →
      IsObserved (observe task.port) (entry.Idle i failed ∷ old.log) i → IsBackWith observe old i task (done.Read took) →
      HasNoted observe i (entry.Idle i failed) old new → HasLanded observe i task old new
  landed_idle_by {took} {failed} none fit observed b noted =
      let come = come_under task.role old.log (entry.Idle i failed) i tt (role_idle task.role old.log i took none b.acted.come) in
      landed_noted stands within b noted (record { out = b.out; observed = observed; come = come; answered = b.answered; kept = λ going. b.remembers; shut = λ closed. cc; fit = fit })
      (owes_still old.log (entry.Idle i failed) i tt (owes_before b refl))

  pub landed_idle : {new : EngineState P} → IsBackWith observe old i task (done.Read turned.Idle) → HasNoted observe i (entry.Idle i false) old new →
      HasLanded observe i task old new
  landed_idle b = landed_idle_by refl b.fit b.observed b

  pub landed_failed : {at_start : Bool} {new : EngineState P} → IsBackWith observe old i task (done.Read (turned.Failed at_start)) →
      HasNoted observe i (turn_entry old.log i (turned.Failed at_start)) old new → HasLanded observe i task old new
  landed_failed {at_start} {new} b = go (at_start && nat_lt (failed_starts old.log i) 4) b.observed
    where
      go : (again : Bool) → IsObserved (observe task.port) ((if again then entry.Idle i true else entry.SourceLost i (capped (bytes_taken old.log i)) at_start) ∷ old.log) i →
          HasNoted observe i (if again then entry.Idle i true else entry.SourceLost i (capped (bytes_taken old.log i)) at_start) old new → HasLanded observe i task old new
      go true observed noted = landed_idle_by refl b.fit observed b noted
      go false observed noted =
          let e = entry.SourceLost i (capped (bytes_taken old.log i)) at_start in
          let come = come_under task.role old.log e i tt (role_idle task.role old.log i (turned.Failed at_start) refl b.acted.come) in
          landed_noted stands within b noted (record { out = b.out; observed = observed; come = come; answered = b.answered; kept = λ going. b.remembers; shut = λ closed. cc; fit = b.fit })
          (owes_still old.log e i tt (owes_before b refl))

  -- memory was wanting for the confirm or the work, or in the midst of an attempt
  pub landed_out_of_memory : {new : EngineState P} → IsBackWith observe old i task done.OutOfMemory → IsMarked observe NowOwes i old new → HasLanded observe i task old new
  landed_out_of_memory b marked =
      landed_marked stands within b refl stands (adds_none (IsFor i) old.log old.log refl) be_here marked b.out
      (back_owing stands within b marked.log marked.stands b.observed b.acted b.unclosed
      (carried_one IsWellAt (IsOwing task) marked.states b.well (λ was is now well. rw now (record { owing = refl; fed = well.fed; fit = λ counted. b.fit }))))

  pub landed_starved : {new : EngineState P} → IsBackWith observe old i task done.Starved → IsMarked observe NowStarves i old new → HasLanded observe i task old new
  landed_starved b marked =
      landed_marked stands within b refl stands (adds_none (IsFor i) old.log old.log refl) be_here marked b.out
      (carried_one IsWellAt (λ state. IsBack observe state.facts old.log i task) marked.states b.well (λ was is now well. rw now (record {
        settled = λ owing going. owes_before b refl;
        answered = λ device owing going. b.answered device;
        kept = λ owing going. b.remembers;
        task_is = (b.observed, b.acted.come);
        shut = λ closed. b.acted.shut;
        fit = λ counted unfit. let no = rw unfit at b.fit in cc;
      })))

  -- AN ATTEMPT
  module _ {sent : ℕ} {all : _} {answer : Reply} {new : EngineState P} (b : IsBackWith observe old i task (done.Attempted all sent answer))
      (spent : HasSpentBy observe i (entry.Attempt i (joined (held old.log i)) (take sent all.value) answer) answer old new) where
    abbrev tried : Record
    tried = entry.Attempt i (joined (held old.log i)) (take sent all.value) answer ∷ old.log

    arrived : IsArrived observe spent.mid.log i task
    arrived = rw spent.noted.steps.noted (record {
      out = b.out;
      observed = rw (stands_at old.log (Held i) stands.legal, ← b.held.held) b.observed;
      come = come_under task.role old.log (entry.Attempt i (joined (held old.log i)) (take sent all.value) answer) i tt b.acted.come;
      answered = b.answered;
      kept = λ going. b.remembers;
      shut = λ closed. cc;
      fit = b.fit;
    })

    -- what the attempt and its spends leave of the engine's state, and of the task
    record IsTried : Type 0 where
      leaves : Leaves old new
      size : length new.states ≡ length old.states
      arrived : IsArrived observe new.log i task
      settled : cause_of new.log ≡ None → owes new.log i ≡ false
      behind : OnlyAdds (ComesBehind i) tried new.log

    -- where nothing is spent, the attempt alone
    unspent : new ≡ spent.mid → (cause_of tried ≡ None → owes tried i ≡ false) → IsTried
    unspent same settled =
        let log = ap (λ (engine : EngineState P). engine.log) same ∙ spent.noted.steps.noted in
        record {
          leaves = rw same spent.noted.leaves;
          size = rw same spent.noted.steps.size;
          arrived = rw same arrived;
          settled = rw log settled;
          behind = adds_none (ComesBehind i) tried new.log log;
        }

    is_tried : (over last : Bool) → abandoned old.log ≡ over → decides old.log i answer ≡ last → IsTried
    is_tried true last over decided = unspent (spent.over over) (λ going. let not = unabandoned tried going in cc)
    is_tried false false going decided =
        unspent (spent.waits decided) (λ none. owes_retried old.log i (joined (held old.log i)) (take sent all.value) answer (owes_before b refl) decided)
    is_tried false true going decided =
        let spends = spent.spent going decided in
        record {
          leaves = leaves_both spent.noted.leaves spends.leaves;
          size = spends.size ∙ spent.noted.steps.size;
          arrived = spends_keep (λ h. IsArrived observe h i task)
              (λ h c is. let e = entry.Spent i c (outcome_of answer) in assumption (observed_mute (observe task.port) h e i tt is.observed, come_mute task.role h e i tt is.come, is))
              (λ h batch status is. let e = entry.Notice batch status in assumption (observed_mute (observe task.port) h e i tt is.observed, come_mute task.role h e i tt is.come, is))
              spends.only arrived;
          settled = λ none. owes_attempted old.log new.log i (joined (held old.log i)) (take sent all.value) answer (outcome_of answer) (owes_before b refl)
              (rw spent.noted.steps.noted at spends.only) spent.stands.legal (spent.none going decided);
          behind = rw spent.noted.steps.noted at (spends_behind spends);
        }

    pub landed_attempted : HasLanded observe i task old new
    landed_attempted =
        let t = is_tried (abandoned old.log) (decides old.log i answer) refl refl in
        landed_well stands within b refl spent.stands spent.only (be_stays t.leaves t.size) (well_on i t.leaves b.well) t.arrived t.settled

    pub well_attempted : IsWellLanded i old new
    well_attempted = let t = is_tried (abandoned old.log) (decides old.log i answer) refl refl in record { fed = ap (λ (r : Run). r.out_of_memory) t.leaves.run; state = well_on i t.leaves b.well }

    pub attempt_behind : OnlyAdds (ComesBehind i) (entry.Attempt i (joined (at old.log (Held i))) (take sent all.value) answer ∷ old.log) new.log
    attempt_behind = rw (stands_at old.log (Held i) stands.legal) at ((is_tried (abandoned old.log) (decides old.log i answer) refl refl).behind)

  -- A READ
  module _ {took : Turned} (mid : EngineState P) (b : IsBackWith observe old i task (done.Read took))
      (noted : IsSomeAnd (reading_of took) (λ reading. HasNotedRead observe (is_none (cut_of took)) i (entry.Read i reading.stream reading.took) old mid)) where
    found : (reading : Reading) × ((reading_of took ≡ Some reading) × HasNotedRead observe (is_none (cut_of took)) i (entry.Read i reading.stream reading.took) old mid)
    found = some_of (λ reading. HasNotedRead observe (is_none (cut_of took)) i (entry.Read i reading.stream reading.took) old mid) (reading_of took) noted

    abbrev read : Record
    read = entry.Read i found.0.stream found.0.took ∷ old.log

    log : mid.log ≡ read
    log = found.1.1.steps.noted

    observed : IsObserved (observe task.port) read i
    observed = rw (entry_of old.log i took found.1.0) at b.observed

    be : LeavesBe i old mid
    be =
        let is = found.1.1 in
        record { size = is.steps.size; capacities = is.leaves.capacities; run = is.leaves.run; others = others_one (staying.HasRead (is_none (cut_of took))) i old.states mid.states is.leaves.states }

    -- the turn, and nothing behind it
    pub nothing_behind : {new : Record} → new ≡ mid.log → OnlyAdds (ComesBehind i) (turn_entry old.log i took ∷ old.log) new
    nothing_behind {new} same = adds_none (ComesBehind i) (turn_entry old.log i took ∷ old.log) new (rw (same, log, entry_of old.log i took found.1.0) refl)

    -- no memory was found to cut it
    pub landed_uncut : {new : EngineState P} → cut_of took ≡ None → IsMarked observe NowOwes i mid new → HasLanded observe i task old new
    landed_uncut cuts marked =
        landed_marked stands within b log found.1.1.steps.stands found.1.1.only be marked b.out
        (back_owing stands within b (marked.log ∙ log) marked.stands observed (role_uncut task.role read old.log i took found.0 found.1.0 cuts b.acted.come b.fit) b.unclosed
        (carried_one (λ state. (state.facts.starved ≡ false) × (state.facts.behind ≡ true)) (IsOwing task) marked.states
        (carried_one IsWellAt (λ state. (state.facts.starved ≡ false) × (state.facts.behind ≡ true)) found.1.1.leaves.states b.well
        (λ was is reads well. (reads.starved ∙ well.fed, rw cuts at reads.behind)))
        (λ was is now lost. rw now (record { owing = refl; fed = lost.0; fit = λ counted. let not = lost.1 in cc }))))

    module _ {cut : Cut} (cuts : cut_of took ≡ Some cut) where
      taken : HasCome read i task.role × (IsCutOf old.log i found.0.stream found.0.took cut × (is_unfit task.role ≡ false))
      taken = role_cut task.role old.log i took found.0 cut found.1.0 cuts b.acted.come b.fit

      well_mid : IfSome (slice_get mid.states i) IsWellAt
      well_mid = carried_one IsWellAt IsWellAt found.1.1.leaves.states b.well
          (λ was is reads well. record { settled = reads.owing ∙ well.settled; counted = (rw cuts at reads.behind) ∙ well.counted; fed = reads.starved ∙ well.fed })

      pub yields : {stream : ℕ} → IsSomeAnd (reading_of took) (λ reading. reading.stream ≡ stream) → 0 < length cut.events →
          yield mid.log i ≡ Some (record { events = cut.events; stream = stream; end = cut.end })
      yields of some = rw log (yields_cut old.log i found.0 cut (rw found.1.0 at of) taken.1.0 some)

      -- no batch was to be born
      unyielding : (cut.events ≡ []) ⊎ (abandoned mid.log ≡ true) → cause_of read ≡ None → owes read i ≡ false
      unyielding (inl none) going = owes_barren old.log i found.0.stream found.0.took (sym taken.1.0.events ∙ none) (owes_before b refl)
      unyielding (inr over) going = let not = unabandoned read going in let is = rw log at over in cc

      pub landed_cut : {stream : ℕ} {new : EngineState P} → HasCreatedCutBatch observe i stream cut mid new → Leaves mid new → length new.states ≡ length mid.states →
          HasLanded observe i task old new
      landed_cut {stream} (inl barren) leaves size =
          rw barren.1 (landed_well stands within b log found.1.1.steps.stands found.1.1.only be well_mid
          (record { out = b.out; observed = observed; come = taken.0; answered = b.answered; kept = λ going. b.remembers; shut = λ closed. cc; fit = taken.1.1 }) (unyielding barren.0))
      landed_cut {stream} (inr created) leaves size =
          let next = next_copy mid.log in
          let e = entry.Born i next next (counting next (length cut.events)) cut.events (must_wait mid.log i) stream cut.end in
          landed_well stands within b (created.1.noted ∙ ap (λ (h : Record). e ∷ h) log) created.1.stands (adds_step found.1.1.only (for_own e i mid.log refl) created.1)
          (be_both be (be_stays leaves size)) (well_on i leaves well_mid)
          (record {
            out = b.out;
            observed = observed_mute (observe task.port) read e i tt observed;
            come = come_mute task.role read e i tt taken.0;
            answered = b.answered;
            kept = λ going. b.remembers;
            shut = λ closed. cc;
            fit = taken.1.1;
          })
          (λ going. owes_created old.log i found.0.stream found.0.took next next (counting next (length cut.events)) cut.events (must_wait mid.log i) stream cut.end (owes_before b refl))

      pub well_cut : {new : EngineState P} → Leaves mid new → IsWellLanded i old new
      well_cut leaves = record { fed = ap (λ (r : Run). r.out_of_memory) (leaves.run ∙ be.run); state = well_on i leaves well_mid }

      pub born_behind : {stream : ℕ} {new : EngineState P} → HasCreatedCutBatch observe i stream cut mid new →
          OnlyAdds (ComesBehind i) (turn_entry old.log i took ∷ old.log) new.log
      born_behind (inl barren) = nothing_behind (ap (λ (engine : EngineState P). engine.log) barren.1)
      born_behind (inr created) = adds_step (nothing_behind refl) refl created.1

      -- it couldn't be
      pub landed_unborn : {new : EngineState P} → Stands observe new → new.log ≡ mid.log → length new.states ≡ length mid.states → SameCapacities mid.places new.places →
          new.run ≡ mid.run → IsOwingNow i mid.states new.states → HasLanded observe i task old new
      landed_unborn {new} now same size capacities run owing =
          let marks = both_are Owes (slice_get mid.states i) (slice_get new.states i) owing.one in
          landed_by stands within b (same ∙ log) now (rw same found.1.1.only)
          (lands (be_both be (record { size = size; capacities = capacities; run = run; others = owing.others }))
          (carried Owes IsWellAt IsFedAt (slice_get mid.states i) (slice_get new.states i) marks well_mid
          (λ was is owes well. record { counted = owes.counted ∙ well.counted; fed = owes.fed ∙ well.fed })))
          b.out
          (back_owing stands within b (same ∙ log) now observed taken.0 b.unclosed
          (carried Owes IsWellAt (IsOwing task) (slice_get mid.states i) (slice_get new.states i) marks well_mid
          (λ was is owes well. record { owing = owes.owing; fed = owes.fed ∙ well.fed; fit = λ counted. taken.1.1 })))
          (λ fed. record { settled = settled_read old.log i found.0.stream found.0.took (settled_by old.log i (work_entries_none old.log i b.settled).spends); observed = b.answered })

      -- for which the run may be given up
      pub lacks : (stream : ℕ) {new : Record} (short : Short) → IsSomeAnd (reading_of took) (λ reading. reading.stream ≡ stream) → new ≡ mid.log →
          IsBirthShort mid.log (length cut.events) short → LacksBirth new short
      lacks stream short of same is =
          rw (same, log) (lacks_birth old.log i found.0.stream found.0.took (record { events = cut.events; stream = stream; end = cut.end }) short (rw log at found.1.1.steps.stands.legal)
          (yields_cut old.log i found.0 cut (rw found.1.0 at of) taken.1.0) (rw log at is))
