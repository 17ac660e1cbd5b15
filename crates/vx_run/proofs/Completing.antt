-- What a run says in which nothing failed and nothing was refused.
use Rattle.std.proofs.Common.{◌≡◌, ◌∙◌, ◌⊎◌, inl, inr, ℕ, zero, suc, ◌+◌, ◌<◌, ◌≤◌, Bool, true, false, List, [], ◌∷◌, ◌++◌, length, Option, Some, None, Ok, Err, append_assoc, refl, sym, ap, subst, arith}
use Rattle.std.specs.Prelude.{◌||◌, ◌&&◌, ◌==◌, not, if◌then◌else◌, IsSomeAnd, slice_get}
use Rattle.std.proofs.lemmas.Bool.{cases_eq, eqb-true}
use Rattle.std.proofs.lemmas.Bool.Decides.{nat_tests}
use Rattle.vx_value.specs.Texts.{ByteString}
use Rattle.vx_value.specs.declared.variable.Variable.{Variable}
use Rattle.vx_ends.specs.Observation.{Observation}
use Rattle.vx_ends.specs.Texts.{text_at}
use Rattle.vx_ends.specs.declared.world.Config.{Config}
use Rattle.vx_ends.specs.declared.position.Position.{Position}
use Rattle.vx_ends.specs.declared.trouble.Reply.{Reply}
use Rattle.vx_ends.specs.declared.trouble.Reply.TheVariants as reply
use Rattle.vx_status.specs.declared.outcome.Outcome.{Outcome}
use Rattle.vx_status.specs.declared.outcome.Outcome.TheVariants as outcome
use Rattle.vx_status.specs.declared.event_status.EventStatus.TheVariants as event
use Rattle.vx_status.specs.declared.batch_status.BatchStatus.{BatchStatus}
use Rattle.vx_status.specs.declared.batch_status.BatchStatus.TheVariants as batch
use Rattle.vx_status.specs.Tables.{status_of, batch_update}
use Rattle.vx_plan.specs.declared.component.Component.{Component}
use Rattle.vx_plan.specs.declared.plan.Plan.{Plan}
use Rattle.vx_plan.specs.Components.{is_source, is_sink}
use Rattle.vx_reading.specs.Conditions.{NoneRefusable}
use Rattle.vx_reading.specs.Reading.{IsReading}
use Rattle.vx_reading.specs.declared.plan_fault.PlanFault.{PlanFault}
use Rattle.vx_reading.specs.declared.plan_fault.PlanFault.TheVariants as plan_fault
use Rattle.vx_record.specs.declared.abandon_cause.AbandonCause.{AbandonCause}
use Rattle.vx_record.specs.declared.abandon_cause.AbandonCause.TheVariants as cause
use Rattle.vx_record.specs.declared.entry.Entry.{Entry}
use Rattle.vx_record.specs.declared.entry.Entry.TheVariants as entry
use Rattle.vx_record.specs.Records.{Record, capped}
use Rattle.vx_record.specs.Abandoning.{abandoned}
use Rattle.vx_record.specs.Batches.{batch_of}
use Rattle.vx_record.specs.Ceasing.{cause_of, lost_at}
use Rattle.vx_record.specs.Confirms.{is_unconfirmed, is_confirm_due}
use Rattle.vx_record.specs.Copies.{contains}
use Rattle.vx_record.specs.Installs.{in_force, component_of, source_at, sink_at}
use Rattle.vx_record.specs.Lists.{is_bare}
use Rattle.vx_record.specs.Routing.{is_dry}
use Rattle.vx_record.specs.Routing.{is_sent}
use Rattle.vx_record.specs.Legal.{IsLegal, Follows}
use Rattle.vx_record.specs.Owing.{owes, all_noticed, is_done, is_source_done, is_worker_done}
use Rattle.vx_record.specs.PortCounts.{is_refused, faults_in, refusals_in, fault_count, refusal_count}
use Rattle.vx_record.specs.SinkBatches.{is_failed, failures_with}
use Rattle.vx_record.specs.Spending.{HasCause, last_reply}
use Rattle.vx_record.specs.Statuses.{running}
use Rattle.vx_record.specs.Wirings.{begun}
use Rattle.vx_record.proofs.Ceasing.{unabandoned}
use Rattle.vx_record.proofs.OnePlace.{legal_before}
use Rattle.vx_record.proofs.LegalNotices.{running_status}
use Rattle.vx_record.proofs.Wired.{component_in_place}
use Rattle.vx_hub.specs.Remains.{AreNumbered, AreObservedButGiven}
use Rattle.vx_hub.proofs.Running.{same_run}
use Rattle.vx_hub.specs.declared.parts.Numbered.{Numbered}
use Rattle.vx_hub.specs.Reporting.{IsNameOf}
use Rattle.vx_cli.specs.Commands.{IsCommand, IsNoCommand, IsRun, has_once, has_stats}
use Rattle.vx_cli.specs.declared.command.Command.{Command}
use Rattle.vx_cli.specs.declared.command.Command.TheVariants.{Run, Validate}
use Rattle.vx_cli.specs.declared.fault.Fault.{Fault}
use Rattle.vx_cli.specs.declared.fault.Fault.TheVariants.{Usage, ConfigRead, ConfigRefused, UnknownHost, Numbers, SourceFailed, ConfirmFailed, PrintFailed, WantOfMemory}
use Rattle.vx_run.specs.Answers.{IsAnswer, IsRefused, IsUnhosted, WentOn}
use Rattle.vx_run.specs.Hosting.{AllKnown, IsLeastUnknown}
use Rattle.vx_run.specs.Completeness.{NoneFailed, NumbersSuffice, IsFaultless, IsHostless, IsRefusedAnew, HasEndedWell, PrintBlames, ErroredBlames, RejectedBlames, NoneDueAtEnd, has_failed, has_refused}
use Rattle.vx_run.proofs.Hosted.{none_least}
use Rattle.vx_run.specs.Running.{Began, HasAll, IsInstalled, IsOnlyJudged, IsUnbegun, NoneMissing}

-- WHAT IS BLAMED
or_later : (a r : Bool) → r ≡ true → (a || r) ≡ true
or_later true r on = refl
or_later false r on = on

one_of : (a b f r : Bool) (n : ℕ) → 0 < n + (if a && b && f then 1 else 0) → (0 < n → r ≡ true) → (f || r) ≡ true
one_of a b true r n some before = refl
one_of true true false r n some before = before (omega (arith, some))
one_of true false false r n some before = before (omega (arith, some))
one_of false b false r n some before = before (omega (arith, some))

failed_once : (h : Record) (i c : ℕ) → 0 < failures_with h i c → has_failed h ≡ true
failed_once [] i c some = absurd (omega (arith, some))
failed_once (entry.Attempt j copies bytes answer ∷ h) i c some = one_of (j == i) (contains copies c) (is_failed answer) (has_failed h) (failures_with h i c) some (failed_once h i c)
failed_once (e ∷ h) i c some = failed_once h i c some

refused_once : (h : Record) (i : ℕ) → last_reply h i ≡ Some reply.Refused → has_refused h ≡ true
refused_once [] i was = cc
refused_once (entry.Attempt j copies bytes answer ∷ h) i was = go (j == i) (refused_once h i) was
  where
    go : (b : Bool) → (last_reply h i ≡ Some reply.Refused → has_refused h ≡ true) → (if b then Some answer else last_reply h i) ≡ Some reply.Refused → (is_refused answer || has_refused h) ≡ true
    go true before is = let so : answer ≡ reply.Refused = cc in ap (λ (a : Reply). is_refused a || has_refused h) so
    go false before is = or_later (is_refused answer) (has_refused h) (before is)
refused_once (e ∷ h) i was = refused_once h i was

abbrev Blamed : Record → BatchStatus → Type 0
Blamed h status = (status ≡ batch.Errored → has_failed h ≡ true) × (status ≡ batch.Rejected → has_refused h ≡ true)

by_good : (h : Record) (r : BatchStatus) → Blamed h r → Blamed h (batch_update r event.Delivered) × Blamed h (batch_update r event.Dropped)
by_good h batch.Delivered was = (was, was)
by_good h batch.Errored was = (was, was)
by_good h batch.Rejected was = (was, was)

by_failed : (h : Record) (r : BatchStatus) → has_failed h ≡ true → Blamed h r → Blamed h (batch_update r event.Errored)
by_failed h batch.Delivered failed was = (λ is. failed, λ is. cc)
by_failed h batch.Errored failed was = was
by_failed h batch.Rejected failed was = was

by_refused : (h : Record) (r : BatchStatus) → has_refused h ≡ true → Blamed h (batch_update r event.Rejected)
by_refused h batch.Delivered refused = (λ is. cc, λ is. refused)
by_refused h batch.Errored refused = (λ is. cc, λ is. refused)
by_refused h batch.Rejected refused = (λ is. cc, λ is. refused)

-- a spend, whatever its outcome, in a run that wasn't given up
by_spend : (h : Record) (i c b : ℕ) (o : Outcome) → abandoned h ≡ false → HasCause h i c o → Blamed h (running h b) →
    Blamed h (if batch_of h c == b then batch_update (running h b) (status_of o) else running h b)
by_spend h i c b o going cause was = go (batch_of h c == b) o cause
  where
    go : (t : Bool) (how : Outcome) → HasCause h i c how → Blamed h (if t then batch_update (running h b) (status_of how) else running h b)
    go false how why = was
    go true outcome.Delivered why = (by_good h (running h b) was).0
    go true outcome.Filtered why = (by_good h (running h b) was).1
    go true outcome.NewestDropped why = (by_good h (running h b) was).1
    go true outcome.NoConsumer why = (by_good h (running h b) was).1
    go true outcome.Attempts why = by_failed h (running h b) (failed_once h i c (omega (arith, why))) was
    go true outcome.Refusal why = by_refused h (running h b) (refused_once h i why.answered)
    go true outcome.Abandoned why = let contrary : true ≡ false = sym why.0 ∙ going in cc

blamed : (h : Record) (b : ℕ) → IsLegal h → cause_of h ≡ None → Blamed h (running h b)
blamed [] b legal going = (λ is. cc, λ is. cc)
blamed (entry.Spent i c o ∷ h) b legal going = by_spend h i c b o (unabandoned h going) legal.0.row.cause (blamed h b legal.1 going)
blamed (entry.Attempt i copies bytes answer ∷ h) b legal going =
    let was = blamed h b legal.1 going in
    (λ is. or_later (is_failed answer) (has_failed h) (was.0 is), λ is. or_later (is_refused answer) (has_refused h) (was.1 is))
blamed (entry.Abandon cause ∷ h) b legal going = cc
blamed (e ∷ h) b legal going = blamed h b legal.1 going

-- before a part of the record
going_before : (later earlier : Record) → cause_of (later ++ earlier) ≡ None → cause_of earlier ≡ None
going_before [] earlier going = going
going_before (entry.Abandon cause ∷ later) earlier going = cc
going_before (e ∷ later) earlier going = going_before later earlier going

-- a notice has the status of its batch, which blames what it has to
noticed : (later earlier : Record) (b : ℕ) (status : BatchStatus) → IsLegal (later ++ entry.Notice b status ∷ earlier) → WentOn (later ++ entry.Notice b status ∷ earlier) → Blamed earlier status
noticed later earlier b status legal going =
    let all = legal_before later (entry.Notice b status ∷ earlier) legal in
    let was = blamed earlier b all.1 (going_before later (entry.Notice b status ∷ earlier) going) in
    subst (Blamed earlier) (running_status earlier b all.1 ∙ sym all.0.row.folded) was

pub errored_blames : ErroredBlames
errored_blames h later earlier b is legal going = (noticed later earlier b batch.Errored (subst IsLegal (sym is) legal) (subst WentOn (sym is) going)).0 refl

pub rejected_blames : RejectedBlames
rejected_blames h later earlier b is legal going = (noticed later earlier b batch.Rejected (subst IsLegal (sym is) legal) (subst WentOn (sym is) going)).1 refl

-- AT A SOURCE'S END
last_is : (a b c d e : Bool) → (a && b && c && d && not e) ≡ true → e ≡ false
last_is true true true true false on = refl
last_is true true true true true on = cc
last_is true true true false e on = cc
last_is true true false d e on = cc
last_is true false c d e on = cc
last_is false b c d e on = cc

done_undue : (h : Record) (i : ℕ) → source_at h i ≡ true → is_done h i ≡ true → is_confirm_due h i ≡ false
done_undue h i source done = last_is (is_dry h i) (not (owes h i)) (is_sent h i) (all_noticed h i) (is_confirm_due h i) (subst (λ (b : Bool). (if b then is_source_done h i else is_worker_done h i) ≡ true) source done)

pub none_due_at_end : NoneDueAtEnd
none_due_at_end h later earlier i is legal going source =
    let all = legal_before later (entry.Retired i ∷ earlier) (subst IsLegal (sym is) legal) in
    let on = unabandoned earlier (going_before later (entry.Retired i ∷ earlier) (subst WentOn (sym is) going)) in
    go on all.0.row.over
  where
    go : abandoned earlier ≡ false → (is_done earlier i ≡ true) ⊎ ((abandoned earlier ≡ true) × (is_bare earlier i ≡ true)) → is_confirm_due earlier i ≡ false
    go on (inl done) = done_undue earlier i source done
    go on (inr over) = let contrary : true ≡ false = sym over.0 ∙ on in cc

-- COUNTS OF NONE
lost_none : (h : Record) (i : ℕ) → fault_count h i ≡ 0 → lost_at h i ≡ None
lost_none [] i none = refl
lost_none (entry.SourceLost j at failed ∷ h) i none = go (j == i) (lost_none h i) none
  where
    go : (b : Bool) → (fault_count h i ≡ 0 → lost_at h i ≡ None) → fault_count h i + (if b then 1 else 0) ≡ 0 → (if b then Some at else lost_at h i) ≡ None
    go true before is = absurd (omega (arith, is))
    go false before is = before (omega (arith, is))
lost_none (e ∷ h) i none = lost_none h i (omega (arith, none))

confirmed_all : (h : Record) (i : ℕ) → fault_count h i ≡ 0 → is_unconfirmed h i ≡ false
confirmed_all [] i none = refl
confirmed_all (entry.Confirm j positions made ∷ h) i none = go (j == i) made (confirmed_all h i) none
  where
    go : (b m : Bool) → (fault_count h i ≡ 0 → is_unconfirmed h i ≡ false) → fault_count h i + (if b && not m then 1 else 0) ≡ 0 → (if b then not m else is_unconfirmed h i) ≡ false
    go true true before is = refl
    go true false before is = absurd (omega (arith, is))
    go false m before is = before (omega (arith, is))
confirmed_all (e ∷ h) i none = confirmed_all h i (omega (arith, none))

-- where no port tells of one, the record has none
abbrev NoneCounted : Record → ℕ → Type 0
NoneCounted h i = (fault_count h i ≡ 0) × (refusal_count h i ≡ 0)

counted_by : (observed : Observation) (h : Record) (i : ℕ) → observed.faults ≡ 0 → observed.refusals ≡ 0 → capped (fault_count h i) ≤ observed.faults → capped (refusal_count h i) ≤ observed.refusals → NoneCounted h i
counted_by observed h i faults refusals few none = (omega (arith, faults, few), omega (arith, refusals, none))

module _ {P : Type 0} (observe : P → Observation) (h : Record) where
  none_counted : (k : ℕ) (ports : List (Numbered P)) → NoneFailed observe ports → AreObservedButGiven observe h ports → AreNumbered k ports → (i : ℕ) → k ≤ i → i < k + length ports → NoneCounted h i
  none_counted k [] none observed numbers i from below = absurd (omega (arith, from, below))
  none_counted k (n ∷ ns) none observed numbers i from below = elim (cases_eq i k) [
    | inl same ↦ subst (NoneCounted h) (numbers.0 ∙ sym same) (counted_by (observe n.port) h n.instance none.0 none.1 observed.0.faults.least observed.0.refusals.least)
    | inr other ↦ none_counted (k + 1) ns none.2 observed.1 numbers.1 i (omega (arith, from, other)) (omega (arith, below))
  ]

-- WHO COUNTS
-- an instance that the plan in force doesn't have counts nothing
past : (plan : Plan) (h : Record) (i : ℕ) → IsLegal h → in_force h ≡ Some plan → length plan.components ≤ i → component_of h i ≡ None
past plan h i legal force beyond = component_in_place h plan i legal force ∙ none_there plan.components i beyond
  where
    none_there : (cs : List Component) (k : ℕ) → length cs ≤ k → slice_get cs k ≡ None
    none_there [] k l = refl
    none_there (c ∷ cs) zero l = absurd (omega (arith, l))
    none_there (c ∷ cs) (suc k) l = none_there cs k (omega (arith, l))

no_source : (h : Record) (i : ℕ) → component_of h i ≡ None → source_at h i ≡ false
no_source h i none = ap (λ (o : Option Component). elim o [ None ↦ false | Some c ↦ is_source c ]) none

no_sink : (h : Record) (i : ℕ) → component_of h i ≡ None → sink_at h i ≡ false
no_sink h i none = ap (λ (o : Option Component). elim o [ None ↦ false | Some c ↦ is_sink c ]) none

-- of another instance, or of none that there isn't
off_or : (At : ℕ → Type 0) (j i : ℕ) (more : Bool) → At j → (At i → ⊥) → ◌≡◌ {A = ℕ} (if (j == i) && more then 1 else 0) 0
off_or At j i more at none = go (j == i) refl
  where
    go : (b : Bool) → (j == i) ≡ b → ◌≡◌ {A = ℕ} (if b && more then 1 else 0) 0
    go true same = absurd (none (subst At (eqb-true j i same) at))
    go false other = refl

module _ (h : Record) (i : ℕ) (none : component_of h i ≡ None) where
  sinks_none : sink_at h i ≡ true → ⊥
  sinks_none on = let contrary : true ≡ false = sym on ∙ no_sink h i none in cc

  sources_none : source_at h i ≡ true → ⊥
  sources_none on = let contrary : true ≡ false = sym on ∙ no_source h i none in cc

  row_counts : (e : Entry) → Follows h e → (faults_in i e ≡ 0) × (refusals_in i e ≡ 0)
  row_counts (entry.Attempt j copies bytes answer) follows =
      (off_or (λ k. sink_at h k ≡ true) j i (is_failed answer) follows.row.sink sinks_none, off_or (λ k. sink_at h k ≡ true) j i (is_refused answer) follows.row.sink sinks_none)
  row_counts (entry.Confirm j positions made) follows = (off_or (λ k. source_at h k ≡ true) j i (not made) follows.row.source sources_none, refl)
  row_counts (entry.Idle j failed) follows = (off_or (λ k. source_at h k ≡ true) j i failed follows.row.turn.source sources_none, refl)
  row_counts (entry.SourceLost j at failed) follows = (go (j == i) refl, refl)
    where
      go : (b : Bool) → (j == i) ≡ b → ◌≡◌ {A = ℕ} (if b then 1 else 0) 0
      go true same = absurd (sources_none (subst (λ k. source_at h k ≡ true) (eqb-true j i same) follows.row.turn.source))
      go false other = refl
  row_counts e follows = (refl, refl)

module _ (plan : Plan) (once : Bool) (moment : ℕ) where
  abbrev first : Record
  first = begun plan once moment

  beyond_none : (es : List Entry) → IsLegal (es ++ first) → (i : ℕ) → length plan.components ≤ i → NoneCounted (es ++ first) i
  beyond_none [] legal i l = (refl, refl)
  beyond_none (e ∷ es) legal i l =
      let before = beyond_none es legal.1 i l in
      let counts = row_counts (es ++ first) i (past plan (es ++ first) i legal.1 (same_run es first legal.1 refl).plan l) e legal.0 in
      (omega (arith, before.0, counts.0), omega (arith, before.1, counts.1))

began_none : (once : Bool) (plan : Plan) (h : Record) → Began once plan h → IsLegal h → (i : ℕ) → length plan.components ≤ i → NoneCounted h i
began_none once plan h began legal i l =
    subst (λ (r : Record). NoneCounted r i) (sym began.first.is) (beyond_none plan once began.moment began.first.added (subst IsLegal began.first.is legal) i l)

below_or : (a b : ℕ) → (a < b) ⊎ (b ≤ a)
below_or a b = grind arith

-- counts grow, and an attempt that failed is one
faults_before : (later earlier : Record) (i : ℕ) → fault_count earlier i ≤ fault_count (later ++ earlier) i
faults_before [] earlier i = omega arith
faults_before (e ∷ later) earlier i = let before = faults_before later earlier i in omega (arith, before)

refusals_before : (later earlier : Record) (i : ℕ) → refusal_count earlier i ≤ refusal_count (later ++ earlier) i
refusals_before [] earlier i = omega arith
refusals_before (e ∷ later) earlier i = let before = refusals_before later earlier i in omega (arith, before)

one_more : (n i : ℕ) (b : Bool) → b ≡ true → 0 < n + (if (i == i) && b then 1 else 0)
one_more n i b on = go (i == i) b (grind (arith, nat_tests)) on
  where
    go : (a c : Bool) → a ≡ true → c ≡ true → 0 < n + (if a && c then 1 else 0)
    go true true same is = omega arith
    go true false same is = cc
    go false c same is = cc

failing : (h : Record) → has_failed h ≡ true → (i : ℕ) × (0 < fault_count h i)
failing [] on = cc
failing (entry.Attempt j copies bytes answer ∷ h) on = go (is_failed answer) refl (failing h) on
  where
    go : (b : Bool) → is_failed answer ≡ b → (has_failed h ≡ true → (i : ℕ) × (0 < fault_count h i)) → (b || has_failed h) ≡ true → (i : ℕ) × (0 < fault_count (entry.Attempt j copies bytes answer ∷ h) i)
    go true is before either = (j, one_more (fault_count h j) j (is_failed answer) is)
    go false is before either = let found = before either in (found.0, let some = found.1 in omega (arith, some))
failing (e ∷ h) on = let found = failing h on in (found.0, let some = found.1 in omega (arith, some))

refusing : (h : Record) → has_refused h ≡ true → (i : ℕ) × (0 < refusal_count h i)
refusing [] on = cc
refusing (entry.Attempt j copies bytes answer ∷ h) on = go (is_refused answer) refl (refusing h) on
  where
    go : (b : Bool) → is_refused answer ≡ b → (has_refused h ≡ true → (i : ℕ) × (0 < refusal_count h i)) → (b || has_refused h) ≡ true → (i : ℕ) × (0 < refusal_count (entry.Attempt j copies bytes answer ∷ h) i)
    go true is before either = (j, one_more (refusal_count h j) j (is_refused answer) is)
    go false is before either = let found = before either in (found.0, let some = found.1 in omega (arith, some))
refusing (e ∷ h) on = let found = refusing h on in (found.0, let some = found.1 in omega (arith, some))

-- where none failed and none was refused, each notice says Delivered
all_delivered : {P : Type 0} (observe : P → Observation) (h : Record) (ports : List (Numbered P)) (once : Bool) (plan : Plan) → NoneFailed observe ports → IsLegal h → WentOn h → Began once plan h → HasAll ports plan →
    AreObservedButGiven observe h ports → AreNumbered 0 ports → (later earlier : Record) (b : ℕ) (status : BatchStatus) → later ++ entry.Notice b status ∷ earlier ≡ h → status ≡ batch.Delivered
all_delivered observe h ports once plan none legal going began all observed numbers later earlier b status is = go status (noticed later earlier b status (subst IsLegal (sym is) legal) (subst WentOn (sym is) going))
  where
    zero_at : (i : ℕ) → NoneCounted h i
    zero_at i = elim (below_or i (length ports)) [
      | inl below ↦ none_counted observe h 0 ports none observed numbers i (omega arith) (omega (arith, below))
      | inr beyond ↦ began_none once plan h began legal i (omega (arith, beyond, all))
    ]

    later_is : (s : BatchStatus) → later ++ entry.Notice b s ∷ earlier ≡ h → (i : ℕ) → (fault_count earlier i ≡ 0) × (refusal_count earlier i ≡ 0)
    later_is s same i =
        let faults = faults_before (later ++ entry.Notice b s ∷ []) earlier i in
        let refusals = refusals_before (later ++ entry.Notice b s ∷ []) earlier i in
        let here = subst (λ (r : Record). NoneCounted r i) (sym (append_assoc later (entry.Notice b s ∷ []) earlier ∙ same)) (zero_at i) in
        (omega (arith, faults, here.0), omega (arith, refusals, here.1))

    go : (s : BatchStatus) → Blamed earlier s → s ≡ batch.Delivered
    go batch.Delivered was = refl
    go batch.Errored was = let found = failing earlier (was.0 refl) in let none = (later_is status is found.0).0 in let some = found.1 in absurd (omega (arith, none, some))
    go batch.Rejected was = let found = refusing earlier (was.1 refl) in let none = (later_is status is found.0).1 in let some = found.1 in absurd (omega (arith, none, some))

-- THE ANSWER
-- a cause was told by an abandonment
caused : (h : Record) (cause : AbandonCause) → cause_of h ≡ Some cause → (later : Record) × ((earlier : Record) × (later ++ entry.Abandon cause ∷ earlier ≡ h))
caused [] cause is = cc
caused (entry.Abandon other ∷ h) cause is = ([], (h, let same : cause ≡ other = cc in ap (λ (c : AbandonCause). entry.Abandon c ∷ h) same))
caused (e ∷ h) cause is = let found = caused h cause is in (e ∷ found.0, (found.1.0, ap (λ (r : Record). e ∷ r) found.1.1))

-- so a run isn't given up for numbers that sufficed
numbers_suffice : (h : Record) (next wanted : ℕ) → IsLegal h → cause_of h ≡ Some (cause.Numbers next wanted) → NumbersSuffice h → ⊥
numbers_suffice h next wanted legal is suffice =
    let found = caused h (cause.Numbers next wanted) is in
    let earlier : Record = found.1.0 in
    let all = legal_before found.0 (entry.Abandon (cause.Numbers next wanted) ∷ earlier) (subst IsLegal (sym found.1.1) legal) in
    let why = all.0.row.reason in
    let few = suffice (found.0 ++ entry.Abandon (cause.Numbers next wanted) ∷ []) earlier wanted (append_assoc found.0 (entry.Abandon (cause.Numbers next wanted) ∷ []) earlier ∙ found.1.1) why.2 in
    let first = why.0 in let many = why.1 in omega (arith, few, first, many)

-- an instance whose component is known is one of the plan in force
within_plan : (h : Record) (plan : Plan) (i : ℕ) (name : ByteString) → IsLegal h → in_force h ≡ Some plan → IsNameOf h i name → i < length plan.components
within_plan h plan i name legal force named = elim (below_or i (length plan.components)) [
  | inl below ↦ below
  | inr beyond ↦ absurd (subst (λ (o : Option Component). IsSomeAnd o (λ (c : Component). name ≡ c.name)) (past plan h i legal force beyond) named)
]

module _ {P : Type 0} (observe : P → Observation) (words : List ByteString) (environment : List Variable) (names : List ByteString) (configs : List Config) (before now was is : ℕ) (h : Record) (ports : List (Numbered P))
    (one : (all : List ByteString) (a b : Command) → IsCommand all a → IsCommand all b → a ≡ b) (apart : (all : List ByteString) (command : Command) → IsNoCommand all → IsCommand all command → ⊥)
    (one_plan : (around : List Variable) (bytes : ByteString) (p q : Plan) → IsReading around bytes (Ok p) → IsReading around bytes (Ok q) → p ≡ q)
    (reads_apart : (around : List Variable) (bytes : ByteString) (plan : Plan) (fault : PlanFault) → NoneRefusable plan.components → IsReading around bytes (Ok plan) → IsReading around bytes (Err fault) → fault ≡ plan_fault.WantOfMemory)
    (faultless : IsFaultless observe words environment configs before now was is h ports) (legal : IsLegal h) (observed : AreObservedButGiven observe h ports) (numbers : AreNumbered 0 ports) where
  counts_none : (i : ℕ) (name : ByteString) → IsNameOf h i name → IsSomeAnd (in_force h) (HasAll ports) → fault_count h i ≡ 0
  counts_none i name named all = go (in_force h) refl all
    where
      go : (o : Option Plan) → in_force h ≡ o → IsSomeAnd o (HasAll ports) → fault_count h i ≡ 0
      go None force none = absurd none
      go (Some plan) force each =
          let within = within_plan h plan i name legal force named in
          (none_counted observe h 0 ports faultless.none_failed observed numbers i (omega arith) (omega (arith, within, each))).0

  -- what the words ask for
  asked : IsCommand words (Run faultless.file (has_once words) (has_stats words))
  asked = (faultless.asked, (refl, refl))

  same_file : (file : ByteString) → IsRun words file → file ≡ faultless.file
  same_file file runs = let same : Run file (has_once words) (has_stats words) ≡ Run faultless.file (has_once words) (has_stats words) = one words (Run file (has_once words) (has_stats words)) (Run faultless.file (has_once words) (has_stats words)) (runs, (refl, refl)) asked in cc

  unjudging : (file : ByteString) → IsCommand words (Validate file) → ⊥
  unjudging file judge = let no : Validate file ≡ Run faultless.file (has_once words) (has_stats words) = one words (Validate file) (Run faultless.file (has_once words) (has_stats words)) judge asked in cc

  unrefused : NoneRefusable faultless.plan.components → (fault : PlanFault) → IsRefused words environment (Some configs) fault → ⊥
  unrefused sure fault refused = go refused.asked
    where
      same_text : refused.file ≡ faultless.file → ⊥
      same_text same =
          let here : Some refused.refused.bytes ≡ Some faultless.bytes = sym refused.refused.text ∙ ap (text_at configs) same ∙ faultless.text in
          let bytes : refused.refused.bytes ≡ faultless.bytes = cc in
          refused.refused.found (reads_apart environment faultless.bytes faultless.plan fault sure faultless.read (subst (λ (w : ByteString). IsReading environment w (Err fault)) bytes refused.refused.read))

      go : IsRun words refused.file ⊎ IsCommand words (Validate refused.file) → ⊥
      go (inl run) = same_text (same_file refused.file run)
      go (inr judge) = unjudging refused.file judge

  -- a plan that the words' file stands for is that one
  same_unknown : (name : ByteString) → IsUnhosted words environment names (Some configs) name → IsLeastUnknown names faultless.plan.components name
  same_unknown name unhosted =
      let stands = unhosted.unknown.stands in
      let here : Some stands.bytes ≡ Some faultless.bytes = sym stands.text ∙ ap (text_at configs) (same_file unhosted.file unhosted.asked) ∙ faultless.text in
      let bytes : stands.bytes ≡ faultless.bytes = cc in
      let same : unhosted.unknown.plan ≡ faultless.plan =
      one_plan environment faultless.bytes unhosted.unknown.plan faultless.plan (subst (λ (w : ByteString). IsReading environment w (Ok unhosted.unknown.plan)) bytes stands.read) faultless.read in
      subst (λ (plan : Plan). IsLeastUnknown names plan.components name) same unhosted.unknown.unknown

  pub answers_well : (fault : Option Fault) → IsAnswer words environment names (Some configs) before now h fault → PrintBlames was is fault → NoneMissing words environment (Some configs) h ports fault →
      (fault ≡ None) ⊎ ((fault ≡ Some WantOfMemory) ⊎ (IsRefusedAnew faultless.plan.components fault ⊎ IsHostless names faultless.plan.components fault))
  answers_well None answer blames missing = inl refl
  answers_well (Some WantOfMemory) answer blames missing = inr (inl refl)
  answers_well (Some Usage) answer blames missing = absurd (apart words (Run faultless.file (has_once words) (has_stats words)) answer asked)
  answers_well (Some (ConfigRead path)) answer blames missing = absurd (faultless.reads answer.1)
  answers_well (Some (ConfigRefused fault)) answer blames missing = inr (inr (inl (λ sure. unrefused sure fault answer)))
  answers_well (Some (UnknownHost name)) answer blames missing = inr (inr (inr (same_unknown name answer)))
  answers_well (Some (Numbers next wanted)) answer blames missing = absurd (numbers_suffice h next wanted legal answer faultless.numbers)
  answers_well (Some (SourceFailed name at)) answer blames missing =
      let lost = answer.1.1 in
      let no : Some at ≡ None = sym lost.lost ∙ lost_none h answer.1.0 (counts_none answer.1.0 name lost.named missing) in cc
  answers_well (Some (ConfirmFailed name)) answer blames missing =
      let failed = answer.1.1.1 in
      let no : true ≡ false = sym failed.failed ∙ confirmed_all h answer.1.1.0 (counts_none answer.1.1.0 name failed.named missing) in cc
  answers_well (Some PrintFailed) (inl counted) blames missing = absurd (faultless.prints counted.0 (blames refl))
  answers_well (Some PrintFailed) (inr judged) blames missing = absurd (unjudging judged.0 judged.1)

-- and where each transform is handed in, none is wanting
pub hosted_well : (names : List ByteString) (components : List Component) (fault : Option Fault) → AllKnown names components → IsHostless names components fault → ⊥
hosted_well names components (Some (UnknownHost name)) known lacks = none_least names components name known lacks.there
hosted_well names components other known lacks = absurd lacks

-- THE END
module _ {P : Type 0} (observe : P → Observation) (words : List ByteString) (environment : List Variable) (names : List ByteString) (configs : List Config) (before now was is : ℕ) (h : Record) (ports : List (Numbered P))
    (one : (all : List ByteString) (a b : Command) → IsCommand all a → IsCommand all b → a ≡ b) (well : HasEndedWell observe words environment names configs before now was is h ports) where
  unjudged : IsOnlyJudged words environment (Some configs) h → ⊥
  unjudged judged =
      let run : Command = Run well.faultless.file (has_once words) (has_stats words) in
      let no : Validate judged.valid.file ≡ run = one words (Validate judged.valid.file) run judged.valid.asked (well.faultless.asked, (refl, refl)) in cc

  ran : (plan : Plan) × Began (has_once words) plan h
  ran = go well.installed
    where
      go : IsInstalled words environment (Some configs) h ⊎ IsOnlyJudged words environment (Some configs) h → (plan : Plan) × Began (has_once words) plan h
      go (inl installed) = (installed.plan, installed.began)
      go (inr judged) = absurd (unjudged judged)

  have_all : HasAll ports ran.0
  have_all = go well.none_missing
    where
      go : IsSomeAnd (in_force h) (HasAll ports) ⊎ (IsOnlyJudged words environment (Some configs) h × IsUnbegun h ports) → HasAll ports ran.0
      go (inl all) = subst (λ (o : Option Plan). IsSomeAnd o (HasAll ports)) ran.1.installed all
      go (inr judged) = absurd (unjudged judged.0)

  pub notices_well : (later earlier : Record) (b : ℕ) (status : BatchStatus) → later ++ entry.Notice b status ∷ earlier ≡ h → status ≡ batch.Delivered
  notices_well = all_delivered observe h ports (has_once words) ran.0 well.faultless.none_failed well.legal well.answer.0 ran.1 have_all well.observed well.numbers

  pub confirms_well : (later earlier : Record) (i : ℕ) (positions : List Position) (made : Bool) → later ++ entry.Confirm i positions made ∷ earlier ≡ h → made ≡ true
  confirms_well later earlier i positions made is = go made refl
    where
      none_at : NoneCounted h i
      none_at = elim (below_or i (length ports)) [
        | inl below ↦ none_counted observe h 0 ports well.faultless.none_failed well.observed well.numbers i (omega arith) (omega (arith, below))
        | inr beyond ↦ began_none (has_once words) ran.0 h ran.1 well.legal i (let all = have_all in omega (arith, beyond, all))
      ]

      go : (m : Bool) → made ≡ m → made ≡ true
      go true so = so
      go false so =
          let some = one_more (fault_count earlier i) i (not made) (ap not so) in
          let grown = faults_before later (entry.Confirm i positions made ∷ earlier) i in
          let here = (subst (λ (r : Record). NoneCounted r i) (sym is) none_at).0 in
          absurd (omega (arith, some, grown, here))
