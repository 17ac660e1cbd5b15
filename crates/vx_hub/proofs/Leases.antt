-- Which instance is leased, what it takes before its task leaves, and what is handed out.
use Rattle.std.proofs.Common.{◌≡◌, ◌≢◌, ◌∙◌, ℕ, ◌+◌, ◌<◌, ◌≤◌, ◌⊎◌, inl, inr, Bool, true, false, ◌&&◌, ◌||◌, List, ◌∷◌, length, Option, Some, None, IfSome, IsSome, IsSomeAnd, refl, sym, ap, arith}
use Rattle.std.specs.Prelude.{not, slice_get}
use Rattle.std.proofs.lemmas.Bool.{and_parts, cases_Bool, cases_eq, false_from_ne_true}
use Rattle.std.proofs.lemmas.List.{append-nil}
use Rattle.vx_value.specs.Filled.{Filled}
use Rattle.vx_value.specs.Texts.{is_empty}
use Rattle.vx_ends.specs.Observation.{Observation}
use Rattle.vx_ends.specs.declared.position.Position.{Position}
use Rattle.vx_ledger.specs.declared.parcel.Parcel.{Parcel}
use Rattle.vx_record.specs.declared.entry.Entry.{Entry}
use Rattle.vx_record.specs.declared.entry.Entry.TheVariants.{Lease, Take}
use Rattle.vx_record.specs.Records.{Record}
use Rattle.vx_record.specs.Abandoning.{abandoned}
use Rattle.vx_record.specs.Additions.{OnlyAdds}
use Rattle.vx_record.specs.Ceasing.{cause_of}
use Rattle.vx_record.specs.Confirms.{is_confirm_due}
use Rattle.vx_record.specs.Installs.{device_at, is_closed, is_retired, sink_at, transform_at}
use Rattle.vx_record.specs.Judges.{judge_at}
use Rattle.vx_record.specs.Legal.{Follows, IsLegal}
use Rattle.vx_record.specs.Lists.{held}
use Rattle.vx_record.specs.Makers.{IsBy}
use Rattle.vx_record.specs.Owing.{unspent_of, owes_spends_in, owes_discards, owes_answer, owes, is_done}
use Rattle.vx_record.specs.Places.Place.{Held}
use Rattle.vx_record.specs.Ready.{is_ready, is_close_due}
use Rattle.vx_record.specs.SinkBatches.{is_full_batch, is_timed_out, is_last_batch, was_attempted, is_batch_closed, retry_from}
use Rattle.vx_record.specs.Starting.{MayLease}
use Rattle.vx_record.specs.Tasks.{out_to}
use Rattle.vx_record.specs.Turns.{is_out, at_lease, lease_now}
use Rattle.vx_record.proofs.Adding.{carry, adds_none, adds_both, adds_narrower}
use Rattle.vx_record.proofs.Answerers.{sink_untransforming}
use Rattle.vx_record.proofs.Ceasing.{unabandoned}
use Rattle.vx_record.proofs.Lasting.{leased_unclosed, retired_final, unready}
use Rattle.vx_record.proofs.Shifting.{stands_at}
use Rattle.vx_record.proofs.SourceEnds.{source_done}
use Rattle.vx_counts.proofs.Once.{itself}
use Rattle.vx_places.specs.declared.row.Row.{Row}
use Rattle.vx_places.specs.Calls.{IsKept}
use Rattle.vx_places.specs.Capacities.{held_capacity, LendsCapacity}
use Rattle.vx_places.specs.Views.{row_at, here_if, held_items, parcels_here}
use Rattle.vx_places.proofs.Making.{held_says}
use Rattle.vx_tasks.specs.declared.task.Role.{Role}
use Rattle.vx_tasks.specs.declared.task.Role.TheVariants as role_is
use Rattle.vx_tasks.specs.declared.task.Task.{Task}
use Rattle.vx_tasks.specs.declared.work.Job.{Job}
use Rattle.vx_tasks.specs.declared.work.Job.TheVariants as job
use Rattle.vx_tasks.specs.Joining.{joins_at}
use Rattle.vx_tasks.specs.Unleased.{HasCome, HasKept, IsTaskOf}
use Rattle.vx_tasks.specs.Out.{IsIdle, IsHeld, MayAttemptNow, MayCloseNow, AreDue, is_unfit}
use Rattle.vx_instances.specs.declared.state.InstanceState.{InstanceState}
use Rattle.vx_instances.specs.Knowing.{HasUnleasedTask, IsTaskOfBut, IsKnown}
use Rattle.vx_instances.specs.Staying.{IsLeft}
use Rattle.vx_instances.proofs.Observing.{observed_mute, come_mute}
use Rattle.vx_moves.specs.declared.engine.EngineState.{EngineState}
use Rattle.vx_moves.specs.declared.run.Run.{Run}
use Rattle.vx_moves.specs.Leasing.{HasLent}
use Rattle.vx_moves.specs.Leaving.{Leaves}
use Rattle.vx_moves.specs.Capacities.{IsHeldLimitOf}
use Rattle.vx_moves.specs.Stands.{Stands, Steps}
use Rattle.vx_moves.specs.Taking.{MayTakeNow}
use Rattle.vx_moves.proofs.Keepers.{seen_alone}
use Rattle.vx_moves.proofs.Leaving.{each_stays}
use Rattle.vx_moves.proofs.Stepping.{follows}
use Rattle.vx_ready.specs.Asking.{IsServed, IsSettled, IsOpen}
use Rattle.vx_ready.specs.Jobs.{IsJob}
use Rattle.vx_ready.proofs.Closed.{closed_filled}
use Rattle.vx_ready.proofs.Emptied.{holds_none}
use Rattle.vx_ready.proofs.Knowing.{known, owes_none, state_there}
use Rattle.vx_landing.proofs.Lending.{lent_capacity, capacity_lent}
use Rattle.vx_landing.proofs.States.{not_same, well_stays}
use Rattle.vx_hub.specs.Collecting.{IsOut, IsCollecting, IsGathering, IsTakeOf, HasTaken}
use Rattle.vx_hub.specs.Leases.{MayGather, IsReadyFor, NoneFoundAt, NoneReady, HasGathered, HasHandedOut}
use Rattle.vx_hub.specs.Standing.{IsWell, IsWellAt, LentWhileOut}
use Rattle.vx_hub.proofs.Tasks.{keeps_task}
use Rattle.vx_hub.proofs.Fresh.{due_waited, leased_waited, taken_waited, taking_waited}
use Rattle.vx_hub.proofs.Endings.{unleased_is, retired_closed, settled_there}
use Rattle.vx_hub.proofs.Judging.{buffer_leased, owes_neither, discards_leased}
use Rattle.vx_hub.proofs.Resting.{adds_step, leaves_both}
use Rattle.vx_hub.proofs.Served.{done_unready}

-- WHERE NONE HAS WORK
module _ {P : Type 0} {observe : P → Observation} {engine : EngineState P} (stands : Stands observe engine)
    (well : IsWell engine) (kept : engine.run.abandoned ≡ None)
    (now : ℕ) (latest : engine.run.latest ≤ now) (i : ℕ) (within : i < length engine.states) (unleased : is_out engine.log i ≡ false) where
  going : abandoned engine.log ≡ false
  going = unabandoned engine.log (sym stands.run.cause ∙ kept)

  module _ (state : InstanceState P) (there : slice_get engine.states i ≡ Some state) where
    -- what is closed isn't leased, so it isn't ready
    closed_unready : is_closed engine.log i ≡ true → is_retired engine.log i ≡ false → is_ready engine.log i now ≡ false
    closed_unready closed unretired = false_from_ne_true (is_ready engine.log i now) (λ ready.
        let later = stands.run.later 0 in
        let still = going in
        let may : MayLease engine.log i 0 now 0 = record {
          unleased = unleased;
          unretired = unretired;
          settled = owes_none observe engine stands i state there (settled_there stands i there ((unleased_is stands i there).1 unleased) well kept);
          ready = inl ready;
          later = omega (arith, later, latest);
          unpolled = refl;
        } in
        let follow = follows (Lease i 0 now 0) engine.balance engine.log stands.balance may (λ given. cc) in
        let unclosed = leased_unclosed engine.log i 0 now 0 (follow, stands.legal) in cc)

    -- nor is what ended
    retired_unready : is_retired engine.log i ≡ true → (device_at engine.log i ≡ true) ⊎ (device_at engine.log i ≡ false) → is_ready engine.log i now ≡ false
    retired_unready retired (inl device) = unready engine.log i now stands.legal (retired_final engine.log i stands.legal going retired).done
        (retired_closed engine.log i stands.legal retired device)
    retired_unready retired (inr none) = done_unready engine.log i now stands.legal none (retired_final engine.log i stands.legal going retired).done

    none_at : (IsSettled engine i → IsOpen engine i → is_ready engine.log i now ≡ false) → is_ready engine.log i now ≡ false
    none_at none =
        let facts = (known observe engine stands i state there).facts in
        let w : IsWellAt state = rw there at (well.states i) in
        elim (cases_Bool (is_retired engine.log i)) [
          | inl retired ↦ retired_unready retired (cases_Bool (device_at engine.log i))
          | inr unretired ↦ elim (cases_Bool state.facts.closed) [
            | inl closed ↦ closed_unready (sym facts.closed ∙ closed) unretired
            | inr unclosed ↦ none (settled_there stands i there ((unleased_is stands i there).1 unleased) well kept)
                (rw there (assumption (unclosed, facts.retired ∙ unretired, w)))
          ]
        ]

-- so it is of one that was asked
pub none_ready_at : {P : Type 0} {observe : P → Observation} {engine : EngineState P} (now i : ℕ) → Stands observe engine → IsWell engine → engine.run.abandoned ≡ None →
    engine.run.latest ≤ now → i < length engine.states → is_out engine.log i ≡ false → (IsSettled engine i → IsOpen engine i → is_ready engine.log i now ≡ false) → is_ready engine.log i now ≡ false
none_ready_at {engine = engine} now i stands well kept latest within unleased none =
    let state = state_there engine.states i within in none_at stands well kept now latest i within unleased state.0 state.1 none

-- each instance below a number was asked
abbrev pub NoneBelow : {P : Type 0} → EngineState P → ℕ → ℕ → Type 0
NoneBelow engine now n = (i : ℕ) → i < n → NoneFoundAt engine now i

pub none_ready : {P : Type 0} {observe : P → Observation} {engine : EngineState P} (now n : ℕ) → Stands observe engine →
    engine.run.latest ≤ now → length engine.states ≤ n → NoneBelow engine now n → NoneReady engine now
none_ready {engine = engine} now n stands latest most below well kept i within unleased alone =
    let state = state_there engine.states i within in none_at stands well kept now latest i within unleased state.0 state.1 (λ settled usable. below i (omega (arith, within, most)) settled usable alone)

-- WHAT IS OWED
-- by a lease, or a take of a sink, an instance owes nothing more
owes_leased : (h : Record) (i worker now : ℕ) → owes (Lease i worker now 0 ∷ h) i ≡ owes h i
owes_leased h i worker now = simp (append-nil, owes_spends_in, unspent_of)

owes_taken : (h : Record) (i s : ℕ) (copies : List ℕ) → sink_at h i ≡ true → owes (Take i s copies ∷ h) i ≡ owes h i
owes_taken h i s copies sink = let off = sink_untransforming h i sink in simp (append-nil, off, owes_spends_in, unspent_of)

-- TAKES
pub kept_here : (rows : List Row) (i : ℕ) → IsKept rows i → IsSome (parcels_here rows (Held i))
kept_here rows i = go (row_at rows i)
  where
    line : (o : Option (Filled Parcel)) → IsSome o → IsSome (held_items o)
    line None is = cc
    line (Some held) is = refl

    go : (o : Option Row) → IsSomeAnd o (λ row. IsSome row.held) → IsSome (here_if (Held i) o)
    go None kept = absurd kept
    go (Some row) kept = line row.held kept

pub kept_at : (rows : List Row) (i : ℕ) → i < length rows → IsSome (parcels_here rows (Held i)) → IsKept rows i
kept_at rows i within = go (parcels_here rows (Held i)) refl
  where
    go : (o : Option (List Parcel)) → parcels_here rows (Held i) ≡ o → IsSome o → IsKept rows i
    go None there is = cc
    go (Some parcels) there is = (held_says rows i within).0 parcels there

-- so many were taken at the most
pub record HasCollected {P : Type 0} (observe : P → Observation) (i now taken : ℕ) (old new : EngineState P) : Type 0 where
  pub stands : Stands observe new
  pub served : IsServed new
  pub collecting : IsCollecting new i now taken
  pub only : OnlyAdds (IsTakeOf i) old.log new.log
  pub leaves : Leaves old new
  pub size : length new.states ≡ length old.states

module _ {P : Type 0} where
  pub may_take : {engine : EngineState P} {i now taken : ℕ} → taken < 64 → IsCollecting engine i now taken →
      is_batch_closed engine.log i now ≡ false → MayTakeNow engine.log i
  may_take {engine} {i} below collecting unclosed = record {
    going = unabandoned engine.log collecting.is.clear.going;
    out = collecting.is.out;
    only_takes = collecting.is.only_takes;
    few = let most = collecting.few in omega (arith, most, below);
    unclosed = λ sink. ap (is_batch_closed engine.log i) (sym collecting.is.moment) ∙ unclosed;
    unticked = λ transform. let plain = sink_untransforming engine.log i collecting.is.clear.sink in cc;
  }

  pub served_on : {old new : EngineState P} → IsServed old → new.run.plan ≡ old.run.plan → length new.states ≡ length old.states → IsServed new
  served_on served plan size = let few = served.few in record { served = rw plan served.served; few = omega (arith, few, size) }

  module _ {observe : P → Observation} where
    pub taken_one : {i now taken s : ℕ} {copies : List ℕ} {old new : EngineState P} → IsServed old →
        i < length old.states → IsCollecting old i now taken → Steps observe (Take i s copies) old new →
        Leaves old new → IsSome (parcels_here new.places (Held i)) → HasTaken observe i now taken old new
    taken_one {i} {now} {taken} {s} {copies} {old} {new} served within was steps leaves kept =
        let rows = steps.stands.size in let size = steps.size in let most = was.few in let u = was.is.clear in
        let collecting : IsCollecting new i now (taken + 1) = record {
          is = record {
            out = rw steps.noted was.is.out;
            moment = rw steps.noted was.is.moment;
            only_takes = rw (steps.noted, itself i) was.is.only_takes;
            clear = record {
              sink = rw steps.noted u.sink;
              settled = rw steps.noted (owes_taken old.log i s copies u.sink ∙ u.settled);
              going = rw steps.noted u.going;
            };
            waited = taken_waited old.log new.log i s now copies steps.noted steps.stands.legal;
            kept = kept_at new.places i (omega (arith, rows, size, within)) kept;
            unread = rw steps.noted tt;
          };
          few = rw steps.noted (omega (arith, most));
        } in
        assumption (collecting, served_on {new = new} served (ap (λ (r : Run). r.plan) leaves.run) steps.size, adds_step (IsTakeOf i) steps refl, leaves, steps)

    pub taken_none : {i now : ℕ} {engine : EngineState P} → Stands observe engine → IsServed engine →
        IsCollecting engine i now 0 → HasCollected observe i now 0 engine engine
    taken_none {i} {engine = engine} stands served collecting = assumption (adds_none (IsTakeOf i) engine.log engine.log refl, each_stays engine.states)

    pub taken_more : {i now taken : ℕ} {old mid new : EngineState P} → HasCollected observe i now taken old mid →
        HasTaken observe i now taken mid new → HasCollected observe i now (taken + 1) old new
    taken_more {i} {old = old} {mid} {new} some one =
        assumption (adds_both (IsTakeOf i) old.log mid.log new.log some.only one.only, leaves_both some.leaves one.leaves, one.size ∙ some.size, one)

-- WHEN A BATCH MAY BE ATTEMPTED
by_which : (some full timed last tried : Bool) → (some && (full || timed || last || tried)) ≡ true →
    ((full || timed || tried) ≡ true) ⊎ (last ≡ true)
by_which some full timed last tried e = grind arith

pub may_attempt : {P : Type 0} {observe : P → Observation} {engine : EngineState P} {i now : ℕ} → Stands observe engine →
    IsOut engine i now → is_batch_closed engine.log i now ≡ true → MayAttemptNow engine.log i
may_attempt {engine = engine} {i} {now} stands out closed =
    let h = engine.log in
    let at_lease : is_batch_closed h i (lease_now h i) ≡ true = ap (is_batch_closed h i) (sym out.moment) ∙ closed in
    let waited = out.waited (closed_filled h i now closed) in
    let moment = out.moment in
    record {
      sink = out.clear.sink;
      batch_closed = at_lease;
      stays = elim (by_which (not (is_empty (held h i))) (is_full_batch h i) (is_timed_out h i (lease_now h i))
          (is_last_batch h i) (was_attempted h i) at_lease) [
            | inl alone ↦ inl alone
            | inr last ↦ inr (last, out.unread)
          ];
      waited = omega (arith, waited, moment);
    }

-- WHAT A LEASE LEADS TO
still_kept : (old new : List Row) (j : ℕ) → j < length old → held_capacity new j ≡ held_capacity old j →
    IsSome (parcels_here old (Held j)) → IsSome (parcels_here new (Held j))
still_kept old new j within same some = go (parcels_here new (Held j)) refl
  where
    go : (o : Option (List Parcel)) → parcels_here new (Held j) ≡ o → IsSome o
    go (Some parcels) is = refl
    go None is = rw (capacity_lent old j within (sym same ∙ lent_capacity new j is)) at some

-- the task of a state that is taken along was unleased there
had_task : {P : Type 0} (task : Task P) (o n : Option (InstanceState P)) → IsSomeAnd o (λ was. IsSomeAnd n (λ is. IsLeft task was is)) → IsSomeAnd o (λ state. state.task ≡ Some task)
had_task task None n left = absurd left
had_task task (Some was) None left = absurd left
had_task task (Some was) (Some is) left = left.had

fits : (h : Record) (i : ℕ) (role : Role) → joins_at h i ≡ false → HasCome h i role → role ≢ role_is.Unfit → is_unfit role ≡ false
fits h i (role_is.Source core) alone come fit = refl
fits h i (role_is.Generator maker) alone come fit = refl
fits h i (role_is.Sink codec) alone come fit = refl
fits h i role_is.Blackhole alone come fit = refl
fits h i (role_is.Transform picker) alone come fit = refl
fits h i role_is.Merge alone come fit = let no = sym alone ∙ come in cc
fits h i role_is.Unfit alone come fit = absurd (fit refl)

come_of : {P : Type 0} (observe : P → Observation) (starved : Bool) (h : Record) (i : ℕ) (task : Task P) → IsTaskOfBut observe starved h i task → HasCome h i task.role
come_of observe true h i task is = is.1
come_of observe false h i task is = is.come

-- a state whose task left is well still, and what is leased while all is well is of use
left_says : {P : Type 0} (observe : P → Observation) (i : ℕ) (task : Task P) (h : Record) (o n : Option (InstanceState P)) →
    IsSomeAnd o (λ was. IsSomeAnd n (λ is. IsLeft task was is)) →
    joins_at h i ≡ false → IfSome o IsWellAt → IfSome o (λ state. IsKnown observe state h i) → IfSome n IsWellAt × (is_unfit task.role ≡ false)
left_says observe i task h None n left alone well known = absurd left
left_says observe i task h (Some was) None left alone well known = absurd left
left_says observe i task h (Some was) (Some is) left alone well known =
    let unleased : HasUnleasedTask observe was.facts h i task = rw left.had at known.unleased in
    (assumption (left.flags.owing ∙ well.settled, left.flags.behind ∙ well.counted, left.flags.starved ∙ well.fed), fits h i task.role alone (come_of observe was.facts.starved h i task unleased.task_is) (unleased.fit well.counted))

taken_by : (i worker : ℕ) (h : Record) (e : Entry) → Follows h e → IsTakeOf i h e → out_to h i ≡ Some worker →
    IsBy worker h e × (out_to (e ∷ h) i ≡ Some worker)
taken_by i worker h (Take j s copies) follows same out = (rw same out, out)
taken_by i worker h e follows kind out = absurd kind

due_on : (o : Option (List Position)) (h : Record) (i j s : ℕ) (copies : List ℕ) → AreDue h i o → AreDue (Take j s copies ∷ h) i o
due_on None h i j s copies due = due
due_on (Some ps) h i j s copies due = due

module _ {P : Type 0} {observe : P → Observation} {i worker now : ℕ} {task : Task P} {positions : Option (List Position)}
    {old mid : EngineState P} (lent : HasLent observe i worker now task positions old mid) where
  -- what leaves, from the lease on
  record Gone (h : Record) : Type 0 where
    out : out_to h i ≡ Some worker
    idle : IsIdle h i
    unleased : IsTaskOf observe h i task
    kept : HasKept h i task.role
    due : AreDue h i positions
    aside : (j : ℕ) → is_out h j ≡ is_out mid.log j

  gone_on : (h : Record) (e : Entry) → Follows h e → IsTakeOf i h e → Gone h → Gone (e ∷ h)
  gone_on h (Take j s copies) follows kind gone = assumption (
    observed_mute (observe task.port) h (Take j s copies) i tt gone.unleased.observed,
    come_mute task.role h (Take j s copies) i tt gone.unleased.come,
    due_on positions h i j s copies gone.due,
    gone,
  )
  gone_on h e follows kind gone = absurd kind

  gone_leased : Gone mid.log
  gone_leased = record {
    out = rw (lent.steps.noted, itself i);
    idle = rw lent.steps.noted (record {
      no_turn = rw (itself i);
      no_attempt = rw (itself i);
      no_confirm = rw (itself i);
      unclosed = leased_unclosed old.log i worker now 0 (rw lent.steps.noted at lent.steps.stands.legal);
    });
    unleased = lent.unleased;
    kept = lent.kept;
    due = lent.due;
    aside = λ j. refl;
  }

  gone_all : (new : Record) → OnlyAdds (IsTakeOf i) mid.log new → Gone new
  gone_all new adds = carry (IsTakeOf i) Gone gone_on mid.log new adds gone_leased

  pub out_two : {two : Record} → OnlyAdds (IsTakeOf i) mid.log two → is_out two i ≡ true
  out_two {two} adds = let leased : is_out mid.log i ≡ true = rw (lent.steps.noted, itself i) in (gone_all two adds).aside i ∙ leased

  collects : IsKept mid.places i → owes old.log i ≡ false → cause_of old.log ≡ None → sink_at old.log i ≡ true →
      (0 < length (held old.log i) → retry_from old.log i ≤ now) → IsCollecting mid i now 0
  collects kept settled going sink waited = record {
    is = record {
      out = rw (lent.steps.noted, itself i);
      moment = rw (lent.steps.noted, itself i);
      only_takes = rw (lent.steps.noted, itself i);
      clear = record {
        sink = rw lent.steps.noted sink;
        settled = rw lent.steps.noted (owes_leased old.log i worker now ∙ settled);
        going = rw lent.steps.noted going;
      };
      waited = leased_waited old.log mid.log i worker now lent.steps.noted lent.steps.stands.legal waited;
      kept = kept;
      unread = rw lent.steps.noted tt;
    };
    few = rw (lent.steps.noted, itself i) (omega arith);
  }

  unconfirmed : (o : Option (List Position)) → AreDue mid.log i o → is_done old.log i ≡ true → is_confirm_due (at_lease mid.log i) i ≡ false
  unconfirmed None due done = due
  unconfirmed (Some ps) due done = rw (lent.steps.noted, itself i) (source_done old.log i (rw lent.steps.noted at due.0) done).undue

  closing : is_close_due old.log i ≡ true → MayCloseNow mid.log i
  closing close =
      let open_done = and_parts (device_at old.log i && not (is_closed old.log i)) (is_done old.log i) close in
      let device = (and_parts (device_at old.log i) (not (is_closed old.log i)) open_done.0).0 in
      record { device = rw lent.steps.noted device; over = rw (lent.steps.noted, itself i) open_done.1; confirmed = unconfirmed positions lent.due open_done.1 }

  -- a transform holds nothing yet, and has taken nothing
  legal_both : IsLegal (Lease i worker now 0 ∷ old.log)
  legal_both = rw lent.steps.noted at lent.steps.stands.legal

  gathering : IsKept mid.places i → owes old.log i ≡ false → abandoned old.log ≡ false → transform_at old.log i ≡ true → IsGathering mid i now
  gathering kept settled going transform =
      let legal = legal_both in
      let apart = seen_alone mid.places mid.log i lent.steps.stands.keepers.apart (kept_here mid.places i kept) in
      let judge : judge_at (Lease i worker now 0 ∷ old.log) i ≡ true = rw lent.steps.noted at (lent.steps.stands.run.judging i (rw lent.steps.noted transform) apart) in record {
        transform = rw lent.steps.noted transform;
        going = rw lent.steps.noted going;
        out = rw (lent.steps.noted, itself i);
        moment = rw (lent.steps.noted, itself i);
        only_takes = rw (lent.steps.noted, itself i);
        settled = rw lent.steps.noted (discards_leased old.log i worker now (owes_neither old.log i settled).0);
        kept = kept;
        held = rw (lent.steps.noted, itself i) (ap length (sym (stands_at old.log (Held i) legal.1)
            ∙ holds_none old.log i legal.1 going transform judge settled));
      }

  gathers : (work : Job) → IsKept mid.places i → owes old.log i ≡ false → cause_of old.log ≡ None →
      IsJob old.log i now work → MayGather mid i now work
  gathers job.Confirm kept settled going is = tt
  gathers job.Read kept settled going (inl is) = record { source = rw lent.steps.noted is.0; readable = rw (lent.steps.noted, itself i) is.1 }
  gathers job.Read kept settled going (inr (inl is)) = absurd is.1
  gathers job.Read kept settled going (inr (inr is)) = absurd is.1
  gathers job.Collect kept settled going (inl is) = absurd is.1
  gathers job.Collect kept settled going (inr (inl is)) = absurd is.1
  gathers job.Collect kept settled going (inr (inr is)) = collects kept settled going is.0 (taking_waited old.log i now is.1)
  gathers job.Attempt kept settled going (inl is) = absurd is.1
  gathers job.Attempt kept settled going (inr (inl is)) = absurd is.1
  gathers job.Attempt kept settled going (inr (inr is)) = collects kept settled going is.0 (λ some. due_waited old.log i now is.1)
  gathers job.Close kept settled going (inl is) = closing is.1
  gathers job.Close kept settled going (inr (inl is)) = absurd is.1
  gathers job.Close kept settled going (inr (inr is)) = closing is.1
  gathers job.Judge kept settled going (inl is) = absurd is.1
  gathers job.Judge kept settled going (inr (inl is)) = (
    rw (lent.steps.noted, itself i) refl,
    (
      gathering kept settled (unabandoned old.log going) is.0,
      rw lent.steps.noted (buffer_leased old.log i worker now legal_both is.1.1),
    ),
  )
  gathers job.Judge kept settled going (inr (inr is)) = absurd is.1

  -- what the lease of what is ready leads to
  pub leased_gathers : {work : Job} → Stands observe old → old.run.latest ≤ now → IsReadyFor old now i work →
      IsSome (parcels_here mid.places (Held i)) × MayGather mid i now work
  leased_gathers {work} stands latest ready =
      let later = stands.run.later worker in
      let may = ready.leasable.may worker (omega (arith, later, latest)) in
      let rows = stands.size in let size = lent.steps.size in let now_rows = lent.steps.stands.size in let within = ready.within in
      let kept = still_kept old.places mid.places i (omega (arith, rows, within)) (lent.capacities i).1 (stands.kept i may.unleased ready.alone) in (
        kept,
        gathers work (kept_at mid.places i (omega (arith, now_rows, size, within)) kept) may.settled
            (sym stands.run.cause ∙ ready.settled.going) ready.works,
      )

  -- it owes neither a spend of what it discarded nor an answer
  pub leased_settled : {work : Job} → Stands observe old → old.run.latest ≤ now → IsReadyFor old now i work →
      (owes_discards mid.log i ≡ false) × (owes_answer mid.log i ≡ false)
  leased_settled {work} stands latest ready =
      let later = stands.run.later worker in
      let owes = owes_neither old.log i (ready.leasable.may worker (omega (arith, later, latest))).settled in
      (rw lent.steps.noted (discards_leased old.log i worker now owes.0), rw lent.steps.noted owes.1)

  -- WHAT IS HANDED OUT
  module _ {two new : EngineState P} {done : Job} (line : Filled Parcel) (stood : Stands observe old) (alone : joins_at old.log i ≡ false) (well : IsWell old)
      (was : LentWhileOut old) (gathered : HasGathered observe i mid two done)
      (stands : Stands observe new) (none : parcels_here new.places (Held i) ≡ None) (capacities : LendsCapacity i line.room two.places new.places)
      (log : new.log ≡ two.log) (states : new.states ≡ two.states) (run : new.run ≡ two.run) where
    gone : Gone two.log
    gone = gone_all two.log gathered.only

    left : IfSome (slice_get mid.states i) IsWellAt × (is_unfit task.role ≡ false)
    left = left_says observe i task old.log (slice_get old.states i) (slice_get mid.states i) lent.states.one alone (well.states i) (stood.states.each i)

    size : length new.states ≡ length old.states
    size = ap length states ∙ (gathered.size ∙ lent.steps.size)

    out_old : (j : ℕ) → j ≢ i → is_out new.log j ≡ true → is_out old.log j ≡ true
    out_old j other out =
        let out_mid : is_out mid.log j ≡ true = sym (gone.aside j) ∙ rw log at out in
        rw (lent.steps.noted, not_same i j other) at out_mid

    lends : LentWhileOut new
    lends j within out = elim (cases_eq j i) [
      | inl same ↦ rw same none
      | inr other ↦
          let all = size in let rows = stands.size in
          capacity_lent new.places j (omega (arith, within, rows))
          (capacities.others j other ∙ ((gathered.leaves.capacities j).1 ∙
          ((lent.capacities j).1 ∙ lent_capacity old.places j (was j (omega (arith, within, all)) (out_old j other out)))))
    ]

    wells : IsWell new
    wells = record {
      states = λ j. rw states (well_stays (slice_get mid.states j) (slice_get two.states j) (gathered.leaves.states j) (elim (cases_eq j i) [
        | inl same ↦ rw same left.0
        | inr other ↦ rw (lent.states.others j other) (well.states j)
      ]));
      fed = ap (λ (r : Run). r.out_of_memory) (run ∙ (gathered.leaves.run ∙ lent.run)) ∙ well.fed;
    }

    made : OnlyAdds (IsBy worker) old.log two.log
    made = adds_both (IsBy worker) old.log mid.log two.log (adds_step (IsBy worker) lent.steps refl)
        (adds_narrower (IsTakeOf i) (IsBy worker) (λ h. out_to h i ≡ Some worker) (taken_by i worker) mid.log two.log gathered.only gone_leased.out)

    pub handed : IsHeld two.log i line.items → IsHeldLimitOf two.log i line.room →
        HasHandedOut observe i worker now old new (record { instance = i; worker = worker; task = task; held = line; positions = positions; job = done })
    handed held room = record {
      stands = stands;
      served = served_on gathered.served (ap (λ (r : Run). r.plan) run) (ap length states);
      lent = lends;
      well = wells;
      size = size;
      instance_is = refl;
      worker_is = refl;
      left = rw log (record {
        out = gone.out;
        idle = gone.idle;
        unleased = gone.unleased;
        kept = gone.kept;
        held = held;
        asked = gone.due;
        job = gathered.given;
        settled = gathered.settled;
        untaken = gathered.untaken;
        fit = left.1;
        alone = seen_alone two.places two.log i gathered.stands.keepers.apart gathered.kept;
      });
      room = rw log room;
      only = rw log made;
      noted = rw (log, ← lent.steps.noted) gathered.only;
      latest = ap (λ (r : Run). r.latest) (run ∙ gathered.leaves.run ∙ lent.run);
      plan = ap (λ (r : Run). r.plan) (run ∙ gathered.leaves.run ∙ lent.run);
      had = had_task task (slice_get old.states i) (slice_get mid.states i) lent.states.one;
      others = λ j other. rw states (rw (lent.states.others j other) at (keeps_task (slice_get mid.states j) (slice_get two.states j) (gathered.leaves.states j)));
    }
