-- An instance that merges: what it takes and answers while it is out, and what is left once it is unleased.
use Rattle.std.proofs.Common.{◌≡◌, ◌≢◌, ◌∙◌, ℕ, ◌+◌, ◌<◌, ◌≤◌, Bool, true, false, List, [], ◌∷◌, ◌++◌, length, Option, Some, None, IfSome, IsSomeAnd, refl, sym, ap, arith, inl, inr}
use Rattle.std.specs.Prelude.{◌==◌, ◌&&◌, ◌||◌, not, nat_lt, is_some, slice_get, if◌then◌else◌, Result, Ok, Err, OnOk, OnErr}
use Rattle.std.proofs.lemmas.Bool.{and_parts, and_right, cases_eq, or_parts}
use Rattle.std.proofs.lemmas.Bool.Decides.{nat_tests}
use Rattle.vx_ends.specs.Observation.{Observation}
use Rattle.vx_ends.specs.declared.position.Position.{Position}
use Rattle.vx_value.specs.Texts.{is_empty}
use Rattle.vx_plan.specs.declared.component.Component.{Component}
use Rattle.vx_plan.specs.declared.settings.Settings.{Settings}
use Rattle.vx_plan.specs.declared.settings.Settings.TheVariants.{Reduce, Host}
use Rattle.vx_plan.specs.Components.{is_transform}
use Rattle.vx_plan.specs.Options.{has_device}
use Rattle.vx_pick.specs.declared.picker.Picker.{Picker}
use Rattle.vx_pick.specs.Picks.{Picks}
use Rattle.vx_record.specs.declared.entry.Entry.{Entry}
use Rattle.vx_record.specs.declared.entry.Entry.TheVariants.{Lease, Home, Take, Tick, Answer, Spent, Notice}
use Rattle.vx_record.specs.Records.{Record}
use Rattle.vx_record.specs.Additions.{OnlyAdds}
use Rattle.vx_record.specs.Answering.{MayFlush}
use Rattle.vx_record.specs.Inputs.{unanswered}
use Rattle.vx_record.specs.Installs.{component_of, device_at, is_closed, transform_at}
use Rattle.vx_record.specs.Legal.{Follows, IsLegal}
use Rattle.vx_record.specs.Lists.{buffered, held}
use Rattle.vx_record.specs.Makers.{IsFor}
use Rattle.vx_record.specs.Owing.{last_discarded, owes, owes_answer, owes_birth, owes_discards, owes_spends_in, took_since}
use Rattle.vx_record.specs.Places.Place.{Held}
use Rattle.vx_record.specs.Ready.{is_flush_due}
use Rattle.vx_record.specs.Routing.{is_ending}
use Rattle.vx_record.specs.Shifts.{at}
use Rattle.vx_record.specs.Starting.{MayLease}
use Rattle.vx_record.specs.Tasks.{out_to}
use Rattle.vx_record.specs.Turns.{is_out, since_lease}
use Rattle.vx_record.proofs.Adding.{adds_both, adds_narrower, adds_none, adds_one, adds_wider, carry}
use Rattle.vx_record.proofs.Lasting.{leased_unclosed}
use Rattle.vx_record.proofs.Shifting.{stands_at}
use Rattle.vx_record.proofs.TasksOut.{out_to_worker}
use Rattle.vx_counts.proofs.Once.{itself}
use Rattle.vx_places.specs.Capacities.{SameCapacities}
use Rattle.vx_tasks.specs.declared.task.Role.{Role}
use Rattle.vx_tasks.specs.declared.task.Role.TheVariants as role
use Rattle.vx_tasks.specs.declared.task.Task.{Task}
use Rattle.vx_tasks.specs.Unleased.{HasCome, HasKept, IsTaskOf}
use Rattle.vx_tasks.specs.Joining.{is_joining, joins_at}
use Rattle.vx_tasks.proofs.Discarding.{unspent_less}
use Rattle.vx_instances.specs.Calls.{HasTaskBack, IsBack}
use Rattle.vx_instances.specs.Knowing.{HasUnleasedTask, IsKnown, Knows}
use Rattle.vx_instances.specs.Staying.{EachState, IsLeft, OneState, SameFlags, Stays}
use Rattle.vx_instances.specs.declared.state.InstanceState.{InstanceState}
use Rattle.vx_instances.proofs.Observing.{IsMute, come_mute, observed_mute}
use Rattle.vx_moves.specs.declared.engine.EngineState.{EngineState}
use Rattle.vx_moves.specs.declared.run.Run.{Run}
use Rattle.vx_moves.specs.Leasing.{HasLent}
use Rattle.vx_moves.specs.Leaving.{Leaves}
use Rattle.vx_moves.specs.Merging.{HasAnswered, HasFlushed, IsMergeOf, MayMerge}
use Rattle.vx_moves.specs.Returns.{IsReturned}
use Rattle.vx_moves.specs.Stands.{Stands, Steps}
use Rattle.vx_moves.specs.Taking.{MayTakeNow}
use Rattle.vx_moves.proofs.Leaving.{each_stays}
use Rattle.vx_moves.proofs.Merging.{sink_alone}
use Rattle.vx_ready.specs.Asking.{IsServed}
use Rattle.vx_ready.specs.Jobs.{IsLeasable}
use Rattle.vx_ready.proofs.Checking.{given_none, taken_as, tick_at, unticked_at}
use Rattle.vx_landing.specs.Landings.{IsOwingNow, OthersStay, Owes, owes_entries}
use Rattle.vx_landing.specs.Merging.{ComesMerged, HasInputs, HasMerged, HasSameTask, HasTakenOne, HasTakenSome, HasWorked, HasWorkedWell, IsByOrNotice, IsMergeStep, IsMerging, IsTaking}
use Rattle.vx_landing.specs.Standing.{AwayIsWell, IsFed, IsFedAt, IsWell, LentWhileOut}
use Rattle.vx_landing.proofs.Answering.{for_own, leaves_both}
use Rattle.vx_landing.proofs.LandedEngine.{fed_flags, others_out, well_flags}
use Rattle.vx_landing.proofs.Lending.{lent_capacity, capacity_lent}
use Rattle.vx_landing.proofs.Owing.{OwesWorkEntries, discards_none, work_entries_none, work_entries_on, entries_none, owes_none, owes_parts, settled_by}
use Rattle.vx_landing.proofs.States.{Beside, NowHas, NowOwes, beside, both_are, both_said, carried, each_flags, flags_returned, flags_then, others_both, others_one, owing_now}

-- WHO MERGES
-- it works with no port
portless : (s : Settings) → is_joining s ≡ true → has_device s ≡ false
portless (Reduce group_by starts_when ends_when expire flush strategies) is = refl
portless Host is = refl
portless other is = cc

joins_portless : (h : Record) (i : ℕ) → joins_at h i ≡ true → device_at h i ≡ false
joins_portless h i joins = go (component_of h i) joins
  where
    go : (o : Option Component) → (elim o [ None ↦ false | Some c ↦ is_transform c && is_joining c.settings ]) ≡ true →
        (elim o [ None ↦ false | Some c ↦ has_device c.settings ]) ≡ false
    go None is = refl
    go (Some c) is = portless c.settings (and_parts (is_transform c) (is_joining c.settings) is).1

-- it picks no events
no_pick : (s : Settings) (picker : Picker) → is_joining s ≡ true → Picks s picker → ⊥
no_pick (Reduce group_by starts_when ends_when expire flush strategies) picker is picks = absurd picks
no_pick Host picker is picks = absurd picks
no_pick other picker is picks = absurd cc

-- so its task keeps nothing that has to stand for what it answered
kept_joining : (does : Role) (h k : Record) (i : ℕ) → joins_at h i ≡ true → HasCome h i does → HasKept k i does
kept_joining (role.Source core) h k i joins come = tt
kept_joining (role.Generator generator) h k i joins come = tt
kept_joining (role.Sink codec) h k i joins come = tt
kept_joining role.Blackhole h k i joins come = tt
kept_joining (role.Transform picker) h k i joins come = absurd (go (component_of h i) joins come)
  where
    go : (o : Option Component) → (elim o [ None ↦ false | Some c ↦ is_transform c && is_joining c.settings ]) ≡ true →
        IsSomeAnd o (λ (c : Component). Picks c.settings picker) → ⊥
    go None is picks = absurd picks
    go (Some c) is picks = no_pick c.settings picker (and_parts (is_transform c) (is_joining c.settings) is).1 picks
kept_joining role.Merge h k i joins come = tt
kept_joining role.Unfit h k i joins come = tt

-- WHAT IT WAS GIVEN
-- where nothing is to be answered, it took nothing since its last answer
taken_none : (h : Record) (i : ℕ) → unanswered h i ≡ [] → took_since h i ≡ false
taken_none [] i none = refl
taken_none (Take j s copies ∷ h) i none = go (j == i) none (taken_none h i)
  where
    go : (b : Bool) → ((if b then taken_as h i copies ∷ [] else []) ++ unanswered h i) ≡ [] → (unanswered h i ≡ [] → took_since h i ≡ false) →
        (b || took_since h i) ≡ false
    go true is before = cc
    go false is before = before is
taken_none (Tick j now ∷ h) i none = go (j == i) none (taken_none h i)
  where
    go : (b : Bool) → ((if b then tick_at now ∷ [] else []) ++ unanswered h i) ≡ [] → (unanswered h i ≡ [] → took_since h i ≡ false) → took_since h i ≡ false
    go true is before = cc
    go false is before = before is
taken_none (Answer j outputs discarded kept ∷ h) i none = go (j == i) none (taken_none h i)
  where
    go : (b : Bool) → (if b then [] else unanswered h i) ≡ [] → (unanswered h i ≡ [] → took_since h i ≡ false) → (not b && took_since h i) ≡ false
    go true is before = refl
    go false is before = before is
taken_none (e ∷ h) i none = taken_none h i none

joins_transform : (h : Record) (i : ℕ) → joins_at h i ≡ true → transform_at h i ≡ true
joins_transform h i joins = go (component_of h i) joins
  where
    go : (o : Option Component) → (elim o [ None ↦ false | Some c ↦ is_transform c && is_joining c.settings ]) ≡ true →
        (elim o [ None ↦ false | Some c ↦ is_transform c ]) ≡ true
    go None is = cc
    go (Some c) is = (and_parts (is_transform c) (is_joining c.settings) is).0

-- one that merges and owes no answer
unowed : (h : Record) (i : ℕ) → joins_at h i ≡ true → owes_answer h i ≡ false → took_since h i ≡ false
unowed h i joins none = ap (λ b. b && took_since h i) (sym (joins_transform h i joins)) ∙ none

-- TAKES
not_none : {A : Type 0} (xs : List A) (x : A) → xs ++ x ∷ [] ≢ []
not_none [] x is = cc
not_none (y ∷ ys) x is = cc

taken_in : (h : Record) (i s : ℕ) (copies : List ℕ) → HasInputs (Take i s copies ∷ h) i
taken_in h i s copies = record {
  given = rw (itself i) (λ is. cc);
  holds = rw (itself i) (not_none (at h (Held i)) copies);
}

module _ {P : Type 0} {observe : P → Observation} {i now : ℕ} where
  pub may_take : {engine : EngineState P} → Stands observe engine → IsTaking engine.log i now → length (since_lease engine.log i) < 64 → MayTakeNow engine.log i
  may_take {engine} stands taking few = record {
    going = taking.going;
    out = taking.out;
    only_takes = taking.only_takes;
    few = few;
    unclosed = λ sink. let alone = sink_alone engine.log i sink in let joins = taking.joins in cc;
    unticked = λ transform. unticked_at i stands taking.joins;
  }

  pub taken_one : {s : ℕ} {copies : List ℕ} {old new : EngineState P} → IsTaking old.log i now → Steps observe (Take i s copies) old new → Leaves old new →
      HasTakenOne observe i now old new
  taken_one {s} {copies} {old} {new} was steps leaves = record {
    stands = steps.stands;
    taking = rw steps.noted (record {
      joins = was.joins;
      going = was.going;
      out = was.out;
      moment = was.moment;
      only_takes = rw (itself i) was.only_takes;
      spent = unspent_less old.log (Take i s copies) (last_discarded old.log i) was.spent;
    });
    one = rw steps.noted (omega arith);
    inputs = rw steps.noted (taken_in old.log i s copies);
    only = adds_one (IsMergeStep i) old.log old.log new.log (Take i s copies) (adds_none (IsMergeStep i) old.log old.log refl) steps.follows refl steps.noted;
    leaves = leaves;
    size = steps.size;
  }

  pub some_none : {engine : EngineState P} → Stands observe engine → IsTaking engine.log i now → length (since_lease engine.log i) ≡ 0 → HasTakenSome observe i now 0 engine engine
  some_none {engine} stands taking fresh = record {
    stands = stands;
    taking = taking;
    many = fresh;
    some = λ less. absurd (omega (arith, less));
    none = λ _. refl;
    only = adds_none (IsMergeStep i) engine.log engine.log refl;
    leaves = record { states = each_stays engine.states; capacities = λ j. (refl, refl); run = refl };
    size = refl;
  }

  pub some_more : {taken : ℕ} {old mid new : EngineState P} → HasTakenSome observe i now taken old mid → HasTakenOne observe i now mid new →
      HasTakenSome observe i now (taken + 1) old new
  some_more {taken} {old} {mid} {new} before one = record {
    stands = one.stands;
    taking = one.taking;
    many = let n = before.many in let more = one.one in omega (arith, n, more);
    some = λ _. one.inputs;
    none = λ none. absurd (omega (arith, none));
    only = adds_both (IsMergeStep i) old.log mid.log new.log before.only one.only;
    leaves = leaves_both before.leaves one.leaves;
    size = one.size ∙ before.size;
  }

  pub may_merge : {engine : EngineState P} → Stands observe engine → IsMerging engine.log i now → MayMerge engine.log i now
  may_merge {engine} stands merging = record {
    joins = merging.joins;
    going = merging.going;
    out = merging.out;
    moment = merging.moment;
    unticked = unticked_at i stands merging.joins;
  }

pub none_taken : (n : ℕ) → nat_lt 0 n ≡ false → n ≡ 0
none_taken n off = grind (arith, nat_tests, off)

pub some_taken : (n : ℕ) → nat_lt 0 n ≡ true → 0 < n
some_taken n on = grind (arith, nat_tests, on)

-- WHAT IT PUTS OUT BY ITSELF
-- an instance that took is out since that moment, and stays so with what it answers
pub merging_of : {h : Record} {i now : ℕ} → IsTaking h i now → IsMerging h i now
merging_of taking = record { joins = taking.joins; going = taking.going; out = taking.out; moment = taking.moment }

pub merging_on : (i now : ℕ) (old new : Record) → OnlyAdds (IsMergeOf i) old new → IsMerging old i now → IsMerging new i now
merging_on i now = carry (IsMergeOf i) (λ h. IsMerging h i now) step
  where
    step : (h : Record) (e : Entry) → Follows h e → IsMergeOf i h e → IsMerging h i now → IsMerging (e ∷ h) i now
    step h (Tick j moment) follows kind is = record { joins = is.joins; going = is.going; out = is.out; moment = is.moment }
    step h (Answer j outputs discarded kept) follows kind is = record { joins = is.joins; going = is.going; out = is.out; moment = is.moment }
    step h (Spent j c outcome) follows kind is = record { joins = is.joins; going = is.going; out = is.out; moment = is.moment }
    step h (Notice b status) follows kind is = record { joins = is.joins; going = is.going; out = is.out; moment = is.moment }
    step h e follows kind is = absurd kind

pub some_there : {A : Type 0} (xs : List A) → is_empty xs ≡ false → xs ≢ []
some_there [] some is = cc
some_there (x ∷ xs) some is = cc

none_there : {A : Type 0} (xs : List A) → is_empty xs ≡ true → xs ≡ []
none_there [] none = refl
none_there (x ∷ xs) none = cc

flush_parts : (ending empty none : Bool) → (ending && empty && not none) ≡ true → (ending ≡ true) × (empty ≡ true) × (none ≡ false)
flush_parts true true false is = (refl, refl, refl)
flush_parts true true true is = absurd cc
flush_parts true false none is = absurd cc
flush_parts false empty none is = absurd cc

-- where it is to be flushed it holds something, and may be
pub flush_may : (h : Record) (i : ℕ) → IsLegal h → is_flush_due h i ≡ true → (at h (Held i) ≢ []) × MayFlush h i []
flush_may h i legal due =
    let parts = flush_parts (is_ending h i) (is_empty (buffered h i)) (is_empty (held h i)) due in (
      λ none. some_there (held h i) parts.2 (stands_at h (Held i) legal ∙ none),
      record { ending = parts.0; drained = none_there (buffered h i) parts.1; emptied = refl },
    )

-- behind what it answered nothing that it discarded is owed
pub answer_spent : (i : ℕ) (old new : Record) {E : Type 0} (r : Result (Unit {0}) E) → OnOk r (HasAnswered i old new) → OnOk r (owes_discards new i ≡ false)
answer_spent i old new (Ok x) noted = discards_none new i noted.spent
answer_spent i old new (Err e) noted = tt

pub flush_spent : (i : ℕ) (old new : Record) {E : Type 0} (r : Result (Unit {0}) E) → OnOk r (HasFlushed i old new) → OnOk r (owes_discards new i ≡ false)
flush_spent i old new (Ok x) noted = discards_none new i noted.spent
flush_spent i old new (Err e) noted = tt

-- WHAT ITS WORK LEAVES
merge_step : (i : ℕ) (h : Record) (e : Entry) → IsMergeOf i h e → IsMergeStep i h e
merge_step i h (Tick j now) is = is
merge_step i h (Answer j outputs discarded kept) is = is
merge_step i h (Spent j c outcome) is = is
merge_step i h (Notice b status) is = is
merge_step i h e is = absurd is

step_for : (i : ℕ) (h : Record) (e : Entry) → IsMergeStep i h e → IsFor i h e
step_for i h (Take j s copies) is = for_own (Take j s copies) i h (ap (λ (n : ℕ). Some n) is)
step_for i h (Tick j now) is = for_own (Tick j now) i h (ap (λ (n : ℕ). Some n) is)
step_for i h (Answer j outputs discarded kept) is = for_own (Answer j outputs discarded kept) i h (ap (λ (n : ℕ). Some n) is)
step_for i h (Spent j c outcome) is = for_own (Spent j c outcome) i h (ap (λ (n : ℕ). Some n) is.0)
step_for i h (Notice b status) is = λ k of. cc
step_for i h e is = absurd is

comes_step : (i : ℕ) (h : Record) (e : Entry) → IsMergeStep i h e → ComesMerged i h e
comes_step i h (Home j) is = absurd is
comes_step i h e is = is

step_by : (i worker : ℕ) (h : Record) (e : Entry) → Follows h e → IsMergeStep i h e → out_to h i ≡ Some worker → IsByOrNotice worker h e × (out_to (e ∷ h) i ≡ Some worker)
step_by i worker h (Take j s copies) follows same out = (rw same out, out)
step_by i worker h (Tick j now) follows same out = (rw same out, out)
step_by i worker h (Answer j outputs discarded kept) follows same out = (rw same out, out)
step_by i worker h (Spent j c outcome) follows same out = (rw same.0 out, out)
step_by i worker h (Notice b status) follows same out = (tt, out)
step_by i worker h e follows same out = absurd same

-- what the steps of a take and an answer add
pub steps_both : {i : ℕ} {old mid new : Record} → OnlyAdds (IsMergeStep i) old mid → OnlyAdds (IsMergeOf i) mid new → OnlyAdds (IsMergeStep i) old new
steps_both {i} {old} {mid} {new} took answers =
    adds_both (IsMergeStep i) old mid new took (adds_wider (IsMergeOf i) (IsMergeStep i) (merge_step i) mid new answers)

module _ {P : Type 0} where
  -- the tasks
  task_stays : (old new : List (InstanceState P)) → EachState Stays old new → EachState HasSameTask old new
  task_stays old new each j = beside Stays HasSameTask (slice_get old j) (slice_get new j) (λ was is stays. stays.task) (each j)

  task_both : (x y z : Option (InstanceState P)) → Beside HasSameTask x y → Beside HasSameTask y z → Beside HasSameTask x z
  task_both x y None first second = tt
  task_both x None (Some z) first second = absurd second
  task_both None (Some y) (Some z) first second = absurd first
  task_both (Some x) (Some y) (Some z) first second = second ∙ first

  task_here : (o : Option (InstanceState P)) → Beside HasSameTask o o
  task_here None = tt
  task_here (Some state) = refl

  -- whose owing isn't known keeps its task
  task_owes : (i : ℕ) (old new : List (InstanceState P)) → OneState NowOwes i old new → EachState HasSameTask old new
  task_owes i old new one j = elim (cases_eq j i) [
    | inl same ↦ rw same (beside NowOwes HasSameTask (slice_get old i) (slice_get new i) (λ was is owes. rw owes refl)
        (both_are NowOwes (slice_get old i) (slice_get new i) one.one))
    | inr other ↦ rw (one.others j other) (task_here (slice_get old j))
  ]

  -- the engine's state stands with states of which less is said
  pub states_stand : {observe : P → Observation} {engine : EngineState P} {states : List (InstanceState P)} → Stands observe engine → length states ≡ length engine.states →
      Knows observe states engine.log → Stands observe (record engine { states = states })
  states_stand stands size knows = assumption (stands.size ∙ sym size)

  pub served_still : {old new : EngineState P} → IsServed old → new.run.plan ≡ old.run.plan → length new.states ≡ length old.states → IsServed new
  served_still served plan size = record { served = rw plan served.served; few = rw size served.few }

  module _ {observe : P → Observation} {i : ℕ} {old mid : EngineState P} (stands : Stands observe mid) (only : OnlyAdds (IsMergeStep i) old.log mid.log)
      (leaves : Leaves old mid) (size : length mid.states ≡ length old.states) where
    pub worked_well : HasWorked observe i old mid
    worked_well = record {
      stands = stands;
      only = only;
      size = size;
      capacities = leaves.capacities;
      run = leaves.run;
      tasks = task_stays old.states mid.states leaves.states;
      others = λ j other. each_flags old.states mid.states leaves.states j;
      fed = fed_flags (slice_get old.states i) (slice_get mid.states i) (each_flags old.states mid.states leaves.states i);
    }

    -- or memory was wanting
    pub worked_owing : {states : List (InstanceState P)} → length states ≡ length mid.states → OneState NowOwes i mid.states states → Knows observe states mid.log →
        HasWorked observe i old (record mid { states = states })
    worked_owing {states} many owes knows =
        let owing = owing_now i old.states mid.states states leaves.states owes in
        record {
          stands = states_stand stands many knows;
          only = only;
          size = many ∙ size;
          capacities = leaves.capacities;
          run = leaves.run;
          tasks = λ j. task_both (slice_get old.states j) (slice_get mid.states j) (slice_get states j) (task_stays old.states mid.states leaves.states j)
              (task_owes i mid.states states owes j);
          others = owing.others;
          fed = λ fed. carried Owes IsFedAt IsFedAt (slice_get old.states i) (slice_get states i) (both_are Owes (slice_get old.states i) (slice_get states i) owing.one) fed
              (λ was is now fed. record { counted = now.counted ∙ fed.counted; fed = now.fed ∙ fed.fed });
        }

-- WHILE IT IS OUT
-- what stays so of it
pub record Goes {P : Type 0} (observe : P → Observation) (i worker : ℕ) (task : Task P) (h : Record) : Type 0 where
  pub joins : joins_at h i ≡ true
  pub to : out_to h i ≡ Some worker
  pub work_entries : OwesWorkEntries h i
  pub unleased : IsTaskOf observe h i task
  pub unclosed : is_closed h i ≡ false

muted : {P : Type 0} (observe : P → Observation) (i : ℕ) (task : Task P) (h : Record) (e : Entry) → IsMute e → IsTaskOf observe h i task → IsTaskOf observe (e ∷ h) i task
muted observe i task h e mute unleased =
    record { observed = observed_mute (observe task.port) h e i mute unleased.observed; come = come_mute task.role h e i mute unleased.come }

goes_on : {P : Type 0} (observe : P → Observation) (i worker : ℕ) (task : Task P) (h : Record) (e : Entry) → Follows h e → IsMergeStep i h e →
    Goes observe i worker task h → Goes observe i worker task (e ∷ h)
goes_on observe i worker task h (Take j s copies) follows same was = record {
  joins = was.joins;
  to = was.to;
  work_entries = work_entries_on h (Take j s copies) i refl refl refl was.work_entries;
  unleased = muted observe i task h (Take j s copies) tt was.unleased;
  unclosed = was.unclosed;
}
goes_on observe i worker task h (Tick j now) follows same was = record {
  joins = was.joins;
  to = was.to;
  work_entries = work_entries_on h (Tick j now) i refl refl refl was.work_entries;
  unleased = muted observe i task h (Tick j now) tt was.unleased;
  unclosed = was.unclosed;
}
goes_on observe i worker task h (Answer j outputs discarded kept) follows same was = record {
  joins = was.joins;
  to = was.to;
  work_entries = work_entries_on h (Answer j outputs discarded kept) i refl refl refl was.work_entries;
  unleased = muted observe i task h (Answer j outputs discarded kept) tt was.unleased;
  unclosed = was.unclosed;
}
goes_on observe i worker task h (Spent j c outcome) follows same was = record {
  joins = was.joins;
  to = was.to;
  work_entries = work_entries_on h (Spent j c outcome) i refl refl refl was.work_entries;
  unleased = muted observe i task h (Spent j c outcome) tt was.unleased;
  unclosed = was.unclosed;
}
goes_on observe i worker task h (Notice b status) follows same was = record {
  joins = was.joins;
  to = was.to;
  work_entries = work_entries_on h (Notice b status) i refl refl refl was.work_entries;
  unleased = muted observe i task h (Notice b status) tt was.unleased;
  unclosed = was.unclosed;
}
goes_on observe i worker task h e follows same was = absurd same

-- a state whose task is out is fit to have it back
record IsFitBack {P : Type 0} (task : Task P) (state : InstanceState P) : Type 0 where
  fed : state.facts.starved ≡ false
  fit : state.facts.behind ≡ false → task.role ≢ role.Unfit

-- and owes nothing where that is known
pub record IsBackFit {P : Type 0} (task : Task P) (h : Record) (i : ℕ) (state : InstanceState P) : Type 0 where
  pub fed : state.facts.starved ≡ false
  pub fit : state.facts.behind ≡ false → task.role ≢ role.Unfit
  pub settled : state.facts.owing ≡ false → owes h i ≡ false

left_fit : {P : Type 0} (observe : P → Observation) (h : Record) (i : ℕ) (task : Task P) (o n : Option (InstanceState P)) →
    IsSomeAnd o (λ was. IsSomeAnd n (λ is. IsLeft task was is)) → IfSome o (λ state. IsKnown observe state h i) →
    IfSome o (λ state. state.facts.starved ≡ false) → IfSome n (IsFitBack task)
left_fit observe h i task None n left known fed = absurd left
left_fit observe h i task (Some was) None left known fed = tt
left_fit observe h i task (Some was) (Some is) left known fed =
    let unleased : HasUnleasedTask observe was.facts h i task = rw left.had at known.unleased in
    record { fed = left.flags.starved ∙ fed; fit = λ counted. unleased.fit (sym left.flags.behind ∙ counted) }

-- what it owes once it answered all that it was given, and spent what it discarded
settled_all : {P : Type 0} {observe : P → Observation} {i worker : ℕ} {task : Task P} (h : Record) → Goes observe i worker task h → unanswered h i ≡ [] → owes_discards h i ≡ false →
    owes h i ≡ false
settled_all {i = i} h goes none spent =
    owes_none h i (entries_none h i goes.work_entries spent) (and_right (transform_at h i) (took_since h i) (taken_none h i none))

-- THE LEASE
-- what may be leased owes nothing
owes_parts_at : {P : Type 0} {observe : P → Observation} {i now : ℕ} {old : EngineState P} → Stands observe old → IsLeasable old i now → old.run.latest ≤ now →
    (owes_entries old.log i ≡ false) × (owes_answer old.log i ≡ false)
owes_parts_at {i = i} {old = old} stands leasable latest =
    let later = stands.run.later 0 in owes_parts old.log i (leasable.may 0 (omega (arith, later, latest))).settled

-- nothing of what it discarded either
discards_spent_at : {P : Type 0} {observe : P → Observation} {i now : ℕ} {old : EngineState P} → Stands observe old → IsLeasable old i now → old.run.latest ≤ now →
    owes_discards old.log i ≡ false
discards_spent_at {i = i} {old = old} stands leasable latest =
    let h = old.log in (or_parts (owes_birth h i || owes_spends_in h h i) (owes_discards h i) (owes_parts_at stands leasable latest).0).1

module _ {P : Type 0} {observe : P → Observation} {i worker now : ℕ} {old : EngineState P} (stands : Stands observe old) (leasable : IsLeasable old i now)
    (latest : old.run.latest ≤ now) (joins : joins_at old.log i ≡ true) where
  pub may_lease : MayLease old.log i worker now 0
  may_lease = let later = stands.run.later worker in leasable.may worker (omega (arith, later, latest))

  module _ {task : Task P} {positions : Option (List Position)} {mid : EngineState P} (lent : HasLent observe i worker now task positions old mid) where
    pub taking_first : IsTaking mid.log i now
    taking_first = rw lent.steps.noted (record {
      joins = joins;
      going = leasable.going;
      out = rw (itself i) refl;
      moment = rw (itself i) refl;
      only_takes = rw (itself i) refl;
      spent = unspent_less old.log (Lease i worker now 0) (last_discarded old.log i) (discards_spent_at stands leasable latest);
    })

    pub fresh_first : length (since_lease mid.log i) ≡ 0
    fresh_first = rw (lent.steps.noted, itself i) refl

    pub bare_first : unanswered mid.log i ≡ []
    bare_first = rw lent.steps.noted (given_none old.log i (unowed old.log i joins (owes_parts_at stands leasable latest).1) (unticked_at i stands joins))

    goes_first : Goes observe i worker task mid.log
    goes_first =
        let h = old.log in
        let e = Lease i worker now 0 in
        let none = owes_parts_at stands leasable latest in
        rw lent.steps.noted (record {
          joins = joins;
          to = rw (itself i) refl;
          work_entries = work_entries_on h e i refl refl refl (work_entries_none h i none.0);
          unleased = rw lent.steps.noted at lent.unleased;
          unclosed = leased_unclosed h i worker now 0 (rw lent.steps.noted at lent.steps.stands.legal);
        })

    fit_first : IfSome (slice_get mid.states i) (IsFitBack task)
    fit_first = left_fit observe old.log i task (slice_get old.states i) (slice_get mid.states i) lent.states.one (stands.states.each i) leasable.fit.fed

    -- THE WAY HOME
    module _ {four : EngineState P} (worked : HasWorked observe i mid four) where
      goes_last : Goes observe i worker task four.log
      goes_last = carry (IsMergeStep i) (Goes observe i worker task) (goes_on observe i worker task) mid.log four.log worked.only goes_first

      pub out_last : is_out four.log i ≡ true
      out_last = out_to_worker four.log i ∙ ap is_some goes_last.to

      pub alone_last : {X : Type 0} → joins_at four.log i ≡ false → X
      alone_last alone = let joins_last = goes_last.joins in absurd cc

      fit_last : {E : Type 0} (r : Result (Unit {0}) E) → OnOk r (HasWorkedWell i mid four) → OnErr r (IsOwingNow i mid.states four.states) →
          IfSome (slice_get four.states i) (IsBackFit task four.log i)
      fit_last (Ok x) well owing = carried SameFlags (IsFitBack task) (IsBackFit task four.log i) (slice_get mid.states i) (slice_get four.states i) (well.flags i) fit_first
          (λ was is so fits. record {
            fed = so.starved ∙ fits.fed;
            fit = λ counted. fits.fit (sym so.behind ∙ counted);
            settled = λ known. settled_all four.log goes_last well.answered well.spent;
          })
      fit_last (Err e) well owing = carried Owes (IsFitBack task) (IsBackFit task four.log i) (slice_get mid.states i) (slice_get four.states i)
          (both_are Owes (slice_get mid.states i) (slice_get four.states i) owing.one) fit_first
          (λ was is owes fits. record {
            fed = owes.fed ∙ fits.fed;
            fit = λ counted. fits.fit (sym owes.counted ∙ counted);
            settled = λ known. let unknown = owes.owing in cc;
          })

      pub back_last : {E : Type 0} (r : Result (Unit {0}) E) → OnOk r (HasWorkedWell i mid four) → OnErr r (IsOwingNow i mid.states four.states) →
          HasTaskBack observe four.states four.log i task
      back_last r well owing =
          both_said (λ state. IsKnown observe state four.log i) (IsBackFit task four.log i) (λ state. IsBack observe state.facts four.log i task) (slice_get four.states i)
          (worked.stands.states.each i) (fit_last r well owing) (λ state known fits. record {
            settled = λ owing going. fits.settled owing;
            answered = λ device owing going. let none = joins_portless four.log i goes_last.joins in cc;
            kept = λ owing going. kept_joining task.role four.log four.log i goes_last.joins goes_last.unleased.come;
            task_is = rw fits.fed goes_last.unleased;
            shut = λ closed. let is : is_closed four.log i ≡ true = sym known.facts.closed ∙ closed in let not = goes_last.unclosed in cc;
            fit = fits.fit;
          })

      pub returned_last : IsReturned four.log i
      returned_last = record {
        settled = settled_by four.log i goes_last.work_entries.spends;
        observed = λ device. let none = joins_portless four.log i goes_last.joins in cc;
      }

      -- HOME
      module _ {new : EngineState P} (steps : Steps observe (Home i) four new) (back : OneState (NowHas task) i four.states new.states) (capacities : SameCapacities four.places new.places)
          (run : new.run ≡ four.run) where
        size : length new.states ≡ length old.states
        size = steps.size ∙ worked.size ∙ lent.steps.size

        run_all : new.run ≡ record old.run { latest = now }
        run_all = run ∙ worked.run ∙ lent.run

        unleased : is_out new.log i ≡ false
        unleased = rw (steps.noted, itself i) refl

        only : OnlyAdds (IsFor i) old.log new.log
        only =
            let first = adds_one (IsFor i) old.log old.log mid.log (Lease i worker now 0) (adds_none (IsFor i) old.log old.log refl) lent.steps.follows
            (for_own (Lease i worker now 0) i old.log refl) lent.steps.noted in
            let second = adds_both (IsFor i) old.log mid.log four.log first (adds_wider (IsMergeStep i) (IsFor i) (step_for i) mid.log four.log worked.only) in
            adds_one (IsFor i) old.log four.log new.log (Home i) second steps.follows (for_own (Home i) i four.log refl) steps.noted

        made : OnlyAdds (IsByOrNotice worker) old.log new.log
        made =
            let first = adds_one (IsByOrNotice worker) old.log old.log mid.log (Lease i worker now 0) (adds_none (IsByOrNotice worker) old.log old.log refl) lent.steps.follows refl lent.steps.noted in
            let second = adds_both (IsByOrNotice worker) old.log mid.log four.log first
            (adds_narrower (IsMergeStep i) (IsByOrNotice worker) (λ h. out_to h i ≡ Some worker) (step_by i worker) mid.log four.log worked.only goes_first.to) in
            adds_one (IsByOrNotice worker) old.log four.log new.log (Home i) second steps.follows goes_last.to steps.noted

        noted : OnlyAdds (ComesMerged i) (Lease i worker now 0 ∷ old.log) new.log
        noted =
            adds_one (ComesMerged i) (Lease i worker now 0 ∷ old.log) four.log new.log (Home i)
            (rw lent.steps.noted at (adds_wider (IsMergeStep i) (ComesMerged i) (comes_step i) mid.log four.log worked.only)) steps.follows refl steps.noted

        -- of the others
        others : OthersStay i old.states new.states
        others = others_both old.states mid.states new.states (others_one (IsLeft task) i old.states mid.states lent.states)
            (others_both mid.states four.states new.states worked.others (others_one (NowHas task) i four.states new.states back))

        not_unleased : (j : ℕ) → is_out new.log j ≡ true → j ≢ i
        not_unleased j out same = let unleased_there = rw (← same) at unleased in cc

        was_out : (j : ℕ) → is_out new.log j ≡ true → is_out old.log j ≡ true
        was_out j out = sym (others_out i j old.log new.log (not_unleased j out) only) ∙ out

        lent_still : LentWhileOut old → LentWhileOut new
        lent_still was j within out =
            capacity_lent new.places j (rw steps.stands.size within)
            ((capacities j).1 ∙ (worked.capacities j).1 ∙ (lent.capacities j).1 ∙ lent_capacity old.places j (was j (rw (← size) within) (was_out j out)))

        -- of its own
        left_flags : EachState SameFlags old.states mid.states
        left_flags j = elim (cases_eq j i) [
          | inl same ↦ rw same (beside (IsLeft task) SameFlags (slice_get old.states i) (slice_get mid.states i) (λ was is left. left.flags)
              (both_are (IsLeft task) (slice_get old.states i) (slice_get mid.states i) lent.states.one))
          | inr other ↦ others_one (IsLeft task) i old.states mid.states lent.states j other
        ]

        unleased_flags : EachState SameFlags four.states new.states
        unleased_flags = flags_returned i task four.states new.states back

        fed_still : IsFed old → IsFed new
        fed_still fed off j =
            let was = fed (sym (ap (λ (r : Run). r.out_of_memory) run_all) ∙ off) in
            elim (cases_eq j i) [
              | inl same ↦ rw same (fed_flags (slice_get four.states i) (slice_get new.states i) (unleased_flags i)
                  (worked.fed (fed_flags (slice_get old.states i) (slice_get mid.states i) (left_flags i) (was i))))
              | inr other ↦ fed_flags (slice_get old.states j) (slice_get new.states j) (others j other) (was j)
            ]

        pub well_still : {E : Type 0} (r : Result (Unit {0}) E) → OnOk r (HasWorkedWell i mid four) → OnOk r (IsWell old → IsWell new)
        well_still (Ok x) worked_so = λ well. record {
          states = λ j. well_flags (slice_get old.states j) (slice_get new.states j)
              (flags_then old.states mid.states new.states left_flags (flags_then mid.states four.states new.states worked_so.flags unleased_flags) j) (well.states j);
          fed = ap (λ (r : Run). r.out_of_memory) run_all ∙ well.fed;
        }
        well_still (Err e) worked_so = tt

        pub answered_still : {E : Type 0} (r : Result (Unit {0}) E) → OnOk r (HasWorkedWell i mid four) → OnOk r (unanswered new.log i ≡ [])
        answered_still (Ok x) worked_so = rw steps.noted worked_so.answered
        answered_still (Err e) worked_so = tt

        same_task : (o m f n : Option (InstanceState P)) → IsSomeAnd o (λ was. IsSomeAnd m (λ is. IsLeft task was is)) → IsSomeAnd f (λ was. IsSomeAnd n (λ is. NowHas task was is)) →
            Beside HasSameTask o n
        same_task None m f n left has = absurd left
        same_task (Some was) None f n left has = absurd left
        same_task (Some was) (Some gone) None n left has = absurd has
        same_task (Some was) (Some gone) (Some out) None left has = tt
        same_task (Some was) (Some gone) (Some out) (Some is) left has = rw has (sym left.had)

        tasks : EachState HasSameTask old.states new.states
        tasks j = elim (cases_eq j i) [
          | inl same ↦ rw same (same_task (slice_get old.states i) (slice_get mid.states i) (slice_get four.states i) (slice_get new.states i) lent.states.one back.one)
          | inr other ↦ rw (back.others j other) (rw (lent.states.others j other) at (worked.tasks j))
        ]

        pub merged : IsServed old → LentWhileOut old → AwayIsWell old → HasMerged observe i worker now old new
        merged served was away = record {
          stands = steps.stands;
          served = served_still {new = new} served (ap (λ (r : Run). r.plan) run_all) size;
          size = size;
          run = run_all;
          unleased = unleased;
          noted = noted;
          only = only;
          made = made;
          lent = lent_still was;
          away = λ j out. well_flags (slice_get old.states j) (slice_get new.states j) (others j (not_unleased j out)) (away j (was_out j out));
          fed = fed_still;
          tasks = tasks;
        }
