-- A task that was done comes back: first what it holds and its confirm, then what was done; and what is left of the engine's state then.
use Rattle.std.proofs.Common.{◌≡◌, ◌≢◌, ◌∙◌, ℕ, ◌<◌, true, false, List, ◌∷◌, ◌++◌, length, Option, Some, None, IfSome, IsSome, IsSomeAnd, refl, sym, ap, arith, inl, inr}
use Rattle.std.specs.Prelude.{is_some, slice_get, Result, OnOk}
use Rattle.std.specs.List.{list_any}
use Rattle.std.proofs.lemmas.Bool.{cases_Bool, cases_eq}
use Rattle.std.proofs.lemmas.Result.{on_ok_weaker}
use Rattle.vx_ends.specs.Observation.{Observation}
use Rattle.vx_ledger.specs.declared.parcel.Parcel.{Parcel}
use Rattle.vx_ledger.specs.declared.short.Short.{Short}
use Rattle.vx_record.specs.declared.entry.Entry.{Entry}
use Rattle.vx_record.specs.declared.entry.Entry.TheVariants as entry
use Rattle.vx_record.specs.Records.{Record}
use Rattle.vx_record.specs.Abandoning.{abandoned}
use Rattle.vx_record.specs.Additions.{OnlyAdds}
use Rattle.vx_record.specs.Ceasing.{cause_of}
use Rattle.vx_record.specs.Installs.{source_at, sink_at, is_closed}
use Rattle.vx_record.specs.Generating.{IsGenerated}
use Rattle.vx_record.specs.Legal.{Follows, IsLegal}
use Rattle.vx_record.specs.Makers.{IsFor}
use Rattle.vx_record.specs.Owing.{owes_answer}
use Rattle.vx_record.specs.Places.Place.{Held}
use Rattle.vx_record.specs.Turns.{is_out, since_lease, is_turn_of, is_attempt_of, is_confirm_of}
use Rattle.vx_record.proofs.Answerers.{source_untransforming}
use Rattle.vx_record.proofs.Adding.{carry}
use Rattle.vx_record.proofs.Ceasing.{unabandoned}
use Rattle.vx_record.proofs.TasksOut.{out_to_worker}
use Rattle.vx_places.specs.Capacities.{LendsCapacity}
use Rattle.vx_places.specs.Views.{parcels_here}
use Rattle.vx_places.proofs.Steps.{known_later}
use Rattle.vx_counts.proofs.Once.{itself}
use Rattle.vx_sourcecore.specs.declared.source.Turned.{Turned}
use Rattle.vx_sourcecore.specs.Turns.{Reading, reading_of}
use Rattle.vx_sourcecore.proofs.Keeping.{turned_under}
use Rattle.vx_sourcecore.proofs.MakingKept.{made_under}
use Rattle.vx_tasks.specs.declared.confirming.Confirmed.{Confirmed}
use Rattle.vx_tasks.specs.declared.landing.Done.{Done}
use Rattle.vx_tasks.specs.declared.landing.Done.TheVariants as done
use Rattle.vx_tasks.specs.declared.landing.Landing.{Landing}
use Rattle.vx_tasks.specs.declared.task.Role.{Role}
use Rattle.vx_tasks.specs.declared.task.Role.TheVariants as role
use Rattle.vx_tasks.proofs.Alone.{generated_same}
use Rattle.vx_tasks.specs.Out.{AreDue, IsHeld, IsReadable, HasDone, HasActed, HasRoleTurned, IsConfirmedSo, confirm_entries, leaves_taken, IsKeptBy}
use Rattle.vx_instances.specs.declared.state.InstanceState.{InstanceState}
use Rattle.vx_instances.specs.Staying.{EachState, SameFlags}
use Rattle.vx_moves.specs.declared.engine.EngineState.{EngineState}
use Rattle.vx_moves.specs.declared.run.Run.{Run}
use Rattle.vx_moves.specs.Leaving.{Leaves}
use Rattle.vx_moves.specs.Stands.{Stands}
use Rattle.vx_ready.specs.Asking.{IsServed}
use Rattle.vx_landing.specs.Failures.{LacksBirth}
use Rattle.vx_landing.specs.Landings.{HasComeBack, IsAnswered, IsBackWith, IsConfirmable, IsGivenUp, IsWellLanded, LandsOn, OthersStay, owes_entries}
use Rattle.vx_landing.specs.Standing.{IsWellAt, IsWell, IsFedAt, IsFed, AwayIsWell, LentWhileOut}
use Rattle.vx_landing.proofs.Landed.{come_under}
use Rattle.vx_landing.proofs.Lending.{kept_on, lent_capacity, capacity_lent}
use Rattle.vx_landing.proofs.Owing.{entries_confirmed, lacks_returned, owes_out, uncaused}
use Rattle.vx_landing.proofs.States.{LeavesBe, carried, not_same, others_both, well_on}
use Rattle.vx_landing.proofs.ObservedOut.{observed_none, observed_some}

-- ITS CONFIRM
-- there is one only where it was due
due_if : (h : Record) (i : ℕ) (d : Done) (confirmed : Option Confirmed) → IsConfirmedSo h i d confirmed → IfSome confirmed (λ c. AreDue h i (Some c.positions))
due_if h i d None so = tt
due_if h i done.OutOfMemory (Some c) so = so
due_if h i d (Some c) so = so

-- a source is no sink
no_sink : (h : Record) (i : ℕ) → source_at h i ≡ true → sink_at h i ≡ true → ⊥
no_sink h i source sink = grind arith

-- what was done stays so behind it
role_confirmed : (h : Record) (i : ℕ) (r : Role) (took : Turned) (c : Confirmed) → HasRoleTurned h i r took →
    HasRoleTurned (entry.Confirm i c.positions c.made ∷ h) i r took
role_confirmed h i (role.Source core) took c turned = (turned_under h (entry.Confirm i c.positions c.made) i core took tt turned.0, turned.1)
role_confirmed h i (role.Generator generator) took c turned = (made_under h (entry.Confirm i c.positions c.made) i generator took tt turned.0, turned.1)
role_confirmed h i role.Blackhole took c turned = turned
role_confirmed h i (role.Sink codec) took c turned = turned
role_confirmed h i (role.Transform picker) took c turned = turned
role_confirmed h i role.Merge took c turned = turned
role_confirmed h i role.Unfit took c turned = tt

-- so does what may be read
readable_confirmed : (h : Record) (i : ℕ) (took : Turned) (c : Confirmed) → IsReadable h i took → IsReadable (entry.Confirm i c.positions c.made ∷ h) i took
readable_confirmed h i took c readable = go (reading_of took) readable
  where
    go : (o : Option Reading) → IfSome o (λ (r : Reading). IsGenerated h i r.stream r.took) →
        IfSome o (λ (r : Reading). IsGenerated (entry.Confirm i c.positions c.made ∷ h) i r.stream r.took)
    go None is = is
    go (Some r) is = generated_same h (entry.Confirm i c.positions c.made ∷ h) i r.stream r.took refl refl refl is

acted_some : (observed : Observation) (h : Record) (i : ℕ) (r : Role) (d : Done) (c : Confirmed) → AreDue h i (Some c.positions) → HasActed observed h i r d →
    HasActed observed (entry.Confirm i c.positions c.made ∷ h) i r d
acted_some observed h i r (done.Read took) c was acted = assumption (role_confirmed h i r took c acted.come, readable_confirmed h i took c acted.readable)
acted_some observed h i r (done.Attempted all sent answer) c was acted = absurd (no_sink h i was.0 acted.may.sink)
acted_some observed h i r (done.Judged ports) c was acted = let no = source_untransforming h i was.0 in let yes = acted.may.transform in cc
acted_some observed h i r done.Closed c was acted = let no = acted.may.confirmed in let yes = was.1.0 in cc
acted_some observed h i r done.Starved c was acted = absurd (no_sink h i was.0 acted.may.sink)
acted_some observed h i r d c was acted = come_under r h (entry.Confirm i c.positions c.made) i tt acted

-- what it keeps
by_confirmed : (h : Record) (i : ℕ) (r : Role) (d : Done) (c : Confirmed) → IsKeptBy h i r d → IsKeptBy (entry.Confirm i c.positions c.made ∷ h) i r d
by_confirmed h i r done.Nothing c is = is
by_confirmed h i r (done.Read turned) c is = is
by_confirmed h i r (done.Attempted all sent answer) c is = is
by_confirmed h i r (done.Judged ports) c is = is
by_confirmed h i r done.Closed c is = is
by_confirmed h i r done.OutOfMemory c is = is
by_confirmed h i r done.Starved c is = is

acted_behind : (observed : Observation) (h : Record) (i : ℕ) (r : Role) (d : Done) (confirmed : Option Confirmed) → IsConfirmedSo h i d confirmed → HasActed observed h i r d →
    HasActed observed (confirm_entries i confirmed ++ h) i r d
acted_behind observed h i r d None so acted = acted
acted_behind observed h i r d (Some c) so acted = acted_some observed h i r d c (due_if h i d (Some c) so) acted

-- and then it names what was due
answered_behind : (h : Record) (i : ℕ) (d : Done) (confirmed : Option Confirmed) → IsLegal (confirm_entries i confirmed ++ h) → is_out h i ≡ true →
    list_any (is_confirm_of i) (since_lease h i) ≡ false → IsConfirmedSo h i d confirmed → IsAnswered (confirm_entries i confirmed ++ h) i d
answered_behind h i done.OutOfMemory confirmed legal out none so = tt
answered_behind h i d None legal out none so = λ device. observed_none h i legal out device so none
answered_behind h i d (Some c) legal out none so = λ device. observed_some h i c.positions c.made legal.0

held_behind : (h : Record) (i : ℕ) (parcels : List Parcel) (c : Confirmed) → IsHeld h i parcels → IsHeld (entry.Confirm i c.positions c.made ∷ h) i parcels
held_behind h i parcels c is = record {
  held = is.held;
  known = λ event copy among. known_later h (entry.Confirm i c.positions c.made) event copy refl (is.known event copy among);
  filled = is.filled;
}

-- what a confirm doesn't change
same_behind : (F : Record → Type 0) (h : Record) (i : ℕ) (confirmed : Option Confirmed) → ((c : Confirmed) → F h → F (entry.Confirm i c.positions c.made ∷ h)) →
    F h → F (confirm_entries i confirmed ++ h)
same_behind F h i None same was = was
same_behind F h i (Some c) same was = same c was

-- a run that is given up is, and one that isn't isn't
pub over_behind : (h : Record) (i : ℕ) (confirmed : Option Confirmed) → abandoned (confirm_entries i confirmed ++ h) ≡ abandoned h
over_behind h i confirmed = same_behind (λ k. abandoned k ≡ abandoned h) h i confirmed (λ c same. same) refl

module _ {P : Type 0} {observe : P → Observation} {old : EngineState P} {landing : Landing P} (stands : Stands observe old)
    (within : landing.instance < length old.states) (back : HasDone observe old.log landing) where
  abbrev i : ℕ
  i = landing.instance

  pub out_now : is_out old.log i ≡ true
  out_now = out_to_worker old.log i ∙ ap is_some back.out

  pub confirmable : {h : Record} → h ≡ old.log → IsConfirmable h i landing.confirmed
  confirmable same = rw same (record { out = out_now; once = back.idle.no_confirm; due = due_if old.log i landing.done landing.confirmed back.confirmed })

  -- of the record with its confirm
  record IsBackOn (h : Record) : Type 0 where
    out : is_out h i ≡ true
    no_turn : list_any (is_turn_of i) (since_lease h i) ≡ false
    no_attempt : list_any (is_attempt_of i) (since_lease h i) ≡ false
    unclosed : is_closed h i ≡ false
    settled : owes_entries h i ≡ false
    untaken : leaves_taken landing.done ≡ false → owes_answer h i ≡ false
    held : IsHeld h i landing.held.items

  -- once both were noted
  pub back_with : {one two : EngineState P} → one.log ≡ old.log → one.states ≡ old.states → length one.places ≡ length one.states →
      IsSome (parcels_here one.places (Held i)) → Stands observe two → two.log ≡ confirm_entries i landing.confirmed ++ one.log → Leaves one two →
      IfSome (slice_get old.states i) IsWellAt → IsBackWith observe two i landing.task landing.done
  back_with {one} {two} same states rows kept after log leaves well =
      let c = landing.confirmed in
      let now : two.log ≡ confirm_entries i c ++ old.log = rw same at log in
      let settled = owes_out old.log i stands.legal out_now back.idle.no_turn back.idle.no_attempt back.settled in
      let on = same_behind IsBackOn old.log i c (λ c on. record {
        out = on.out;
        no_turn = on.no_turn;
        no_attempt = on.no_attempt;
        unclosed = on.unclosed;
        settled = entries_confirmed old.log i c.positions c.made on.settled;
        untaken = on.untaken;
        held = held_behind old.log i landing.held.items c on.held;
      }) (assumption (out_now, back.idle, settled, back.untaken, back.held)) in
      record {
        out = rw now on.out;
        no_turn = rw now on.no_turn;
        no_attempt = rw now on.no_attempt;
        unclosed = rw now on.unclosed;
        settled = rw now on.settled;
        untaken = rw now on.untaken;
        answered = rw now (answered_behind old.log i landing.done c (rw now at after.legal) out_now back.idle.no_confirm back.confirmed);
        parcels = landing.held.items;
        held = rw now on.held;
        observed = rw now back.observed;
        acted = rw now (acted_behind (observe landing.task.port) old.log i landing.task.role landing.done c back.confirmed back.acted);
        remembers = rw now (same_behind (λ k. IsKeptBy k i landing.task.role landing.done) old.log i c (λ c is. by_confirmed old.log i landing.task.role landing.done c is) back.kept);
        fit = back.fit;
        kept = kept_on one.places two.places i (rw (rows, states) within) leaves.capacities kept;
        well = well_on i leaves (rw states well);
      }

-- WHO IS OUT
-- entries of an instance's task leave who else is out
pub others_out : (i j : ℕ) (old new : Record) → j ≢ i → OnlyAdds (IsFor i) old new → is_out new j ≡ is_out old j
others_out i j old new other adds = carry (IsFor i) (λ k. is_out k j ≡ is_out old j) step old new adds refl
  where
    step : (h : Record) (e : Entry) → Follows h e → IsFor i h e → is_out h j ≡ is_out old j → is_out (e ∷ h) j ≡ is_out old j
    step h (entry.Lease k worker now polls) follows own was = rw (own k (itself k), not_same i j other) was
    step h (entry.Home k) follows own was = rw (own k (itself k), not_same i j other) was
    step h e follows own was = was

-- a run that is given up stays so
over_on : (h : Record) (e : Entry) → abandoned h ≡ true → abandoned (e ∷ h) ≡ true
over_on h (entry.Abandon cause) over = refl
over_on h e over = over

pub over_stays : (Kind : Record → Entry → Type 0) (old new : Record) → OnlyAdds Kind old new → abandoned old ≡ true → abandoned new ≡ true
over_stays Kind old new adds over = carry Kind (λ h. abandoned h ≡ true) (λ h e follows kind over. over_on h e over) old new adds over

-- STATES
module _ {P : Type 0} where
  pub well_flags : (o n : Option (InstanceState P)) → IfSome n (λ is. IsSomeAnd o (λ was. SameFlags was is)) → IfSome o IsWellAt → IfSome n IsWellAt
  well_flags o n flags well =
      carried SameFlags IsWellAt IsWellAt o n flags well (λ was is so known. record { settled = so.owing ∙ known.settled; counted = so.behind ∙ known.counted; fed = so.starved ∙ known.fed })

  pub fed_flags : (o n : Option (InstanceState P)) → IfSome n (λ is. IsSomeAnd o (λ was. SameFlags was is)) → IfSome o IsFedAt → IfSome n IsFedAt
  fed_flags o n flags fed = carried SameFlags IsFedAt IsFedAt o n flags fed (λ was is so known. record { counted = so.behind ∙ known.counted; fed = so.starved ∙ known.fed })

-- WHAT IS LEFT
-- the engine's state before, with what is held taken back, with the confirm noted, with what was done noted, and with
-- the instance back
module _ {P : Type 0} {observe : P → Observation} {i room : ℕ} (old : EngineState P) {one two three new : EngineState P}
    (capacities : LendsCapacity i room one.places old.places) (one_states : one.states ≡ old.states) (one_run : one.run ≡ old.run)
    (first : LeavesBe i one two) (second : LandsOn i two three) (last : LeavesBe i three new) (flags : EachState SameFlags three.states new.states)
    (only : OnlyAdds (IsFor i) old.log new.log) (unleased : is_out new.log i ≡ false) (stands : Stands observe new) where
  size : length new.states ≡ length old.states
  size = last.size ∙ (second.size ∙ (first.size ∙ ap length one_states))

  run : new.run ≡ record old.run { out_of_memory = new.run.out_of_memory }
  run = rw (last.run, second.run, first.run, one_run) refl

  short : new.run.out_of_memory ≡ three.run.out_of_memory
  short = ap (λ (r : Run). r.out_of_memory) last.run

  -- the others
  others : OthersStay i old.states new.states
  others = others_both old.states three.states new.states (rw one_states at (others_both one.states two.states three.states first.others second.others)) last.others

  raised : old.run.out_of_memory ≡ true → new.run.out_of_memory ≡ true
  raised was = rw short (second.short (rw (first.run, one_run) was))

  not_unleased : (j : ℕ) → is_out new.log j ≡ true → j ≢ i
  not_unleased j out same = let unleased_there = rw same at out in cc

  was_out : (j : ℕ) → is_out new.log j ≡ true → is_out old.log j ≡ true
  was_out j out = sym (others_out i j old.log new.log (not_unleased j out) only) ∙ out

  lent_behind : LentWhileOut old → LentWhileOut new
  lent_behind lent j within out =
      capacity_lent new.places j (rw stands.size within)
      ((last.capacities j).1 ∙ ((second.capacities j).1 ∙ ((first.capacities j).1 ∙ (sym (capacities.others j (not_unleased j out)) ∙ lent_capacity old.places j (lent j (rw (← size) within) (was_out j out))))))

  fed_behind : IsFed old → IsFed new
  fed_behind fed off j = elim (cases_eq j i) [
    | inl same ↦ rw same (fed_flags (slice_get three.states i) (slice_get new.states i) (flags i) (second.fed (sym short ∙ off)))
    | inr other ↦ fed_flags (slice_get old.states j) (slice_get new.states j) (others j other)
        (fed (elim (cases_Bool old.run.out_of_memory) [ inl on ↦ let up = raised on in cc | inr off ↦ off ]) j)
  ]

  pub well_behind : IsWellLanded i two three → IsWell old → IsWell new
  well_behind landed well = record {
    states = λ j. elim (cases_eq j i) [
      | inl same ↦ rw same (well_flags (slice_get three.states i) (slice_get new.states i) (flags i) landed.state)
      | inr other ↦ well_flags (slice_get old.states j) (slice_get new.states j) (others j other) (well.states j)
    ];
    fed = short ∙ (landed.fed ∙ rw (first.run, one_run) well.fed);
  }

  pub has_returned : (abandoned old.log ≡ true → IsGivenUp new.log i) → IsServed old → LentWhileOut old → AwayIsWell old → HasComeBack observe i old new
  has_returned over served lent away = record {
    stands = stands;
    served = record { served = rw run served.served; few = rw size served.few };
    size = size;
    only = only;
    run = run;
    short = raised;
    unleased = unleased;
    over = over;
    lent = lent_behind lent;
    away = λ j out. well_flags (slice_get old.states j) (slice_get new.states j) (others j (not_unleased j out)) (away j (was_out j out));
    fed = fed_behind;
  }

-- what is lacking is so behind the return
pub came_short : {Kind : Record → Entry → Type 0} {h new : Record} {i : ℕ} (short : Short) → OnlyAdds Kind h new →
    (abandoned h ≡ false → new ≡ entry.Home i ∷ h) → LacksBirth h short → abandoned new ≡ false → LacksBirth new short
came_short {Kind} {h} {new} {i} short adds noted lacks going = elim (cases_Bool (abandoned h)) [
  | inl over ↦ let still = over_stays Kind h new adds over in cc
  | inr still ↦ rw (noted still) (lacks_returned h i short lacks)
]

-- ANSWERS
pub on_ok : {X E : Type 0} (r : Result X E) (A B : Type 0) → (A → B) → OnOk r A → OnOk r B
on_ok r A B leads is = on_ok_weaker r leads is

-- a run isn't given up by a landing
pub goes_on_returned : {P : Type 0} (observe : P → Observation) (i : ℕ) (old new : EngineState P) → Stands observe old → HasComeBack observe i old new →
    cause_of new.log ≡ cause_of old.log
goes_on_returned observe i old new stands unleased = sym unleased.stands.run.cause ∙ (ap (λ (r : Run). r.abandoned) unleased.run ∙ stands.run.cause)

pub still_going : (old new : Record) → cause_of new ≡ cause_of old → abandoned old ≡ false → abandoned new ≡ false
still_going old new same going = unabandoned new (same ∙ uncaused old going)
