-- What a transform takes before its work leaves.
use Rattle.std.proofs.Common.{◌≡◌, ◌∙◌, ℕ, zero, suc, ◌+◌, ◌<◌, true, false, List, length, Option, Some, None, IfSome, IsSome, IsSomeAnd, refl, ap, arith}
use Rattle.std.proofs.lemmas.List.{length_push}
use Rattle.std.proofs.lemmas.Option.{IfSome_then}
use Rattle.vx_value.specs.Filled.{Filled}
use Rattle.vx_value.specs.Texts.{is_empty}
use Rattle.vx_ends.specs.Observation.{Observation}
use Rattle.vx_ledger.specs.declared.parcel.Parcel.{Parcel}
use Rattle.vx_plan.specs.declared.class.Class.{Class}
use Rattle.vx_plan.specs.declared.class.Class.TheVariants.{Source, Transform, Sink}
use Rattle.vx_plan.specs.declared.component.Component.{Component}
use Rattle.vx_plan.specs.Components.{is_transform, batch_max_events}
use Rattle.vx_record.specs.declared.entry.Entry.TheVariants.{Take}
use Rattle.vx_record.specs.Additions.{OnlyAdds}
use Rattle.vx_record.specs.Installs.{component_of}
use Rattle.vx_record.specs.Lists.{buffered}
use Rattle.vx_record.specs.Owing.{owes_discards, owes_answer, took_since}
use Rattle.vx_record.specs.Places.Place.{Held}
use Rattle.vx_record.specs.Shifts.{at}
use Rattle.vx_record.specs.Turns.{since_lease}
use Rattle.vx_record.proofs.Adding.{adds_none, adds_both}
use Rattle.vx_record.proofs.Answerers.{sink_untransforming}
use Rattle.vx_record.proofs.Shifting.{stands_at}
use Rattle.vx_counts.proofs.Once.{itself}
use Rattle.vx_places.specs.declared.row.Row.{Row}
use Rattle.vx_places.specs.Calls.{HasHeldRoom}
use Rattle.vx_places.specs.Capacities.{held_capacity_if, line_capacity}
use Rattle.vx_places.specs.Views.{row_at, here_if, held_items, parcels_here}
use Rattle.vx_places.proofs.Recorded.{many}
use Rattle.vx_tasks.specs.declared.work.Job.{Job}
use Rattle.vx_tasks.specs.declared.work.Job.TheVariants as job
use Rattle.vx_tasks.specs.Out.{IsGiven}
use Rattle.vx_moves.proofs.Keepers.{seen_alone}
use Rattle.vx_moves.specs.declared.engine.EngineState.{EngineState}
use Rattle.vx_moves.specs.declared.run.Run.{Run}
use Rattle.vx_moves.specs.Leaving.{Leaves}
use Rattle.vx_moves.specs.Capacities.{held_limit_of}
use Rattle.vx_moves.specs.Stands.{Stands, Steps}
use Rattle.vx_moves.specs.Taking.{MayTakeNow}
use Rattle.vx_moves.proofs.Leaving.{each_stays}
use Rattle.vx_ready.specs.Asking.{IsServed}
use Rattle.vx_hub.specs.Collecting.{IsGathering, IsTakeOf, HasGatheredOne}
use Rattle.vx_hub.specs.Leases.{takes_first, MayGather, HasGathered}
use Rattle.vx_hub.proofs.Judging.{none_ticks, discards_taken}
use Rattle.vx_hub.proofs.Leases.{kept_here, kept_at, served_on}
use Rattle.vx_hub.proofs.Resting.{adds_step, leaves_both}

-- ROOM
-- a transform has room for 64
its_held_limit : (o : Option Component) → (elim o [ None ↦ false | Some c ↦ is_transform c ]) ≡ true → ◌≡◌ {A = ℕ} (elim o [ None ↦ 0 | Some c ↦ held_limit_of c ]) 64
its_held_limit None is = cc
its_held_limit (Some c) is = go c.class is
  where
    go : (class : Class) → (elim class [ Source ↦ false | Transform ↦ true | Sink ↦ false ]) ≡ true →
        ◌≡◌ {A = ℕ} (elim class [ Source ↦ 0 | Transform ↦ 64 | Sink ↦ batch_max_events c.settings ]) 64
    go Source is = cc
    go Transform is = refl
    go Sink is = cc

-- fewer are held than there is room for
room_left : (i n : ℕ) (o : Option Row) → IsSomeAnd o (λ row. IsSome row.held) → IfSome (here_if (Held i) o) (λ ps. length ps < n) →
    IfSome (held_capacity_if o) (λ room. room ≡ n) → IsSomeAnd (here_if (Held i) o) (λ ps. IsSomeAnd (held_capacity_if o) (λ room. length ps < room))
room_left i n None kept few held_limit = absurd kept
room_left i n (Some row) kept few held_limit = go row.held kept few held_limit
  where
    go : (line : Option (Filled Parcel)) → IsSome line → IfSome (held_items line) (λ ps. length ps < n) →
        IfSome (line_capacity line) (λ room. room ≡ n) → IsSomeAnd (held_items line) (λ ps. IsSomeAnd (line_capacity line) (λ room. length ps < room))
    go None kept few held_limit = cc
    go (Some line) kept few held_limit = omega (arith, few, held_limit)

-- JOBS
-- what takes nothing is to do what it was leased for
given_else : {P : Type 0} (engine : EngineState P) (i now : ℕ) (work : Job) → takes_first work ≡ false → (work ≡ job.Judge → ⊥) → MayGather engine i now work → IsGiven engine.log i work
given_else engine i now job.Read first other may = may
given_else engine i now job.Confirm first other may = tt
given_else engine i now job.Collect first other may = cc
given_else engine i now job.Attempt first other may = cc
given_else engine i now job.Close first other may = may
given_else engine i now job.Judge first other may = absurd (other refl)

-- TAKES
-- so many were taken
pub record HasGatheredSome {P : Type 0} (observe : P → Observation) (i now taken : ℕ) (old new : EngineState P) : Type 0 where
  pub stands : Stands observe new
  pub served : IsServed new
  pub gathering : IsGathering new i now
  pub many : length (since_lease new.log i) ≡ taken
  pub some : taken ≡ 0 → is_empty (buffered new.log i) ≡ false
  pub took : 0 < taken → took_since new.log i ≡ true
  pub only : OnlyAdds (IsTakeOf i) old.log new.log
  pub leaves : Leaves old new
  pub size : length new.states ≡ length old.states

module _ {P : Type 0} {observe : P → Observation} where
  module _ {engine : EngineState P} {i now : ℕ} (stands : Stands observe engine) (few : length (since_lease engine.log i) < 64) (gathering : IsGathering engine i now) where
    pub may_gather : MayTakeNow engine.log i
    may_gather = record {
      going = gathering.going;
      out = gathering.out;
      only_takes = gathering.only_takes;
      few = few;
      unclosed = λ sink. let plain = sink_untransforming engine.log i sink in let transform = gathering.transform in cc;
      unticked = λ transform. none_ticks engine.log i stands.legal
          (stands.run.judging i transform (seen_alone engine.places engine.log i stands.keepers.apart (kept_here engine.places i gathering.kept)));
    }

    pub has_held_limit : HasHeldRoom engine.places i
    has_held_limit =
        let some = gathering.held in
        let same = ap length (stands_at engine.log (Held i) stands.legal) in
        room_left i 64 (row_at engine.places i) gathering.kept
        (few_here (parcels_here engine.places (Held i)) (λ ps there. let all = many engine.log engine.places stands.legal stands.places (Held i) ps there in omega (arith, all, same, some, few)))
        (IfSome_then (held_capacity_if (row_at engine.places i)) (stands.capacities.holdings i) (λ room is. is ∙ its_held_limit (component_of engine.log i) gathering.transform))
      where
        few_here : (o : Option (List Parcel)) → ((ps : List Parcel) → o ≡ Some ps → length ps < 64) → IfSome o (λ ps. length ps < 64)
        few_here None says = tt
        few_here (Some ps) says = says ps refl

  pub gathered_one : {i now s : ℕ} {copies : List ℕ} {old new : EngineState P} → IsServed old → i < length old.states → IsGathering old i now →
      Steps observe (Take i s copies) old new → Leaves old new → IsSome (parcels_here new.places (Held i)) → HasGatheredOne observe i now old new
  gathered_one {i} {now} {s} {copies} {old} {new} served within was steps leaves kept =
      let rows = steps.stands.size in let size = steps.size in let held = was.held in
      let more = length_push (at old.log (Held i)) copies in
      let gathering : IsGathering new i now = record {
        transform = rw steps.noted was.transform;
        going = rw steps.noted was.going;
        out = rw steps.noted was.out;
        moment = rw steps.noted was.moment;
        only_takes = rw (steps.noted, itself i) was.only_takes;
        settled = rw steps.noted (discards_taken old.log i s copies was.settled);
        kept = kept_at new.places i (omega (arith, rows, size, within)) kept;
        held = rw (steps.noted, itself i) (omega (arith, more, held));
      } in record {
        stands = steps.stands;
        served = served_on {new = new} served (ap (λ (r : Run). r.plan) leaves.run) steps.size;
        gathering = gathering;
        one = rw steps.noted (omega arith);
        took = rw (steps.noted, itself i) refl;
        only = adds_step (IsTakeOf i) steps refl;
        leaves = leaves;
        size = steps.size;
      }

  pub gathered_none : {i now : ℕ} {engine : EngineState P} → Stands observe engine → IsServed engine → length (since_lease engine.log i) ≡ 0 →
      IsGathering engine i now → is_empty (buffered engine.log i) ≡ false → HasGatheredSome observe i now 0 engine engine
  gathered_none {i} {engine = engine} stands served fresh gathering some = record {
    stands = stands;
    served = served;
    gathering = gathering;
    many = fresh;
    some = λ none. some;
    took = λ l. absurd (omega (arith, l));
    only = adds_none (IsTakeOf i) engine.log engine.log refl;
    leaves = record { states = each_stays engine.states; capacities = λ j. (refl, refl); run = refl };
    size = refl;
  }

  pub gathered_more : {i now taken : ℕ} {old mid new : EngineState P} → HasGatheredSome observe i now taken old mid →
      HasGatheredOne observe i now mid new → HasGatheredSome observe i now (taken + 1) old new
  gathered_more {i} {now} {taken} {old} {mid} {new} before one = let n = before.many in let more = one.one in record {
    stands = one.stands;
    served = one.served;
    gathering = one.gathering;
    many = omega (arith, n, more);
    some = λ none. absurd (omega (arith, none));
    took = λ l. one.took;
    only = adds_both (IsTakeOf i) old.log mid.log new.log before.only one.only;
    leaves = leaves_both before.leaves one.leaves;
    size = one.size ∙ before.size;
  }

  -- where none is left something was taken
  pub gathered_all : {i now taken : ℕ} {old new : EngineState P} → HasGatheredSome observe i now taken old new → is_empty (buffered new.log i) ≡ true →
      took_since new.log i ≡ true
  gathered_all {taken = zero} some none = let contrary = some.some refl in cc
  gathered_all {taken = suc n} some none = some.took (omega arith)

  -- WHAT IS TO BE DONE THEN
  -- it judges what it took
  pub gathered_judge : {i now : ℕ} {old new : EngineState P} → Stands observe new → IsServed new → IsGathering new i now → took_since new.log i ≡ true →
      OnlyAdds (IsTakeOf i) old.log new.log → Leaves old new → length new.states ≡ length old.states → HasGathered observe i old new job.Judge
  gathered_judge {i} {new = new} stands served gathering took only leaves size = record {
    stands = stands;
    served = served;
    given = record { transform = gathering.transform; took = took; settled = gathering.settled };
    settled = gathering.settled;
    untaken = λ other. absurd (other refl);
    kept = kept_here new.places i gathering.kept;
    only = only;
    leaves = leaves;
    size = size;
  }

  -- or does what it was leased for, where it takes nothing
  pub gathered_else : {engine : EngineState P} {i : ℕ} (now : ℕ) (work : Job) → Stands observe engine → IsServed engine → IsSome (parcels_here engine.places (Held i)) →
      owes_discards engine.log i ≡ false → owes_answer engine.log i ≡ false → takes_first work ≡ false → (work ≡ job.Judge → ⊥) →
      MayGather engine i now work → HasGathered observe i engine engine work
  gathered_else {engine} {i} now work stands served kept settled untaken first other may = record {
    stands = stands;
    served = served;
    given = given_else engine i now work first other may;
    settled = settled;
    untaken = λ none. untaken;
    kept = kept;
    only = adds_none (IsTakeOf i) engine.log engine.log refl;
    leaves = record { states = each_stays engine.states; capacities = λ j. (refl, refl); run = refl };
    size = refl;
  }
