-- The instances that merge are asked one by one.
use Rattle.std.proofs.Common.{◌≡◌, ◌∙◌, ℕ, ◌<◌, ◌≤◌, Bool, true, false, List, ◌∷◌, length, Option, Some, None, IfSome, refl, sym, ap, subst, arith}
use Rattle.std.specs.Prelude.{◌==◌, if◌then◌else◌, IsSomeAnd, slice_get}
use Rattle.std.proofs.lemmas.Bool.{eq-eqb}
use Rattle.vx_ends.specs.Observation.{Observation}
use Rattle.vx_plan.specs.declared.component.Component.{Component}
use Rattle.vx_record.specs.declared.entry.Entry.{Entry}
use Rattle.vx_record.specs.declared.entry.Entry.TheVariants.{Lease, Take, Tick, Answer, Spent, Notice, Home}
use Rattle.vx_record.specs.Records.{Record}
use Rattle.vx_record.specs.Installs.{component_of}
use Rattle.vx_record.specs.Legal.{Follows}
use Rattle.vx_record.specs.Turns.{lease_now}
use Rattle.vx_record.proofs.Adding.{adds_narrower}
use Rattle.vx_record.proofs.Wired.{component_in_place}
use Rattle.vx_tasks.specs.Joining.{joins_at}
use Rattle.vx_moves.specs.declared.engine.EngineState.{EngineState}
use Rattle.vx_moves.specs.Stands.{Stands}
use Rattle.vx_moves.specs.declared.run.Run.{Run}
use Rattle.vx_landing.specs.Merging.{ComesMerged, HasMerged}
use Rattle.vx_hub.specs.declared.hub.Hub.{Hub}
use Rattle.vx_hub.specs.Merges.{IsMergeAt, HasDoneOne, NoneMergesAt, NoneMerges, NoTickDue}
use Rattle.vx_hub.specs.Standing.{AreMergers, IsHub, IsWell, merges}
use Rattle.vx_hub.proofs.Leases.{none_ready_at}

module _ {P : Type 0} {observe : P → Observation} {engine : EngineState P} (stands : Stands observe engine) (mergers : List ℕ)
    (are : AreMergers engine.run.plan.components (length engine.states) mergers) where
  in_place : (i : ℕ) → component_of engine.log i ≡ slice_get engine.run.plan.components i
  in_place i = component_in_place engine.log engine.run.plan i stands.legal stands.run.installed

  -- each that is kept is one
  pub merger_among : (k i : ℕ) → slice_get mergers k ≡ Some i → (i < length engine.states) × (joins_at engine.log i ≡ true)
  merger_among k i at =
      let is = subst (λ (o : Option ℕ). IfSome o (λ j. (j < length engine.states) × IsSomeAnd (slice_get engine.run.plan.components j) (λ c. merges c ≡ true))) at (are.only k) in
      (is.0, subst (λ (o : Option Component). (elim o [ None ↦ false | Some c ↦ merges c ]) ≡ true) (sym (in_place i)) (there (slice_get engine.run.plan.components i) is.1))
    where
      there : (o : Option Component) → IsSomeAnd o (λ c. merges c ≡ true) → (elim o [ None ↦ false | Some c ↦ merges c ]) ≡ true
      there None never = absurd never
      there (Some c) is = is

  -- and each one is kept, so it was asked
  pub each_merger : (F : ℕ → Type 0) → ((k : ℕ) → IfSome (slice_get mergers k) F) → (i : ℕ) → joins_at engine.log i ≡ true → F i
  each_merger F none i joins = go (slice_get engine.run.plan.components i) (are.all i) (subst (λ (o : Option Component). (elim o [ None ↦ false | Some c ↦ merges c ]) ≡ true) (in_place i) joins)
    where
      go : (o : Option Component) → IfSome o (λ c. merges c ≡ true → (k : ℕ) × (slice_get mergers k ≡ Some i)) → (elim o [ None ↦ false | Some c ↦ merges c ]) ≡ true → F i
      go None all is = cc
      go (Some c) all is = let at = all is in subst (λ (o : Option ℕ). IfSome o F) at.1 (none at.0)

  -- where none has anything to do, none of them is ready
  pub none_merges : (now : ℕ) → IsWell engine → engine.run.latest ≤ now → ((k : ℕ) → IfSome (slice_get mergers k) (NoneMergesAt engine now)) → NoneMerges engine.log now
  none_merges now well latest none going i within unleased joins =
      let size = stands.states.size in
      none_ready_at now i stands well (stands.run.cause ∙ going) latest (rw size within) unleased (each_merger (NoneMergesAt engine now) none i joins).unready

  -- and of none is a tick due
  pub no_tick_due : (now : ℕ) → ((k : ℕ) → IfSome (slice_get mergers k) (NoneMergesAt engine now)) → NoTickDue engine now
  no_tick_due now none i joins = (each_merger (NoneMergesAt engine now) none i joins).early

-- WHAT ONE DID
self : (i : ℕ) → (i == i) ≡ true
self i = eq-eqb i i refl

-- what an instance does since it was leased at a moment is of that moment
of_moment : (i now : ℕ) (h : Record) (e : Entry) → Follows h e → ComesMerged i h e → lease_now h i ≡ now → IsMergeAt i now h e × (lease_now (e ∷ h) i ≡ now)
of_moment i now h (Take j stage copies) follows kind same = (kind, same)
of_moment i now h (Tick j moment) follows kind same = ((kind, follows.row.of_lease ∙ (ap (lease_now h) kind ∙ same)), same)
of_moment i now h (Answer j outputs discarded kept) follows kind same = (kind, same)
of_moment i now h (Spent j c outcome) follows kind same = (kind, same)
of_moment i now h (Notice b status) follows kind same = (kind, same)
of_moment i now h (Home j) follows kind same = (kind, same)
of_moment i now h e follows kind same = absurd kind

leased_then : (i worker now : ℕ) (h : Record) → lease_now (Lease i worker now 0 ∷ h) i ≡ now
leased_then i worker now h = ap (λ (b : Bool). if b then now else lease_now h i) (self i)

module _ {P : Type 0} {observe : P → Observation} {old new : EngineState P} {i worker now : ℕ} (merged : HasMerged observe i worker now old new) where
  pub done_one : joins_at old.log i ≡ true → HasDoneOne worker now old.log new.log
  done_one joins = record {
    who = i;
    joins = joins;
    noted = adds_narrower (ComesMerged i) (IsMergeAt i now) (λ h. lease_now h i ≡ now) (of_moment i now) (Lease i worker now 0 ∷ old.log) new.log merged.noted (leased_then i worker now old.log);
    unleased = merged.unleased;
  }

-- and then the hub stands for its record
pub hub_merged : {P : Type 0} {observe : P → Observation} {hub : Hub P} {engine : EngineState P} {fatal : Bool} {i worker now : ℕ} → IsHub observe hub →
    HasMerged observe i worker now hub.engine engine → (fatal ≡ false → IsWell engine) → IsHub observe (record hub { engine = engine; fatal = fatal })
hub_merged {hub = hub} {engine} is merged well =
    let size = merged.size in
    let room = is.port_slots in
    let plan = ap (λ (r : Run). r.plan) merged.run in record {
      stands = merged.stands;
      served = merged.served;
      lent = merged.lent;
      well = well;
      fed = merged.fed is.fed;
      away = merged.away;
      port_slots = omega (arith, size, room);
      none = is.none;
      sources = rw (plan, size) is.sources;
      mergers = rw (plan, size) is.mergers;
    }
