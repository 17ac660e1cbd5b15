-- What is known of an instance by its state is what the record has of it.
use Rattle.std.proofs.Common.{◌≡◌, ◌∙◌, ℕ, zero, suc, ◌<◌, Bool, true, false, ◌&&◌, ◌||◌, List, [], ◌∷◌, length, Option, Some, None, IfSome, IsSomeAnd, refl, sym, ap, subst, arith}
use Rattle.std.specs.Prelude.{◌==◌, ◌↔◌, not, nat_le, is_some, slice_get, if◌then◌else◌}
use Rattle.std.proofs.lemmas.Bool.Decides.{nat_tests}
use Rattle.vx_ends.specs.Observation.{Observation}
use Rattle.vx_plan.specs.declared.class.Class.{Class}
use Rattle.vx_plan.specs.declared.class.Class.TheVariants.{Source, Transform, Sink}
use Rattle.vx_plan.specs.declared.component.Component.{Component}
use Rattle.vx_plan.specs.Components.{is_source, is_transform, is_sink}
use Rattle.vx_record.specs.Records.{Record}
use Rattle.vx_record.specs.declared.entry.Entry.TheVariants.{SourceLost}
use Rattle.vx_record.specs.Ceasing.{lost_at, cause_of}
use Rattle.vx_record.specs.Confirms.{is_confirm_due}
use Rattle.vx_record.specs.Installs.{component_of, source_at, transform_at, sink_at, device_at, is_marked}
use Rattle.vx_record.specs.Owing.{owes, all_noticed}
use Rattle.vx_record.specs.Reads.{all_ended, is_lost}
use Rattle.vx_record.specs.Ready.{reading_moment, is_heir, can_read, source_waits}
use Rattle.vx_record.specs.Routing.{stopped, drains, is_out_from_before, is_dry, is_sent}
use Rattle.vx_record.proofs.Ceasing.{unmarked}
use Rattle.vx_record.proofs.Wired.{component_in_place}
use Rattle.vx_places.specs.Looks.{HasSent}
use Rattle.vx_places.proofs.Recorded.{sent_is}
use Rattle.vx_tasks.specs.declared.task.Task.{Task}
use Rattle.vx_instances.specs.declared.state.InstanceState.{InstanceState}
use Rattle.vx_instances.specs.Knowing.{IsFittedTo, IsKnown, HasUnleasedTask}
use Rattle.vx_instances.proofs.Aside.{noticed_all, confirm_due}
use Rattle.vx_instances.proofs.Knowing.{device_fits}
use Rattle.vx_moves.specs.declared.engine.EngineState.{EngineState}
use Rattle.vx_moves.specs.Stands.{Stands}
use Rattle.vx_ready.specs.Asking.{source_class, transform_class, sink_class, IsUnleased, IsSettled}
use Rattle.vx_ready.proofs.Heirs.{heir}
use Rattle.vx_ready.proofs.Testing.{same_tests, or_false, and_true}

-- an instance runs a component, of a class
pub record Runs (h : Record) (i : ℕ) (class : Class) : Type 0 where
  pub component : Component
  pub there : component_of h i ≡ Some component
  pub class_is : class ≡ component.class

pub source_runs : (h : Record) (i : ℕ) (class : Class) → Runs h i class → source_at h i ≡ source_class class
source_runs h i class runs =
    ap (λ (o : Option Component). elim o [ None ↦ false | Some c ↦ is_source c ]) runs.there
    ∙ ap (λ (x : Class). elim x [ Source ↦ true | Transform ↦ false | Sink ↦ false ]) (sym runs.class_is)

pub transform_runs : (h : Record) (i : ℕ) (class : Class) → Runs h i class → transform_at h i ≡ transform_class class
transform_runs h i class runs =
    ap (λ (o : Option Component). elim o [ None ↦ false | Some c ↦ is_transform c ]) runs.there
    ∙ ap (λ (x : Class). elim x [ Source ↦ false | Transform ↦ true | Sink ↦ false ]) (sym runs.class_is)

pub sink_runs : (h : Record) (i : ℕ) (class : Class) → Runs h i class → sink_at h i ≡ sink_class class
sink_runs h i class runs =
    ap (λ (o : Option Component). elim o [ None ↦ false | Some c ↦ is_sink c ]) runs.there
    ∙ ap (λ (x : Class). elim x [ Source ↦ false | Transform ↦ false | Sink ↦ true ]) (sym runs.class_is)

-- an instance was lost where it is told after how many bytes
lost_so : (h : Record) (i : ℕ) → is_lost h i ≡ is_some (lost_at h i)
lost_so [] i = refl
lost_so (SourceLost j after failed ∷ h) i = go (j == i) (lost_so h i)
  where
    go : (b : Bool) → is_lost h i ≡ is_some (lost_at h i) → (b || is_lost h i) ≡ is_some (if b then Some after else lost_at h i)
    go true later = refl
    go false later = later
lost_so (e ∷ h) i = lost_so h i

-- nothing drains
pub undraining : (source marked : Bool) → marked ≡ false → (marked || (source && is_some (stopped []))) ≡ false
undraining true true e = cc
undraining true false e = refl
undraining false true e = cc
undraining false false e = refl

dry_without : (source ended lost drained out : Bool) → drained ≡ false → (source && (ended || lost || (drained && not out))) ≡ (source && (ended || lost))
dry_without source ended lost true out e = cc
dry_without source ended lost false out e = ap (λ b. source && b) (or_false (ended || lost) false refl)

module _ {P : Type 0} (observe : P → Observation) (engine : EngineState P) (stands : Stands observe engine) (i : ℕ) (state : InstanceState P) (at : slice_get engine.states i ≡ Some state) where
  pub known : IsKnown observe state engine.log i
  known = subst (λ (o : Option (InstanceState P)). IfSome o (λ s. IsKnown observe s engine.log i)) at (stands.states.each i)

  pub runs : Runs engine.log i state.class
  runs = go (component_of engine.log i) refl known.fitted.component
    where
      go : (o : Option Component) → component_of engine.log i ≡ o → IsSomeAnd o (IsFittedTo state) → Runs engine.log i state.class
      go None there is = absurd is
      go (Some c) there is = record { component = c; there = there; class_is = is.class }

  pub source_is : source_class state.class ≡ source_at engine.log i
  source_is = sym (source_runs engine.log i state.class runs)

  pub transform_is : transform_class state.class ≡ transform_at engine.log i
  transform_is = sym (transform_runs engine.log i state.class runs)

  pub sink_is : sink_class state.class ≡ sink_at engine.log i
  sink_is = sym (sink_runs engine.log i state.class runs)

  pub device_is : state.device ≡ device_at engine.log i
  device_is = sym (device_fits state engine.log i known.fitted)

  pub dry_is : (source_class state.class && (state.facts.over || is_some state.facts.lost)) ≡ is_dry engine.log i
  dry_is =
      ap (λ b. b && (state.facts.over || is_some state.facts.lost)) source_is
      ∙ ap (λ b. source_at engine.log i && (b || is_some state.facts.lost)) known.facts.over
      ∙ ap (λ (o : Option ℕ). source_at engine.log i && (all_ended engine.log i || is_some o)) known.facts.lost
      ∙ ap (λ b. source_at engine.log i && (all_ended engine.log i || b)) (sym (lost_so engine.log i))
      ∙ sym (dry_without (source_at engine.log i) (all_ended engine.log i) (is_lost engine.log i) (drains engine.log i) (is_out_from_before engine.log i)
      (undraining (source_at engine.log i) (is_marked engine.log i) (unmarked engine.log i stands.legal)))

  -- an instance that is settled has its unleased task, and owes nothing
  pub unleased : IsSettled engine i → (task : Task P) × ((state.task ≡ Some task) × (state.facts.owing ≡ false))
  unleased settled = go state.task refl (subst (λ (o : Option (InstanceState P)). IsSomeAnd o IsUnleased) at settled.unleased)
    where
      go : (o : Option (Task P)) → state.task ≡ o → IsUnleased state → (task : Task P) × ((state.task ≡ Some task) × (state.facts.owing ≡ false))
      go None none is = let some = is.task in cc
      go (Some task) there is = (task, (there, is.settled))

  pub going : IsSettled engine i → cause_of engine.log ≡ None
  going settled = sym stands.run.cause ∙ settled.going

  pub unleased_there : IsSettled engine i → (task : Task P) × HasUnleasedTask observe state.facts engine.log i task
  unleased_there settled =
      let has = unleased settled in
      (has.0, subst (λ (o : Option (Task P)). IfSome o (HasUnleasedTask observe state.facts engine.log i)) has.1.0 known.unleased)

  pub owes_none : IsSettled engine i → owes engine.log i ≡ false
  owes_none settled = (unleased_there settled).1.settled (unleased settled).1.1 (going settled)

  pub due_is : IsSettled engine i → (state.device && is_some state.progress.prefix.due) ≡ is_confirm_due engine.log i
  due_is settled =
      let has = unleased settled in
      confirm_due observe engine.log i engine.states state has.0 at has.1.0 has.1.1 (going settled) stands.legal stands.states

  pub noticed_is : (state.progress.unnoticed == 0) ≡ all_noticed engine.log i
  noticed_is =
      let says = noticed_all observe engine.log i engine.states state at stands.states in
      same_tests (state.progress.unnoticed == 0) (all_noticed engine.log i)
      (λ zero. says.0 (grind (arith, nat_tests, zero)), λ all. let none = says.1 all in grind (arith, nat_tests, none))

  heir_is : is_heir engine.log i ≡ true
  heir_is = heir engine.log engine.run.plan i runs.component stands.legal stands.run.installed
      (sym (component_in_place engine.log engine.run.plan i stands.legal stands.run.installed) ∙ runs.there)

  -- a source can be read once it has rested
  pub reads_at : (more : Bool) (now : ℕ) → more ≡ (is_sent engine.log i && not (is_dry engine.log i)) → (more && nat_le state.facts.reads_from now) ≡ can_read engine.log i now
  reads_at more now more_is =
      ap (λ b. b && nat_le state.facts.reads_from now) more_is
      ∙ ap (λ m. is_sent engine.log i && not (is_dry engine.log i) && nat_le m now) known.facts.reads_from
      ∙ sym (and_true (is_sent engine.log i && not (is_dry engine.log i) && nat_le (reading_moment engine.log i) now) (is_heir engine.log i) heir_is)

  -- and waits until then
  pub waits_at : (more : Bool) → more ≡ (is_sent engine.log i && not (is_dry engine.log i)) → (if more then Some state.facts.reads_from else None) ≡ source_waits engine.log i
  waits_at more more_is =
      ap (λ (b : Bool). if b then Some state.facts.reads_from else None) (more_is ∙ sym (and_true (is_sent engine.log i && not (is_dry engine.log i)) (is_heir engine.log i) heir_is))
      ∙ ap (λ (m : ℕ). if is_sent engine.log i && not (is_dry engine.log i) && is_heir engine.log i then Some m else None) known.facts.reads_from

-- the state of an instance that is there
pub state_there : {P : Type 0} (states : List (InstanceState P)) (i : ℕ) → i < length states → (state : InstanceState P) × (slice_get states i ≡ Some state)
state_there [] i below = absurd (omega (arith, below))
state_there (state ∷ states) zero below = (state, refl)
state_there (state ∷ states) (suc i) below = state_there states i (omega (arith, below))

-- whether everything is sent
pub sent_same : {P : Type 0} (observe : P → Observation) (engine : EngineState P) (i : ℕ) (sent : Bool) → Stands observe engine → (sent ≡ true) ↔ HasSent engine.places i → sent ≡ is_sent engine.log i
sent_same observe engine i sent stands says =
    let law = sent_is engine.log engine.places i stands.legal stands.places in
    same_tests sent (is_sent engine.log i) (λ e. law.0 (says.0 e), λ e. says.1 (law.1 e))
