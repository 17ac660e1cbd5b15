-- What is known of states as they begin.
use Rattle.std.proofs.Common.{◌≡◌, ◌≢◌, ◌∙◌, ℕ, zero, suc, ◌+◌, Bool, true, false, List, [], ◌∷◌, Option, Some, None, IfSome, IfNone, length, refl, sym, ap, arith, slice_get}
use Rattle.std.specs.Prelude.{map, IsSomeAnd}
use Rattle.std.proofs.lemmas.Bool.{and_right}
use Rattle.vx_value.specs.Texts.{ByteString}
use Rattle.vx_ends.specs.Observation.{Observation}
use Rattle.vx_plan.specs.declared.plan.Plan.{Plan}
use Rattle.vx_plan.specs.declared.component.Component.{Component}
use Rattle.vx_plan.specs.Accepted.{IsPlan}
use Rattle.vx_plan.specs.Components.{component_named, port_names}
use Rattle.vx_plan.specs.Numbers.{reader_numbers}
use Rattle.vx_plan.specs.Targets.{acknowledged}
use Rattle.vx_record.specs.declared.entry.Entry.TheVariants.{Install}
use Rattle.vx_record.specs.Copies.{counting}
use Rattle.vx_record.specs.Starting.{first_instances}
use Rattle.vx_record.specs.Wirings.{begun}
use Rattle.vx_record.specs.Installs.{Wiring, wiring, sink_at, transform_at}
use Rattle.vx_record.specs.Routing.{wired_targets}
use Rattle.vx_record.specs.Sourcing.{must_wait}
use Rattle.vx_record.proofs.FirstWiring.{started_stays, targets_of_first, wiring_of_first}
use Rattle.vx_record.proofs.Wired.{begun_legal, component_there}
use Rattle.vx_counts.proofs.Stays.{others_stay}
use Rattle.vx_tasks.specs.declared.task.Role.TheVariants.{Unfit}
use Rattle.vx_tasks.specs.declared.task.Task.{Task}
use Rattle.vx_tasks.specs.Unleased.{StandsAt, IsTaskOf}
use Rattle.vx_instances.specs.declared.facts.Facts.{Facts}
use Rattle.vx_instances.specs.declared.state.InstanceState.{InstanceState}
use Rattle.vx_instances.specs.Knowing.{HasFailed, HasUnleasedTask, IsKnown, Knows, judged_by, outlets_at, wired_outlets}
use Rattle.vx_instances.specs.Beginning.{AreNew, IsFresh, AreFresh}

length_counting : (from n : ℕ) → length (counting from n) ≡ n
length_counting from zero = refl
length_counting from (suc n) = ap suc (length_counting (from + 1) n)

map_same : {X Y : Type 0} (f g : X → Y) → ((x : X) → f x ≡ g x) → (xs : List X) → map f xs ≡ map g xs
map_same f g same [] = refl
map_same f g same (x ∷ xs) = rw (same x, map_same f g same xs) refl

module _ {P : Type 0} (observe : P → Observation) (plan : Plan) (once : Bool) (now : ℕ) (accepted : IsPlan plan) where
  -- each task is unleased: nothing is owed, and nothing was to be confirmed
  unleased_fresh : (f : Facts) (i : ℕ) (o : Option (Task P)) → AreNew f → IsSomeAnd o (λ task. (now : ℕ) → IsTaskOf observe (begun plan once now) i task) →
      IfSome o (λ task. task.role ≢ Unfit) → IfSome o (λ task. StandsAt task.role []) → IfSome o (HasUnleasedTask observe f (begun plan once now) i)
  unleased_fresh f i None new unleased fit kept = tt
  unleased_fresh f i (Some task) new unleased fit kept = record {
    unleased = refl;
    settled = λ owing going. and_right (transform_at (begun plan once now) i) false refl;
    answered = λ device owing going. refl;
    kept = λ owing going. kept;
    task_is = rw new.starved (unleased now);
    shut = λ is. let contrary : false ≡ true = sym new.closed ∙ is in cc;
    fit = λ known. fit;
  }

  away_fresh : (o : Option (Task P)) (F : Task P → Type 0) (A : Type 0) → IsSomeAnd o F → IfNone o A
  away_fresh None F A some = absurd some
  away_fresh (Some task) F A some = tt

  -- so are the readers of each port
  outlets_of_first : (i : ℕ) (c : Component) → slice_get plan.components i ≡ Some c → outlets_at (begun plan once now) i ≡ map (reader_numbers plan c.name) (counting 0 (length (port_names c)))
  outlets_of_first i c at =
      go (wiring (begun plan once now) i) (component_there (begun plan once now) plan i c (begun_legal plan once now accepted) refl at) (λ port. targets_of_first plan once now i port c at)
    where
      go : (o : Option Wiring) → (elim o as (λ _. Option Component) [ None ↦ None | Some w ↦ component_named w.plan w.name ]) ≡ Some c →
          ((port : ℕ) → (elim o as (λ _. List ℕ) [ None ↦ [] | Some w ↦ wired_targets port w ]) ≡ reader_numbers plan c.name port) →
          (elim o as (λ _. List (List ℕ)) [ None ↦ [] | Some w ↦ wired_outlets w ]) ≡ map (reader_numbers plan c.name) (counting 0 (length (port_names c)))
      go None runs read = cc
      go (Some w) runs read =
          ap (λ (o : Option Component). map (λ port. wired_targets port w) (elim o as (λ _. List ℕ) [ None ↦ [] | Some d ↦ counting 0 (length (port_names d)) ])) runs
          ∙ map_same (λ port. wired_targets port w) (reader_numbers plan c.name) read (counting 0 (length (port_names c)))

  -- whether batches must wait is known by the record of the install alone
  fresh_known : (i : ℕ) (state : InstanceState P) (c : Component) → slice_get plan.components i ≡ Some c → IsFresh observe plan once i state c →
      IsKnown observe state (begun plan once now) i
  fresh_known i state c at fresh =
      let waits : must_wait (begun plan once now) i ≡ acknowledged plan c.name = ap (λ (o : Option Wiring).
      elim (elim o as (λ _. Option Plan) [ None ↦ None | Some w ↦ Some w.plan ]) as (λ _. Bool) [ None ↦ false | Some p ↦ acknowledged p (elim o as (λ _. ByteString) [ None ↦ [] | Some w ↦ w.name ]) ])
      (wiring_of_first plan once now i c at) in
      record {
        fitted = record {
          component = rw (component_there (begun plan once now) plan i c (begun_legal plan once now accepted) refl at) fresh.fitted;
          outlet = fresh.outlet ∙ sym (outlets_of_first i c at);
        };
        facts = (let tried : sink_at (begun plan once now) i ≡ true → HasFailed (begun plan once now) i state.facts.failures state.facts.failed_at [] = λ sink copy here. absurd (omega (arith, here)) in assumption (fresh.facts, tried));
        progress = record { unnoticed = fresh.progress.unnoticed; waits = fresh.progress.waits_are ∙ sym waits; prefix = fresh.progress.prefix (judged_by (begun plan once now)) };
        counts = λ none. fresh.counts ∙ sym (others_stay (Install 0 plan once (first_instances 0 plan.components) now) [] i (begun_legal plan once now accepted) tt);
        unleased = unleased_fresh state.facts i state.task fresh.facts fresh.unleased fresh.fit fresh.kept;
        away = away_fresh state.task _ _ fresh.unleased;
      }

  pub fresh_knows : (states : List (InstanceState P)) → AreFresh observe plan once states → Knows observe states (begun plan once now)
  fresh_knows states fresh = record {
    size = fresh.size ∙ sym (ap length (started_stays [] plan once now (begun_legal plan once now accepted)) ∙ length_counting 0 (length plan.components));
    each = λ i. go i (slice_get states i) (slice_get plan.components i) refl (fresh.each i);
  }
    where
      go : (i : ℕ) (s : Option (InstanceState P)) (o : Option Component) → slice_get plan.components i ≡ o → IfSome s (λ state. IsSomeAnd o (IsFresh observe plan once i state)) →
          IfSome s (λ state. IsKnown observe state (begun plan once now) i)
      go i None o at is = tt
      go i (Some state) None at is = absurd is
      go i (Some state) (Some c) at is = fresh_known i state c at is
