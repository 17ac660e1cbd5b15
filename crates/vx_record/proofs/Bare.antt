-- Nothing stands at what is retired.
use Rattle.std.proofs.Common.{◌≡◌, ℕ, Bool, true, false, [], ◌∷◌, List, Option, Some, None, refl, sym, ap, subst, inl, inr}
use Rattle.std.specs.Prelude.{◌==◌, ◌⊎◌}
use Rattle.std.proofs.lemmas.Bool.{eqb-true}
use Rattle.vx_plan.specs.declared.class.Class.{Class}
use Rattle.vx_plan.specs.declared.class.Class.TheVariants.{Source, Transform, Sink}
use Rattle.vx_plan.specs.declared.component.Component.{Component}
use Rattle.vx_plan.specs.declared.settings.Settings.{Settings}
use Rattle.vx_plan.specs.declared.stage.Stage.{Stage}
use Rattle.vx_plan.specs.Components.{stages, is_source, transform_stages, sink_stages}
use Rattle.vx_record.specs.Records.{Record}
use Rattle.vx_record.specs.declared.entry.Entry.{Entry}
use Rattle.vx_record.specs.declared.entry.Entry.TheVariants.{Install, Push}
use Rattle.vx_record.specs.Lists.{held, is_bare}
use Rattle.vx_record.specs.Stages.{stages_of, room_from, first_room}
use Rattle.vx_record.specs.Installs.{component_of, source_at}
use Rattle.vx_record.specs.Abandoning.{abandoned}
use Rattle.vx_record.specs.Owing.{is_done}
use Rattle.vx_record.specs.Legal.{IsLegal}
use Rattle.vx_record.specs.Promises.{RetiredBare}
use Rattle.vx_record.proofs.OnePlace.{conserved}
use Rattle.vx_record.proofs.Vacant.{Unfilled, enters, sent_of, unfilled_of, unfilled_on, bare_of}
use Rattle.vx_record.proofs.Done.{source_tests, worker_tests}

-- nothing enters an instance without a stage
pub unstaged_unentered : (h : Record) (e : Entry) (i : ℕ) → IsLegal (e ∷ h) → stages_of h i ≡ [] → enters i e ≡ false
unstaged_unentered h (Push j t s copies) i legal none = go (t == i) refl
  where
    go : (b : Bool) → (t == i) ≡ b → b ≡ false
    go true here =
        let room : first_room h i ≡ Some s = subst (λ (k : ℕ). first_room h k ≡ Some s) (eqb-true t i here) legal.0.row.room in
        let full : first_room h i ≡ None = ap (room_from 0 h i) none in cc
    go false here = refl
unstaged_unentered h e i legal none = refl

-- so it takes nothing in
unstaged_unfilled : (h : Record) (i : ℕ) → IsLegal h → stages_of h i ≡ [] → Unfilled h i
unstaged_unfilled [] i legal none = record { buffer = λ s. refl; holdings = refl }
unstaged_unfilled (Install version plan once instances now ∷ h) i legal none =
    unfilled_on h (Install version plan once instances now) i (conserved (Install version plan once instances now ∷ h) legal) refl
    (subst (λ (k : Record). Unfilled k i) (sym legal.0.row.first) (record { buffer = λ s. refl; holdings = refl }))
unstaged_unfilled (e ∷ h) i legal none = unfilled_on h e i (conserved (e ∷ h) legal) (unstaged_unentered h e i legal none) (unstaged_unfilled h i legal.1 none)

pub none_held : (h : Record) (i : ℕ) → IsLegal h → stages_of h i ≡ [] → held h i ≡ []
none_held h i legal none = (unstaged_unfilled h i legal none).holdings

-- as a source does
pub source_unstaged : (h : Record) (i : ℕ) → source_at h i ≡ true → stages_of h i ≡ []
source_unstaged h i is = go (component_of h i) is
  where
    by_class : (class : Class) (settings : Settings) → (elim class [ Source ↦ true | Transform ↦ false | Sink ↦ false ]) ≡ true →
        ◌≡◌ {A = List Stage} (elim class [ Source ↦ [] | Transform ↦ transform_stages | Sink ↦ sink_stages settings ]) []
    by_class Source settings is = refl
    by_class Transform settings is = cc
    by_class Sink settings is = cc

    go : (o : Option Component) → (elim o [ None ↦ false | Some c ↦ is_source c ]) ≡ true → ◌≡◌ {A = List Stage} (elim o [ None ↦ [] | Some c ↦ stages c ]) []
    go None is = cc
    go (Some c) is = by_class c.class c.settings is

pub retired_bare : RetiredBare
retired_bare h i legal row = go row.over
  where
    by_class : (b : Bool) → source_at h i ≡ b → is_done h i ≡ true → is_bare h i ≡ true
    by_class true source done =
        bare_of h i (sent_of h i ((source_tests h i source done).sent)) (unstaged_unfilled h i legal (source_unstaged h i source))
    by_class false worker done =
        let tests = worker_tests h i worker done in
        bare_of h i (sent_of h i tests.sent) (unfilled_of h i tests.drained tests.emptied)

    go : (is_done h i ≡ true) ⊎ ((abandoned h ≡ true) × (is_bare h i ≡ true)) → is_bare h i ≡ true
    go (inl done) = by_class (source_at h i) refl done
    go (inr gone) = gone.1
