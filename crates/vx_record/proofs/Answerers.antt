-- Only transforms answer, and no source or sink is one.
use Rattle.std.proofs.Common.{◌≡◌, ℕ, Bool, true, false, List, ◌∷◌, Option, Some, None, refl, sym, subst, ◌∙◌}
use Rattle.std.specs.Prelude.{◌==◌}
use Rattle.std.proofs.lemmas.Bool.{eqb-true}
use Rattle.vx_plan.specs.declared.class.Class.{Class}
use Rattle.vx_plan.specs.declared.class.Class.TheVariants.{Source, Transform, Sink}
use Rattle.vx_plan.specs.declared.component.Component.{Component}
use Rattle.vx_plan.specs.Components.{is_transform}
use Rattle.vx_record.specs.Records.{Record}
use Rattle.vx_record.specs.declared.output.Output.{Output}
use Rattle.vx_record.specs.declared.entry.Entry.TheVariants.{Answer}
use Rattle.vx_record.specs.Installs.{component_of, source_at, transform_at, sink_at}
use Rattle.vx_record.specs.Legal.{IsLegal}
use Rattle.vx_record.proofs.Ticks.{no_rule}

-- what is of another class is no transform
no_transform : (test : Class → Bool) → test Transform ≡ false → (o : Option Component) → (elim o [ None ↦ false | Some c ↦ test c.class ]) ≡ true →
    (elim o [ None ↦ false | Some c ↦ is_transform c ]) ≡ false
no_transform test none None is = refl
no_transform test none (Some c) is = go c.class is
  where
    go : (k : Class) → test k ≡ true → (elim k [ Source ↦ false | Transform ↦ true | Sink ↦ false ]) ≡ false
    go Source is = refl
    go Transform is = let no : true ≡ false = sym is ∙ none in cc
    go Sink is = refl

-- as a source
pub source_untransforming : (h : Record) (i : ℕ) → source_at h i ≡ true → transform_at h i ≡ false
source_untransforming h i is = no_transform (λ k. elim k [ Source ↦ true | Transform ↦ false | Sink ↦ false ]) refl (component_of h i) is

-- and a sink
pub sink_untransforming : (h : Record) (i : ℕ) → sink_at h i ≡ true → transform_at h i ≡ false
sink_untransforming h i is = no_transform (λ k. elim k [ Source ↦ false | Transform ↦ false | Sink ↦ true ]) refl (component_of h i) is

-- who answers is one
pub answerer : (h : Record) (i : ℕ) (made : List Output) (discarded kept : List ℕ) → IsLegal (Answer i made discarded kept ∷ h) → transform_at h i ≡ true
answerer h i made discarded kept legal = go (transform_at h i) refl
  where
    go : (b : Bool) → transform_at h i ≡ b → b ≡ true
    go true is = refl
    go false is = absurd (no_rule h i legal.0.row.rule is legal.0.row.follows)

-- so who is none doesn't
pub unanswering : (h : Record) (i j : ℕ) (made : List Output) (discarded kept : List ℕ) → IsLegal (Answer j made discarded kept ∷ h) → transform_at h i ≡ false → (j == i) ≡ false
unanswering h i j made discarded kept legal other = go (j == i) refl
  where
    go : (b : Bool) → (j == i) ≡ b → b ≡ false
    go true here =
        let same : j ≡ i = eqb-true j i here in
        let no : true ≡ false = sym (subst (λ (k : ℕ). transform_at h k ≡ true) same (answerer h j made discarded kept legal)) ∙ other in cc
    go false here = refl
