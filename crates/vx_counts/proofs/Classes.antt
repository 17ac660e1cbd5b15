-- The class of sources and sinks, and the tally by the class.
use Rattle.std.proofs.Common.{◌≡◌, ℕ, Bool, true, false, Option, Some, None, List, [], ◌⊎◌, inl, inr, refl, ap}
use Rattle.vx_plan.specs.declared.class.Class.{Class}
use Rattle.vx_plan.specs.declared.class.Class.TheVariants.{Source, Transform, Sink}
use Rattle.vx_plan.specs.declared.component.Component.{Component}
use Rattle.vx_plan.specs.Components.{is_source, is_transform, is_sink, transform_stages, sink_stages, stages}
use Rattle.vx_plan.specs.declared.stage.Stage.{Stage}
use Rattle.vx_record.specs.declared.tally.Tally.{Tally}
use Rattle.vx_record.specs.Records.{Record}
use Rattle.vx_record.specs.Installs.{component_of}
use Rattle.vx_record.specs.Stages.{filled_from, first_filled}
use Rattle.vx_record.specs.Tally.{nothing_counted}
use Rattle.vx_record.specs.Tallies.{source_tally, transform_tally, sink_tally, tally}
use Rattle.vx_counts.specs.Classes.{class_at}
use Rattle.vx_counts.specs.Laws.{SourceIs, TransformIs, SinkIs}

source_class : (k : Class) → elim k [ Source ↦ true | Transform ↦ false | Sink ↦ false ] ≡ true → k ≡ Source
source_class Source is = refl
source_class Transform is = absurd (cc)
source_class Sink is = absurd (cc)

transform_class : (k : Class) → elim k [ Source ↦ false | Transform ↦ true | Sink ↦ false ] ≡ true → k ≡ Transform
transform_class Source is = absurd (cc)
transform_class Transform is = refl
transform_class Sink is = absurd (cc)

sink_class : (k : Class) → elim k [ Source ↦ false | Transform ↦ false | Sink ↦ true ] ≡ true → k ≡ Sink
sink_class Source is = absurd (cc)
sink_class Transform is = absurd (cc)
sink_class Sink is = refl

pub source_is : SourceIs
source_is h i = go (component_of h i)
  where
    go : (o : Option Component) → elim o as (λ _. Bool) [ None ↦ false | Some c ↦ is_source c ] ≡ true →
        elim o as (λ _. Option Class) [ None ↦ None | Some c ↦ Some c.class ] ≡ Some Source
    go None is = absurd (cc)
    go (Some c) is = ap (λ (k : Class). Some k) (source_class c.class is)

pub transform_is : TransformIs
transform_is h i = go (component_of h i)
  where
    go : (o : Option Component) → elim o as (λ _. Bool) [ None ↦ false | Some c ↦ is_transform c ] ≡ true →
        elim o as (λ _. Option Class) [ None ↦ None | Some c ↦ Some c.class ] ≡ Some Transform
    go None is = absurd (cc)
    go (Some c) is = ap (λ (k : Class). Some k) (transform_class c.class is)

pub sink_is : SinkIs
sink_is h i = go (component_of h i)
  where
    go : (o : Option Component) → elim o as (λ _. Bool) [ None ↦ false | Some c ↦ is_sink c ] ≡ true →
        elim o as (λ _. Option Class) [ None ↦ None | Some c ↦ Some c.class ] ≡ Some Sink
    go None is = absurd (cc)
    go (Some c) is = ap (λ (k : Class). Some k) (sink_class c.class is)

abbrev pub by_class : Record → ℕ → Class → Tally
by_class h i k = elim k as (λ _. Tally) [ Source ↦ source_tally h i | Transform ↦ transform_tally h i | Sink ↦ sink_tally h i ]

pub tally_is : (h : Record) (i : ℕ) (k : Class) → class_at h i ≡ Some k → tally h i ≡ by_class h i k
tally_is h i k = go (component_of h i)
  where
    go : (o : Option Component) → elim o as (λ _. Option Class) [ None ↦ None | Some c ↦ Some c.class ] ≡ Some k →
        elim o as (λ _. Tally) [ None ↦ nothing_counted | Some c ↦ by_class h i c.class ] ≡ by_class h i k
    go None is = absurd (cc)
    go (Some c) is = let same : c.class ≡ k = cc in ap (by_class h i) same

-- what takes from a buffer is a transform or a sink
pub taker_is : (h : Record) (i s : ℕ) → first_filled h i ≡ Some s → (class_at h i ≡ Some Transform) ⊎ (class_at h i ≡ Some Sink)
taker_is h i s = go (component_of h i)
  where
    of_class : (c : Component) (k : Class) → c.class ≡ k → filled_from 0 h i (elim k as (λ _. List Stage) [ Source ↦ [] | Transform ↦ transform_stages | Sink ↦ sink_stages c.settings ]) ≡ Some s →
        (Some c.class ≡ Some Transform) ⊎ (Some c.class ≡ Some Sink)
    of_class c Source is filled = absurd (cc)
    of_class c Transform is filled = inl (ap (λ (k : Class). Some k) is)
    of_class c Sink is filled = inr (ap (λ (k : Class). Some k) is)

    go : (o : Option Component) → filled_from 0 h i (elim o as (λ _. List Stage) [ None ↦ [] | Some c ↦ stages c ]) ≡ Some s →
        (elim o as (λ _. Option Class) [ None ↦ None | Some c ↦ Some c.class ] ≡ Some Transform) ⊎ (elim o as (λ _. Option Class) [ None ↦ None | Some c ↦ Some c.class ] ≡ Some Sink)
    go None filled = absurd (cc)
    go (Some c) filled = of_class c c.class refl filled
