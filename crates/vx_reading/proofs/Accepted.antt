-- The plan of an accepted configuration may be installed.
use Rattle.std.proofs.Common.{◌≡◌, Bool, true, false, List, [], ◌∷◌, ◌++◌, Option, Some, None, Result, Ok, Err, IfOk, refl, sym, ◌∙◌, ap, subst}
use Rattle.std.specs.Prelude.{map, not, ◌&&◌, ◌||◌, option_and_then}
use Rattle.std.specs.List.{AllByRecursion, list_any, list_all, flat_map}
use Rattle.toml.specs.Data.{Data, as_str}
use Rattle.vx_value.specs.Texts.{ByteString, same_text, is_empty}
use Rattle.vx_graph.specs.Faults.{IsAccepted}
use Rattle.vx_graph.specs.Order.{in_order}
use Rattle.vx_plan.specs.Graphs.{nodes_of}
use Rattle.vx_plan.specs.Accepted.{names_differ, same_class, fits_class, has_stage, IsPlan}
use Rattle.vx_plan.specs.declared.class.Class.{Class}
use Rattle.vx_plan.specs.declared.class.Class.TheVariants.{Source, Transform, Sink}
use Rattle.vx_plan.specs.declared.component.Component.{Component}
use Rattle.vx_plan.specs.declared.global.Global.{Global as Options}
use Rattle.vx_plan.specs.declared.plan.Plan.{Plan}
use Rattle.vx_plan.specs.declared.stage.Stage.{Stage}
use Rattle.vx_plan.proofs.Tests.{and_made, and_both, passing}
use Rattle.vx_reading.specs.declared.kind.Kind.{Kind}
use Rattle.vx_reading.specs.declared.kind.Kind.TheVariants.{Console, FileOut, Blackhole}
use Rattle.vx_reading.specs.declared.plan_fault.PlanFault.{PlanFault}
use Rattle.vx_reading.specs.Components.{Part, parts, kind_of, type_in}
use Rattle.vx_reading.specs.Names.{AreApart, names_of, AreApartByClass}
use Rattle.vx_reading.specs.Options.{kinds, kind_class, kind_name, kind_named}
use Rattle.vx_reading.specs.Plans.{component, component_of, global_of}
use Rattle.vx_reading.specs.Stages.{stages_of, stage_of, or_default}
use Rattle.vx_reading.specs.declared.reading.ReadPlan.{ReadPlan}
use Rattle.vx_reading.specs.Answers.{plan_in}
use Rattle.vx_reading.specs.Reading.{IsPlanOf, IsJudged}
use Rattle.vx_reading.proofs.Apart.{judged_apart}

-- a name that is none of some components'
none_named : (name : ByteString) (components : List Component) → AllByRecursion (λ (other : ByteString). same_text other name ≡ false) (names_of components) →
    list_any (λ (d : Component). same_text d.name name) components ≡ false
none_named name [] all = refl
none_named name (c ∷ rest) all = ap (λ b. b || list_any (λ (d : Component). same_text d.name name) rest) all.0 ∙ none_named name rest all.1

-- names that are apart differ
pub apart_differ : (components : List Component) → AreApart (names_of components) → names_differ components ≡ true
apart_differ [] apart = refl
apart_differ (c ∷ rest) apart = (λ i. not (none_named c.name rest apart.0 i) && apart_differ rest apart.1 i)

-- classes that are the same by the test are one
class_is : (a b : Class) → same_class a b ≡ true → a ≡ b
class_is Source Source e = refl
class_is Transform Transform e = refl
class_is Sink Sink e = refl
class_is a b e = cc

-- the component of a type, in the class of that type
abbrev pub in_class : Options → Part → Kind → Component
in_class whole part kind = record (component whole part kind) { class = kind_class kind }

-- what it passes there, it passes where it is
pub by_class : (test : Component → Bool) (whole : Options) (part : Part) (kind : Kind) → same_class (kind_class kind) part.class ≡ true →
    test (in_class whole part kind) ≡ true → test (component whole part kind) ≡ true
by_class test whole part kind same passes =
    subst (λ (class : Class). test (record (component whole part kind) { class = class }) ≡ true) (class_is (kind_class kind) part.class same) passes

-- a buffer has some stage
some_stage : (stages : List Stage) → not (is_empty (or_default stages)) ≡ true
some_stage [] = refl
some_stage (stage ∷ rest) = refl

-- a component of a type has options of its class, and a stage if it is a sink
kind_stands : (whole : Options) (part : Part) (kind : Kind) → (fits_class (in_class whole part kind) ≡ true) × (has_stage (in_class whole part kind) ≡ true)
kind_stands whole part Console = (refl, some_stage (map stage_of (stages_of part.value)))
kind_stands whole part FileOut = (refl, some_stage (map stage_of (stages_of part.value)))
kind_stands whole part Blackhole = (refl, some_stage (map stage_of (stages_of part.value)))
kind_stands whole part kind = (refl, refl)

-- the type of a component is one of its class
pub kind_class_of : (part : Part) (kind : Kind) → kind_of part ≡ Some kind → same_class (kind_class kind) part.class ≡ true
kind_class_of part kind is = go (option_and_then as_str (type_in part.value)) is
  where
    go : (o : Option ByteString) → option_and_then (kind_named part.class) o ≡ Some kind → same_class (kind_class kind) part.class ≡ true
    go None e = cc
    go (Some text) e =
        (and_both (same_class (kind_class kind) part.class) (same_text (kind_name kind) text)
        (passing (λ (k : Kind). same_class (kind_class k) part.class && same_text (kind_name k) text) kinds kind e)).0

-- what each component of a type passes, all pass
each_passes : (test : Component → Bool) (whole : Options) → ((part : Part) (kind : Kind) → test (in_class whole part kind) ≡ true) →
    (all : List Part) → list_all test (flat_map (component_of whole) all) ≡ true
each_passes test whole passes [] = refl
each_passes test whole passes (part ∷ rest) = go (kind_of part) refl (each_passes test whole passes rest)
  where
    go : (o : Option Kind) → kind_of part ≡ o → list_all test (flat_map (component_of whole) rest) ≡ true →
        list_all test ((elim o [ None ↦ [] | Some kind ↦ component whole part kind ∷ [] ]) ++ flat_map (component_of whole) rest) ≡ true
    go None is later = later
    go (Some kind) is later = and_made (test (component whole part kind)) (list_all test (flat_map (component_of whole) rest)) (by_class test whole part kind (kind_class_of part kind is) (passes part kind)) later

-- the plan that is answered of a document may be installed
pub judged_accepted : (refuses : ByteString → Bool) (root : Data) (answer : Result Plan PlanFault) → AreApartByClass root → IsJudged refuses root answer → IfOk answer IsPlan
judged_accepted refuses root (Ok plan) apart judged =
    let of : IsPlanOf refuses root plan = judged in
    let whole = global_of root in
    let differ : names_differ plan.components ≡ true = apart_differ plan.components (judged_apart refuses root (Ok plan) apart judged) in
    record {
      named = differ;
      fitting = ap (λ (p : Plan). list_all fits_class p.components) of.same ∙ each_passes fits_class whole (λ part kind. (kind_stands whole part kind).0) (parts root);
      staged = ap (λ (p : Plan). list_all has_stage p.components) of.same ∙ each_passes has_stage whole (λ part kind. (kind_stands whole part kind).1) (parts root);
      accepted = subst (λ (p : Plan). IsAccepted (in_order (nodes_of p))) (sym of.same) of.accepted;
    }
judged_accepted refuses root (Err fault) apart judged = tt

-- so may the plan that is read
pub read_accepted : (refuses : ByteString → Bool) (root : Data) (answer : Result ReadPlan PlanFault) → AreApartByClass root → IsJudged refuses root (plan_in answer) → IfOk answer (λ (read : ReadPlan). IsPlan read.plan)
read_accepted refuses root (Ok read) apart judged = judged_accepted refuses root (Ok read.plan) apart judged
read_accepted refuses root (Err fault) apart judged = tt
