-- Each component of a plan that was read works with a port, or is a transform that picks or merges or is handed in, a source that makes its lines, or
-- a sink that writes nothing.
use Rattle.std.proofs.Common.{◌≡◌, ◌≤◌, inl, inr, Bool, true, List, [], ◌∷◌, ◌++◌, length, false, Option, Some, None, Ok, refl, sym, ap, subst, ◌∙◌, arith}
use Rattle.std.specs.Prelude.{◌&&◌, ◌||◌, nat_le}
use Rattle.std.specs.List.{AllByRecursion, list_all, flat_map}
use Rattle.std.proofs.lemmas.Bool.Decides.{nat_tests}
use Rattle.vx_value.specs.declared.variable.Variable.{Variable}
use Rattle.vx_value.specs.Texts.{ByteString}
use Rattle.vx_plan.specs.declared.global.Global.{Global}
use Rattle.vx_plan.specs.declared.plan.Plan.{Plan}
use Rattle.vx_plan.proofs.Tests.{and_made}
use Rattle.vx_reading.specs.declared.kind.Kind.{Kind}
use Rattle.vx_reading.specs.declared.kind.Kind.TheVariants.{DemoLogs, Route, Sample, Dedupe, Reduce}
use Rattle.vx_reading.specs.Components.{Part, parts, kind_of}
use Rattle.vx_reading.specs.Diagnostics.{diagnostics}
use Rattle.vx_reading.specs.Made.{is_made}
use Rattle.vx_reading.specs.Options.{most_period}
use Rattle.vx_reading.specs.Plans.{component, component_of, global_of, ways_of, rate_of, expire_of, flush_of}
use Rattle.vx_reading.specs.Reading.{IsReading, IsPlanOf}
use Rattle.vx_reading.proofs.Accepted.{by_class, in_class, kind_class_of}
use Rattle.vx_reading.proofs.Few.{none_left}
use Rattle.vx_reading.proofs.Generating.{has_lines, lines_there}
use Rattle.vx_reading.proofs.Numbers.{rate_some, keys_observed, expire_observed, flush_observed}
use Rattle.vx_reading.proofs.Routes.{few_ways}

few_observed : (n : _) → n ≤ 64 → nat_le n 64 ≡ true
few_observed n few = grind (arith, nat_tests)

some_observed : (n : _) → 1 ≤ n → nat_le 1 n ≡ true
some_observed n some = grind (arith, nat_tests)

-- a component of a type is one of those
kind_made : (whole : Global) (part : Part) (kind : Kind) → (kind ≡ Route → length (ways_of part.value) ≤ 64) → (kind ≡ DemoLogs → has_lines part ≡ true) →
    is_made (in_class whole part kind) ≡ true
kind_made whole part DemoLogs few lines = ap (λ (b : Bool). b || false) (lines refl)
kind_made whole part Route few lines =
    ap (λ (b : Bool). b || false || false || false || false) (few_observed (length (ways_of part.value)) (few refl))
kind_made whole part Sample few lines =
    ap (λ (b : Bool). b || false || false || false || false) (some_observed (rate_of part.value) (rate_some part.value))
kind_made whole part Dedupe few lines =
    ap (λ (b : Bool). b || false || false || false || false) (keys_observed part.value)
kind_made whole part Reduce few lines = ap (λ (b : Bool). b || false || false || false) (and_made expire flush (expire_observed part.value) (flush_observed part.value))
  where
    expire : Bool
    expire = nat_le 1 (expire_of part.value) && nat_le (expire_of part.value) most_period

    flush : Bool
    flush = nat_le 1 (flush_of part.value) && nat_le (flush_of part.value) most_period
kind_made whole part kind few lines = refl

parts_made : (whole : Global) (all : List Part) → AllByRecursion (λ (part : Part). kind_of part ≡ Some Route → length (ways_of part.value) ≤ 64) all → AllByRecursion (λ (part : Part). kind_of part ≡ Some DemoLogs → has_lines part ≡ true) all →
    list_all is_made (flat_map (component_of whole) all) ≡ true
parts_made whole [] few lines = refl
parts_made whole (part ∷ rest) few lines = go (kind_of part) refl (parts_made whole rest few.1 lines.1)
  where
    go : (o : Option Kind) → kind_of part ≡ o → list_all is_made (flat_map (component_of whole) rest) ≡ true →
        list_all is_made ((elim o [ None ↦ [] | Some kind ↦ component whole part kind ∷ [] ]) ++ flat_map (component_of whole) rest) ≡ true
    go None is later = later
    go (Some kind) is later =
        and_made (is_made (component whole part kind)) (list_all is_made (flat_map (component_of whole) rest))
        (by_class is_made whole part kind (kind_class_of part kind is) (kind_made whole part kind (λ route. few.0 (is ∙ ap Some route)) (λ demo. lines.0 (is ∙ ap Some demo)))) later

pub made_read : (environment : List Variable) (bytes : ByteString) (plan : Plan) → IsReading environment bytes (Ok plan) → list_all is_made plan.components ≡ true
made_read environment bytes plan (refuses, inl read) =
    let root = read.1.root in
    let of : IsPlanOf refuses root plan = read.1.rightly.judged in
    let faultless : diagnostics root ≡ [] = none_left (diagnostics root) _ of.faultless in
    subst (λ (p : Plan). list_all is_made p.components ≡ true) (sym of.same)
    (parts_made (global_of root) (parts root) (few_ways root faultless) (lines_there root faultless))
made_read environment bytes plan (refuses, inr none) = let e = none.1 in cc
