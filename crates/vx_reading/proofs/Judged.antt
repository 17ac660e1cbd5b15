-- What is answered of a document whose conditions were read.
use Rattle.std.proofs.Common.{◌≡◌, Bool, true, false, List, [], ◌++◌, map, Result, Ok, Err, IsErrAnd, refl, sym, ◌∙◌, ap, subst}
use Rattle.std.specs.List.{flat_map}
use Rattle.vx_value.specs.Texts.{ByteString}
use Rattle.toml.specs.Data.{Data}
use Rattle.vx_graph.specs.declared.graph_fault.GraphFault.{GraphFault}
use Rattle.vx_graph.specs.declared.graph_fault.GraphFault.TheVariants as graph
use Rattle.vx_graph.specs.Faults.{IsAccepted, IsFault}
use Rattle.vx_graph.specs.Order.{in_order}
use Rattle.vx_plan.specs.declared.component.Component.{Component}
use Rattle.vx_plan.specs.declared.global.Global.{Global}
use Rattle.vx_plan.specs.declared.plan.Plan.{Plan}
use Rattle.vx_reading.specs.declared.diagnostic.Diagnostic.{Diagnostic}
use Rattle.vx_reading.specs.declared.plan_fault.PlanFault.{PlanFault}
use Rattle.vx_reading.specs.declared.plan_fault.PlanFault.TheVariants as fault
use Rattle.vx_reading.specs.declared.reading.Found.{Found}
use Rattle.vx_reading.specs.declared.reading.ReadPlan.{ReadPlan}
use Rattle.vx_reading.specs.declared.trouble.Trouble.{Trouble}
use Rattle.vx_reading.specs.declared.trouble.Trouble.TheVariants as trouble
use Rattle.vx_reading.specs.Answers.{plan_in, IsFound}
use Rattle.vx_reading.specs.Conditions.{conditions_by, all_conditions, is_one, RefusesRightly, refusals, all_diagnostics}
use Rattle.vx_reading.specs.Diagnostics.{diagnostics, HasFault, fault_at}
use Rattle.vx_reading.specs.Components.{Part, parts}
use Rattle.vx_reading.specs.Plans.{component_of, global_of, plan_of, nodes_of}
use Rattle.vx_reading.specs.Reading.{IsJudged, IsRightlyJudged}
use Rattle.vx_reading.proofs.Few.{none_right}
use Rattle.vx_reading.proofs.Refusing.{right, conditions_are}

-- want of memory may be answered of each
pub short_judged : (root : Data) → (refuses : ByteString → Bool) × IsRightlyJudged refuses root (Err fault.WantOfMemory)
short_judged root = (λ text. false, record { right = λ some. absurd (some refl); judged = tt })

pub memory_judged : (root : Data) (answer : Result ReadPlan PlanFault) → IsErrAnd answer (λ why. why ≡ fault.WantOfMemory) →
    (refuses : ByteString → Bool) × IsRightlyJudged refuses root (plan_in answer)
memory_judged root (Ok read) is = absurd is
memory_judged root (Err why) is =
    subst (λ (f : PlanFault). (refuses : ByteString → Bool) × IsRightlyJudged refuses root (Err f)) (sym is) (short_judged root)

-- whether a fault is told at a path
abbrev is_told : PlanFault → Bool
is_told (fault.MissingVariable name at) = false
is_told fault.NotToml = false
is_told (fault.Graph why) = false
is_told fault.WantOfMemory = false
is_told other = true

all_told : (path : ByteString) (t : Trouble) → is_told (fault_at path t) ≡ true
all_told path trouble.UnknownKind = refl
all_told path trouble.UnknownOption = refl
all_told path trouble.MissingOption = refl
all_told path trouble.BadValue = refl
all_told path (trouble.TooMany count most) = refl

-- so another isn't answered of a trouble
untold : (why : PlanFault) → is_told why ≡ false → (path : ByteString) (t : Trouble) → why ≡ fault_at path t → ⊥
untold why other path t is = let e = sym other ∙ ap is_told is ∙ all_told path t in false-true e
  where
    false-true : false ≡ true → ⊥
    false-true e = cc

-- the first of some faults is answered
fault_judged : (refuses : ByteString → Bool) (root : Data) (why : PlanFault) → HasFault (all_diagnostics refuses root) why → IsJudged refuses root (Err why)
fault_judged refuses root (fault.MissingVariable name at) has = absurd (untold (fault.MissingVariable name at) refl has.diagnostic.path has.diagnostic.trouble has.same)
fault_judged refuses root fault.NotToml has = absurd (untold fault.NotToml refl has.diagnostic.path has.diagnostic.trouble has.same)
fault_judged refuses root (fault.Graph why) has = absurd (untold (fault.Graph why) refl has.diagnostic.path has.diagnostic.trouble has.same)
fault_judged refuses root fault.WantOfMemory has = tt
fault_judged refuses root why has = has

-- the components that were made are those of the document's plan
pub components_here : (root : Data) (all : List Part) (global : Global) (components : List Component) → all ≡ parts root → global ≡ global_of root
    → components ≡ flat_map (component_of global) all → components ≡ (plan_of root).components
components_here root all global components whole same made =
    made
    ∙ ap (λ g. flat_map (component_of g) all) same
    ∙ ap (λ ps. flat_map (component_of (global_of root)) ps) whole

module _ (root : Data) (found : Found) (is : IsFound root found) where
  right_here : RefusesRightly (is_one is.refused) (all_conditions (plan_of root).components)
  right_here = subst (λ (cs : List Component). RefusesRightly (is_one is.refused) (all_conditions cs)) is.components (right found.components is.refused found.conditions is.tried)

  all_here : found.diagnostics ≡ all_diagnostics (is_one is.refused) root
  all_here = is.told ∙ ap (λ (cs : List Component). diagnostics root ++ refusals (is_one is.refused) cs) is.components

  pub fault_here : (why : PlanFault) → HasFault found.diagnostics why → (refuses : ByteString → Bool) × IsRightlyJudged refuses root (Err why)
  fault_here why has = (
    is_one is.refused,
    record {
      right = λ some. right_here;
      judged = fault_judged (is_one is.refused) root why (subst (λ (fs : List Diagnostic). HasFault fs why) all_here has);
    },
  )

  module _ (none : found.diagnostics ≡ []) (plan : Plan) (made : plan ≡ record { global = found.global; components = found.components }) where
    plan_made : plan ≡ plan_of root
    plan_made =
        made
        ∙ ap (λ g. let p : Plan = record { global = g; components = found.components } in p) is.global
        ∙ ap (λ cs. let p : Plan = record { global = global_of root; components = cs } in p) is.components

    pub plan_here : IsAccepted (in_order (nodes_of plan)) → (refuses : ByteString → Bool) × IsRightlyJudged refuses root (Ok plan)
    plan_here accepted = (
      is_one is.refused,
      record {
        right = λ some. right_here;
        judged = record { faultless = sym all_here ∙ none; same = plan_made; accepted = subst (λ (p : Plan). IsAccepted (in_order (nodes_of p))) plan_made accepted };
      },
    )

    pub graph_here : (why : GraphFault) → IsFault (in_order (nodes_of plan)) why → (why ≡ graph.WantOfMemory → ⊥) →
        (refuses : ByteString → Bool) × IsRightlyJudged refuses root (Err (fault.Graph why))
    graph_here why has memory = (
      is_one is.refused,
      record {
        right = λ some. right_here;
        judged = record { faultless = sym all_here ∙ none; memory = memory; refused = subst (λ (p : Plan). IsFault (in_order (nodes_of p)) why) plan_made has };
      },
    )

    pub conditions_here : found.conditions ≡ map conditions_by plan.components
    conditions_here =
        conditions_are found.components is.refused found.conditions is.tried (none_right (diagnostics root) _ (sym is.told ∙ none))
        ∙ ap (λ cs. map conditions_by cs) (is.components ∙ sym (ap (λ (p : Plan). p.components) plan_made))
