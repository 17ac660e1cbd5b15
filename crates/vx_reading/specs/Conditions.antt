-- The conditions of a plan, and the faults of those that are refused.
use Rattle.std.specs.Prelude.{◌≡◌, Bool, true, false, Option, Some, None, List, [], ◌∷◌, ◌++◌, map, codes, not}
use Rattle.std.specs.List.{AllByRecursion, list_any, flat_map}
use Rattle.vx_value.specs.Texts.{ByteString, same_text}
use Rattle.toml.specs.Data.{Data}
use Rattle.vx_condition.specs.declared.condition_fault.ConditionFault.{ConditionFault}
use Rattle.vx_condition.specs.declared.condition_fault.ConditionFault.TheVariants.{Syntax, Deep, BadPattern, WantOfMemory}
use Rattle.vx_condition.specs.Faults.{IsConditionText, IsConditionFault}
use Rattle.vx_plan.specs.declared.component.Component.{Component}
use Rattle.vx_plan.specs.declared.route.Route.{Route as Way}
use Rattle.vx_plan.specs.declared.settings.Settings.{Settings}
use Rattle.vx_plan.specs.declared.settings.Settings.TheVariants.{Filter, Route, Sample, Reduce}
use Rattle.vx_plan.specs.Options.{conditions_of}
use Rattle.vx_reading.specs.declared.diagnostic.Diagnostic.{Diagnostic}
use Rattle.vx_reading.specs.Components.{section_name}
use Rattle.vx_reading.specs.Diagnostics.{Owner, owner_in, at_option, diagnostics}
use Rattle.vx_reading.specs.Judging.{bad_unless}
use Rattle.vx_reading.specs.Options.{Place, Alone, Within, dot}
use Rattle.vx_reading.specs.Plans.{plan_of}

-- the text of a condition, and where the table of its component has it
pub record Placed : Type 0 where
  pub place : Place
  pub text : ByteString

abbrev pub placed_way : Way → Placed
placed_way way = record { place = Within (codes "route") way.name; text = way.condition }

abbrev pub placed_any : ByteString → Option ByteString → List Placed
placed_any name None = []
placed_any name (Some text) = record { place = Alone name; text = text } ∷ []

-- the conditions of a component's options
abbrev pub placed_in : Settings → List Placed
placed_in (Filter condition) = record { place = Alone (codes "condition"); text = condition } ∷ []
placed_in (Route routes reroute) = map placed_way routes
placed_in (Sample rate exclude) = placed_any (codes "exclude") exclude
placed_in (Reduce group_by starts_when ends_when expire flush strategies) =
    placed_any (codes "ends_when") ends_when ++ placed_any (codes "starts_when") starts_when
placed_in other = []

-- the texts of a component's conditions, and of all that some have
abbrev pub conditions_by : Component → List ByteString
conditions_by c = conditions_of c.settings

abbrev pub all_conditions : List Component → List ByteString
all_conditions components = flat_map conditions_by components

-- whether one of some texts is this
abbrev pub is_one : List ByteString → ByteString → Bool
is_one texts text = list_any (λ t. same_text t text) texts

-- whether a fault is want of memory
abbrev pub is_memory : ConditionFault → Bool
is_memory (Syntax at) = false
is_memory (Deep at) = false
is_memory (BadPattern at) = false
is_memory WantOfMemory = true

-- a text may be refused, whatever memory there is: it is no condition, or has a pattern, of which `regex` may refuse any
abbrev pub IsRefusable : ByteString → Type 0
IsRefusable text = (fault : ConditionFault) × (IsConditionFault text fault × (is_memory fault ≡ false))

-- no condition of some components may
abbrev pub NoneRefusable : List Component → Type 0
NoneRefusable components = AllByRecursion (λ (text : ByteString). IsRefusable text → ⊥) (all_conditions components)

-- which of some texts are refused, and which are conditions
pub record RefusesRightly (refuses : ByteString → Bool) (texts : List ByteString) : Type 0 where
  pub refused : AllByRecursion (λ (text : ByteString). refuses text ≡ true → IsRefusable text) texts
  pub taken : AllByRecursion (λ (text : ByteString). refuses text ≡ false → IsConditionText text) texts

-- to whom the faults of a component of a plan belong, and what leads to its options
abbrev pub owner_by : Component → Owner
owner_by c = owner_in c.class c.name

abbrev pub lead_of : Component → ByteString
lead_of c = (section_name c.class ++ dot ∷ c.name) ++ dot ∷ []

-- the fault of a condition that is refused
abbrev pub refusal : (ByteString → Bool) → Component → Placed → List Diagnostic
refusal refuses c p = at_option (owner_by c) (lead_of c) p.place (bad_unless (not (refuses p.text)))

-- those of a component, and of all
abbrev pub refusals_of : (ByteString → Bool) → Component → List Diagnostic
refusals_of refuses c = flat_map (refusal refuses c) (placed_in c.settings)

abbrev pub refusals : (ByteString → Bool) → List Component → List Diagnostic
refusals refuses components = flat_map (refusals_of refuses) components

-- every fault of a document, where these conditions are refused
abbrev pub all_diagnostics : (ByteString → Bool) → Data → List Diagnostic
all_diagnostics refuses root = diagnostics root ++ refusals refuses (plan_of root).components
