-- Which component an instance runs, by the Installs.
use Rattle.std.specs.Prelude.{ℕ, Bool, true, false, ◌&&◌, ◌||◌, Option, Some, None, List, [], ◌∷◌, map, filter, if◌then◌else◌, ◌==◌}
use Rattle.std.specs.List.{list_any}
use Rattle.vx_value.specs.Texts.{ByteString, same_text}
use Rattle.vx_plan.specs.declared.plan.Plan.{Plan}
use Rattle.vx_plan.specs.declared.component.Component.{Component}
use Rattle.vx_plan.specs.Components.{component_named, is_source, is_transform, is_sink}
use Rattle.vx_plan.specs.Options.{has_device}
use Rattle.vx_record.specs.declared.instance.Start.TheVariants.{Kept, New, Draining}
use Rattle.vx_record.specs.declared.instance.Instance.{Instance}
use Rattle.vx_record.specs.declared.entry.Entry.{Entry}
use Rattle.vx_record.specs.declared.entry.Entry.TheVariants.{Install, Closed, Retired}
use Rattle.vx_record.specs.Records.{Record}
use Rattle.vx_record.specs.Copies.{all_of}

-- the plan in force: that of the last Install
abbrev pub in_force : Record → Option Plan
in_force [] = None
in_force (Install version plan once instances now ∷ h) = Some plan
in_force (e ∷ h) = in_force h

-- whether files end with what they have: what the last Install says
abbrev pub once_in : Record → Bool
once_in [] = false
once_in (Install version plan once instances now ∷ h) = once
once_in (e ∷ h) = once_in h

-- whether an Install gives an instance work, as a kept or a new one
abbrev pub works : Instance → Bool
works instance = elim instance.start [ Kept ↦ true | New ↦ true | Draining ↦ false ]

-- whether an Install starts the instance
abbrev pub is_new : Instance → Bool
is_new instance = elim instance.start [ Kept ↦ false | New ↦ true | Draining ↦ false ]

-- whether an Install lets the instance drain
abbrev pub is_draining : Instance → Bool
is_draining instance = elim instance.start [ Kept ↦ false | New ↦ false | Draining ↦ true ]

-- the name under which an Install gives the instance work
abbrev pub name_at : List Instance → ℕ → Option ByteString
name_at [] i = None
name_at (instance ∷ rest) i = if (instance.number == i) && works instance then Some instance.name else name_at rest i

-- an instance as the last Install has it that gives it work
pub record Wiring : Type 0 where
  pub plan : Plan
  pub once : Bool
  pub instances : List Instance
  pub name : ByteString

-- the wiring of an instance, if it ever was given work
abbrev pub wiring : Record → ℕ → Option Wiring
wiring [] i = None
wiring (Install version plan once instances now ∷ h) i =
    elim (name_at instances i) [ None ↦ wiring h i | Some name ↦ Some (record { plan = plan; once = once; instances = instances; name = name }) ]
wiring (e ∷ h) i = wiring h i

-- what a wiring says of the instance, or a value where there is none
abbrev pub wired : {X : Type 0} → X → (Wiring → X) → Record → ℕ → X
wired none f h i = elim (wiring h i) [ None ↦ none | Some w ↦ f w ]

-- the instance's plan
abbrev pub plan_of : Record → ℕ → Option Plan
plan_of = wired None (λ (w : Wiring). Some w.plan)

-- the instance's name
abbrev pub name_of : Record → ℕ → ByteString
name_of = wired [] (λ (w : Wiring). w.name)

-- its component
abbrev pub component_of : Record → ℕ → Option Component
component_of = wired None (λ (w : Wiring). component_named w.plan w.name)

-- what its component says, or a value where there is none
abbrev pub component_or : {X : Type 0} → X → (Component → X) → Record → ℕ → X
component_or none f h i = elim (component_of h i) [ None ↦ none | Some c ↦ f c ]

-- whether the instance is a source
abbrev pub source_at : Record → ℕ → Bool
source_at = component_or false is_source

-- whether it is a transform
abbrev pub transform_at : Record → ℕ → Bool
transform_at = component_or false is_transform

-- whether it is a sink
abbrev pub sink_at : Record → ℕ → Bool
sink_at = component_or false is_sink

-- whether it has a port
abbrev pub device_at : Record → ℕ → Bool
device_at = component_or false (λ (c : Component). has_device c.settings)

-- the instances that an Install had under a name
abbrev pub numbers_of : List Instance → ByteString → List ℕ
numbers_of instances name =
    map (λ (instance : Instance). instance.number) (filter (λ (instance : Instance). works instance && same_text instance.name name) instances)

-- the numbers of the instances that an entry starts
abbrev pub starts : Entry → List ℕ
starts (Install version plan once instances now) = map (λ (instance : Instance). instance.number) (filter is_new instances)
starts other = []

-- the numbers of all instances so far, in order
abbrev pub started : Record → List ℕ
started h = all_of starts h

-- whether an Install marks the instance draining
abbrev pub is_marked : Record → ℕ → Bool
is_marked [] i = false
is_marked (Install version plan once instances now ∷ h) i =
    list_any (λ (instance : Instance). is_draining instance && (instance.number == i)) instances || is_marked h i
is_marked (e ∷ h) i = is_marked h i

-- whether its port was closed
abbrev pub is_closed : Record → ℕ → Bool
is_closed [] i = false
is_closed (Closed j ∷ h) i = (j == i) || is_closed h i
is_closed (e ∷ h) i = is_closed h i

-- whether the instance was retired
abbrev pub is_retired : Record → ℕ → Bool
is_retired [] i = false
is_retired (Retired j ∷ h) i = (j == i) || is_retired h i
is_retired (e ∷ h) i = is_retired h i
