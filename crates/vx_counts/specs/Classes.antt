-- The class of what an instance runs.
use Rattle.std.specs.Prelude.{ℕ, Option, Some, None}
use Rattle.vx_plan.specs.declared.class.Class.{Class}
use Rattle.vx_plan.specs.declared.class.Class.TheVariants.{Source, Transform, Sink}
use Rattle.vx_plan.specs.declared.component.Component.{Component}
use Rattle.vx_record.specs.Records.{Record}
use Rattle.vx_record.specs.Installs.{component_or}

-- the class of what an instance runs; none before it was given work
abbrev pub class_at : Record → ℕ → Option Class
class_at = component_or None (λ (c : Component). Some c.class)

-- an instance of a class that puts parcels out
abbrev pub IsGiver : Option Class → Type 0
IsGiver None = ⊥
IsGiver (Some Source) = Unit {0}
IsGiver (Some Transform) = Unit {0}
IsGiver (Some Sink) = ⊥
