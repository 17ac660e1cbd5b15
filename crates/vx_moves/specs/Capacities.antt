-- The capacities that were made for parcels are those that the plan gives.
use Rattle.std.specs.Prelude.{◌≡◌, ℕ, List, map, IfSome}
use Rattle.vx_plan.specs.declared.class.Class.TheVariants.{Source, Transform, Sink}
use Rattle.vx_plan.specs.declared.component.Component.{Component}
use Rattle.vx_plan.specs.declared.stage.Stage.{Stage}
use Rattle.vx_plan.specs.Components.{batch_max_events}
use Rattle.vx_record.specs.Records.{Record}
use Rattle.vx_record.specs.Installs.{component_or}
use Rattle.vx_record.specs.Stages.{stages_of}
use Rattle.vx_places.specs.declared.row.Row.{Row}
use Rattle.vx_places.specs.Capacities.{capacities_at, held_capacity}

-- how many parcels each stage of an instance's buffer may have, by its component
abbrev pub planned_capacities : Record → ℕ → List ℕ
planned_capacities h i = map (λ (stage : Stage). stage.max_events) (stages_of h i)

-- how many parcels a component holds at the most: a sink those of a batch, and a transform those that one lease takes
abbrev pub held_limit_of : Component → ℕ
held_limit_of c = elim c.class [ Source ↦ 0 | Transform ↦ 64 | Sink ↦ batch_max_events c.settings ]

-- an instance has room for so many
abbrev pub IsHeldLimitOf : Record → ℕ → ℕ → Type 0
IsHeldLimitOf h i room = room ≡ component_or 0 held_limit_of h i

-- each stage of a buffer has its room, and so has what is held, unless it is lent
pub record AreCapacities (rows : List Row) (h : Record) : Type 0 where
  pub stages : (i : ℕ) → capacities_at rows i ≡ planned_capacities h i
  pub holdings : (i : ℕ) → IfSome (held_capacity rows i) (IsHeldLimitOf h i)
