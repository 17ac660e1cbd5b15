-- What a lease gives.
use Rattle.std.specs.Prelude.{◌≡◌, ℕ, false, List, Option, IfSome, slice_get}
use Rattle.vx_ends.specs.Observation.{Observation}
use Rattle.vx_ends.specs.declared.position.Position.{Position}
use Rattle.vx_record.specs.declared.entry.Entry.TheVariants.{Lease}
use Rattle.vx_places.specs.Capacities.{SameCapacities}
use Rattle.vx_tasks.specs.declared.task.Task.{Task}
use Rattle.vx_tasks.specs.Unleased.{HasKept, IsTaskOf}
use Rattle.vx_tasks.specs.Out.{AreDue}
use Rattle.vx_instances.specs.declared.state.InstanceState.{InstanceState}
use Rattle.vx_instances.specs.Calls.{IsSettledAt}
use Rattle.vx_instances.specs.Staying.{OneState, IsLeft}
use Rattle.vx_moves.specs.Stands.{Steps}
use Rattle.vx_moves.specs.declared.engine.EngineState.{EngineState}

-- an instance's port is as the record has it, its batches were born, and no memory was wanting for a confirm
pub record IsFitAt {P : Type 0} (states : List (InstanceState P)) (i : ℕ) : Type 0 where
  pub fed : IfSome (slice_get states i) (λ state. state.facts.starved ≡ false)
  pub settled : IsSettledAt states i

-- an instance was leased, and its task is the one that it had; what it keeps stands for what it answered; what is to be
-- confirmed is what was due then; the rest is as it was
pub record HasLent {P : Type 0} (observe : P → Observation) (i worker now : ℕ) (task : Task P) (positions : Option (List Position)) (old new : EngineState P) : Type 0 where
  pub steps : Steps observe (Lease i worker now 0) old new
  pub unleased : IsTaskOf observe new.log i task
  pub kept : HasKept new.log i task.role
  pub due : AreDue new.log i positions
  pub states : OneState (IsLeft task) i old.states new.states
  pub capacities : SameCapacities old.places new.places
  pub run : new.run ≡ record old.run { latest = now }
