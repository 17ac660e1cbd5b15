-- What a hub stands for.
use Rattle.std.specs.Prelude.{◌≡◌, ◌≢◌, ◌<◌, ◌≤◌, ◌&&◌, ℕ, Bool, true, false, List, [], length, Some, IsSome, IfSome, IsSomeAnd, slice_get, vec_capacity}
use Rattle.vx_ends.specs.Observation.{Observation}
use Rattle.vx_plan.specs.Components.{is_source, is_transform}
use Rattle.vx_plan.specs.declared.component.Component.{Component}
use Rattle.vx_record.specs.Additions.{OnlyAdds}
use Rattle.vx_record.specs.Installs.{in_force, started}
use Rattle.vx_record.specs.Legal.{IsLegal}
use Rattle.vx_record.specs.Records.{Record}
use Rattle.vx_instances.specs.declared.state.InstanceState.{InstanceState}
use Rattle.vx_tasks.specs.Joining.{is_joining}
use Rattle.vx_moves.specs.Stands.{Stands}
use Rattle.vx_ready.specs.Asking.{IsServed}
use Rattle.vx_hub.specs.declared.hub.Hub.{Hub}
pub use Rattle.vx_landing.specs.Standing.{IsWellAt, IsWell, LentWhileOut, IsFedAt, IsFed, AwayIsWell}

-- a number is among some
abbrev pub IsAmong : List ℕ → ℕ → Type 0
IsAmong numbers i = (k : ℕ) × (slice_get numbers k ≡ Some i)

-- these are those of a kind among components, each of which is one of so many instances
pub record AreThose (is_of : Component → Bool) (components : List Component) (n : ℕ) (those : List ℕ) : Type 0 where
  pub all : (i : ℕ) → IfSome (slice_get components i) (λ c. is_of c ≡ true → IsAmong those i)
  pub only : (k : ℕ) → IfSome (slice_get those k) (λ i. (i < n) × IsSomeAnd (slice_get components i) (λ c. is_of c ≡ true))

-- these are the sources
abbrev pub AreSources : List Component → ℕ → List ℕ → Type 0
AreSources = AreThose is_source

-- whether a component is a transform that merges
abbrev pub merges : Component → Bool
merges c = is_transform c && is_joining c.settings

-- these are the transforms that merge
abbrev pub AreMergers : List Component → ℕ → List ℕ → Type 0
AreMergers = AreThose merges

-- the hub stands for its record: its engine's state does, what is held is lent while it is out, and all is well unless a call
-- answered `Fatal`; there is room for the ports at the end
pub record IsHub {P : Type 0} (observe : P → Observation) (hub : Hub P) : Type 0 where
  pub stands : Stands observe hub.engine
  pub served : IsServed hub.engine
  pub lent : LentWhileOut hub.engine
  pub well : hub.fatal ≡ false → IsWell hub.engine
  pub fed : IsFed hub.engine
  pub away : AwayIsWell hub.engine
  pub port_slots : length hub.engine.states ≤ vec_capacity hub.ports
  pub none : hub.ports.items ≡ []
  pub sources : AreSources hub.engine.run.plan.components (length hub.engine.states) hub.sources.items
  pub mergers : AreMergers hub.engine.run.plan.components (length hub.engine.states) hub.mergers.items

-- a state has the task that it had, or still none
abbrev pub SameTask : {P : Type 0} → InstanceState P → InstanceState P → Type 0
SameTask was is = is.task ≡ was.task

-- so has each but that of one instance
abbrev pub OthersKeep : {P : Type 0} → ℕ → List (InstanceState P) → List (InstanceState P) → Type 0
OthersKeep i old new = (j : ℕ) → j ≢ i → IfSome (slice_get new j) (λ is. IsSomeAnd (slice_get old j) (λ was. SameTask was is))

-- some entries were added to a record, of any kind
abbrev pub GoesOn : Record → Record → Type 0
GoesOn = OnlyAdds (λ h e. Unit {0})

-- then the plan in force is the same, and so are the instances
pub record IsSameRun (old new : Record) : Type 0 where
  pub plan : in_force new ≡ in_force old
  pub instances : started new ≡ started old

-- so it is where some plan was
abbrev pub RunStays : Type 0
RunStays = (old new : Record) → IsLegal new → GoesOn old new → IsSome (in_force old) → IsSameRun old new
