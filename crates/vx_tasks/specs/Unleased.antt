-- A task that is unleased.
use Rattle.std.specs.Prelude.{◌≡◌, ℕ, true, false, List, Some, IsSomeAnd}
use Rattle.vx_value.specs.declared.event.Event.{Event}
use Rattle.vx_ends.specs.Observation.{Observation}
use Rattle.vx_plan.specs.declared.component.Component.{Component}
use Rattle.vx_plan.specs.Options.{encoding}
use Rattle.vx_pick.specs.Picks.{Picks, StandsFor}
use Rattle.vx_record.specs.Records.{Record}
use Rattle.vx_record.specs.Installs.{component_of, device_at}
use Rattle.vx_record.specs.Transforms.{answered_events}
use Rattle.vx_sourcecore.specs.Abreast.{IsAbreast}
use Rattle.vx_sourcecore.specs.Generators.{IsGenerating}
use Rattle.vx_sourcecore.specs.Lines.{is_blackhole}
use Rattle.vx_tasks.specs.declared.task.Role.{Role}
use Rattle.vx_tasks.specs.declared.task.Role.TheVariants.{Source, Generator, Sink, Blackhole, Transform, Merge, Unfit}
use Rattle.vx_tasks.specs.declared.task.Task.{Task}
use Rattle.vx_tasks.specs.Observing.{IsObserved}
use Rattle.vx_tasks.specs.Joining.{joins_at}

-- what an instance does has come as far as the record has it: a source with a port is abreast of it, one without makes the lines that
-- come next, a sink writes by the codec of its component, a black hole is one, a transform that judges picks by the settings of its component, and
-- one that merges is a reduce or a host
abbrev pub HasCome : Record → ℕ → Role → Type 0
HasCome h i (Source core) = IsAbreast h i core × (device_at h i ≡ true)
HasCome h i (Generator generator) = IsGenerating h i generator × (device_at h i ≡ false)
HasCome h i (Sink codec) = IsSomeAnd (component_of h i) (λ (c : Component). encoding c.settings ≡ Some codec)
HasCome h i Blackhole = IsSomeAnd (component_of h i) (λ (c : Component). is_blackhole c.settings ≡ true)
HasCome h i (Transform picker) = IsSomeAnd (component_of h i) (λ (c : Component). Picks c.settings picker)
HasCome h i Merge = joins_at h i ≡ true
HasCome h i Unfit = Unit {0}

-- what an instance keeps stands for some events: what a transform keeps that judges by those that came before
abbrev pub StandsAt : Role → List Event → Type 0
StandsAt (Source core) events = Unit {0}
StandsAt (Generator generator) events = Unit {0}
StandsAt (Sink codec) events = Unit {0}
StandsAt Blackhole events = Unit {0}
StandsAt (Transform picker) events = StandsFor picker events
StandsAt Merge events = Unit {0}
StandsAt Unfit events = Unit {0}

-- for those that it has answered
abbrev pub HasKept : Record → ℕ → Role → Type 0
HasKept h i does = StandsAt does (answered_events h i)

-- a task is as the record has it: its port tells that, and what it does has come so far
pub record IsTaskOf {P : Type 0} (observe : P → Observation) (h : Record) (i : ℕ) (task : Task P) : Type 0 where
  pub observed : IsObserved (observe task.port) h i
  pub come : HasCome h i task.role
