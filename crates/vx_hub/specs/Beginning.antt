-- What a hub is made from, before and when its ports are there.
use Rattle.std.specs.Prelude.{◌≡◌, ℕ, ◌<◌, ◌≤◌, ◌==◌, ◌||◌, if◌then◌else◌, Bool, true, false, List, [], length, map, Option, Some, None, IfSome, IsSomeAnd, slice_get, vec_capacity}
use Rattle.vx_plan.specs.declared.component.Component.{Component}
use Rattle.vx_plan.specs.declared.plan.Plan.{Plan}
use Rattle.vx_plan.specs.declared.settings.Settings.{Settings}
use Rattle.vx_plan.specs.declared.stage.Stage.{Stage}
use Rattle.vx_plan.specs.Components.{port_names, stages, longest_line, is_transform}
use Rattle.vx_plan.specs.Numbers.{reader_numbers}
use Rattle.vx_plan.specs.Options.{file_read, decoding, demo_of, encoding, has_device, reading_interval, type_name}
use Rattle.vx_plan.specs.Targets.{acknowledged}
use Rattle.vx_record.specs.Copies.{counting}
use Rattle.vx_pick.specs.Picks.{Picks, StandsFor}
use Rattle.vx_pick.specs.declared.picker.Picker.{Picker}
use Rattle.vx_sourcecore.specs.declared.source.SourceCore.{SourceCore}
use Rattle.vx_sourcecore.specs.declared.generator.Generator.{Generator as Maker}
use Rattle.vx_sourcecore.specs.Sources.{IsFresh}
use Rattle.vx_sourcecore.specs.Generators.{IsBegun as IsAtBeginning}
use Rattle.vx_sourcecore.specs.Lines.{is_generating, is_blackhole}
use Rattle.vx_counts.specs.Meets.{Meets}
use Rattle.vx_balance.specs.Balances.{Balances}
use Rattle.vx_places.specs.declared.row.Row.{Row}
use Rattle.vx_places.specs.Capacities.{capacities_at, held_capacity}
use Rattle.vx_places.specs.Holding.{Holds}
use Rattle.vx_tasks.specs.declared.task.Role.{Role}
use Rattle.vx_tasks.specs.declared.task.Role.TheVariants.{Source, Generator, Sink, Blackhole, Transform, Merge, Unfit}
use Rattle.vx_instances.specs.declared.state.InstanceState.{InstanceState}
use Rattle.vx_instances.specs.Beginning.{AreNew, HasNoBatches}
use Rattle.vx_instances.specs.Knowing.{IsFittedTo}
use Rattle.vx_moves.specs.Capacities.{held_limit_of}
use Rattle.vx_hub.specs.Standing.{AreSources, AreMergers, merges}
use Rattle.vx_hub.specs.declared.making.Allocated.{Allocated}
use Rattle.vx_hub.specs.declared.parts.Named.{Named}

-- a state begins for a component of a plan, but for its task
pub record IsBegun {P : Type 0} (plan : Plan) (state : InstanceState P) (c : Component) : Type 0 where
  pub fitted : IsFittedTo state c
  pub outlet : state.outlet ≡ map (reader_numbers plan c.name) (counting 0 (length (port_names c)))
  pub facts : AreNew state.facts
  pub progress : HasNoBatches state.progress (acknowledged plan c.name)
  pub counts : (i : ℕ) → Meets i [] state.counts.tally

-- a source begins for the lines of a component, and has the codec by which that decodes them
pub record IsSourceFor (settings : Settings) (core : SourceCore) : Type 0 where
  pub fresh : IsFresh (longest_line settings) core.decoding (type_name settings) (file_read settings) core
  pub decoding_is : decoding settings ≡ Some core.decoding

-- how many lines a source that makes them makes at once
abbrev pub at_once : Settings → ℕ
at_once settings = if reading_interval settings == 0 then 64 else 1

-- a source that makes its lines begins for a component: it needs no port, cuts the lines like one that reads them, makes them of what
-- the component says, and made none yet
pub record IsGeneratorFor (settings : Settings) (maker : Maker) : Type 0 where
  pub portless : has_device settings ≡ false
  pub cuts : IsSourceFor settings maker.core
  pub made_of : demo_of settings ≡ Some maker.lines.settings
  pub begun : IsAtBeginning maker.core maker.lines.settings (at_once settings) maker

-- whether settings are those of what works with a port, makes its lines itself, or writes nothing
abbrev pub is_working : Settings → Bool
is_working settings = has_device settings || is_generating settings || is_blackhole settings

-- what is no transform begins for some settings: what reads lines or writes by a codec works with a port, and what makes its lines or
-- writes nothing has none
abbrev pub IsWorkerFor : Settings → Role → Type 0
IsWorkerFor settings (Source core) = IsSourceFor settings core × (has_device settings ≡ true)
IsWorkerFor settings (Generator maker) = IsGeneratorFor settings maker
IsWorkerFor settings (Sink codec) = encoding settings ≡ Some codec
IsWorkerFor settings Blackhole = is_blackhole settings ≡ true
IsWorkerFor settings (Transform picker) = ⊥
IsWorkerFor settings Merge = ⊥
IsWorkerFor settings Unfit = ⊥

-- a sink begins with the codec by which it writes, and a transform picks by its settings, and saw no event
abbrev pub IsRoleFor : Role → Component → Type 0
IsRoleFor (Source core) c = IsSourceFor c.settings core × (has_device c.settings ≡ true)
IsRoleFor (Generator maker) c = IsGeneratorFor c.settings maker
IsRoleFor (Sink codec) c = encoding c.settings ≡ Some codec
IsRoleFor Blackhole c = is_blackhole c.settings ≡ true
IsRoleFor (Transform picker) c = Picks c.settings picker × StandsFor picker []
IsRoleFor Merge c = merges c ≡ true
IsRoleFor Unfit c = ⊥

-- but for what a transform picks by, which comes with the parts
abbrev pub IsRoleBut : Role → Component → Type 0
IsRoleBut (Source core) c = IsSourceFor c.settings core × (has_device c.settings ≡ true)
IsRoleBut (Generator maker) c = IsGeneratorFor c.settings maker
IsRoleBut (Sink codec) c = encoding c.settings ≡ Some codec
IsRoleBut Blackhole c = is_blackhole c.settings ≡ true
IsRoleBut (Transform picker) c = ⊥
IsRoleBut Merge c = merges c ≡ true
IsRoleBut Unfit c = (is_transform c ≡ true) × (merges c ≡ false)

-- a role with what its component picks by, if it is a transform's
abbrev pub IsRoled : List Role → List (Option Picker) → ℕ → Role → Type 0
IsRoled roles pickers i is =
    IsSomeAnd (slice_get roles i) (λ was. IsSomeAnd (slice_get pickers i) (λ picker. is ≡ (elim picker [ None ↦ was | Some p ↦ Transform p ])))

-- so is each from a number on
abbrev pub AreRoledFrom : ℕ → List Role → List (Option Picker) → List Role → Type 0
AreRoledFrom n roles pickers roled = (i : ℕ) → n ≤ i → IfSome (slice_get roled i) (IsRoled roles pickers i)

-- each of some is for the component in its place
abbrev pub AreFor : {X : Type 0} → (X → Component → Type 0) → List Component → List X → Type 0
AreFor F components xs = (i : ℕ) → IfSome (slice_get xs i) (λ x. IsSomeAnd (slice_get components i) (F x))

-- the capacities of some stages
abbrev pub capacities_in : List Stage → List ℕ
capacities_in = map (λ (stage : Stage). stage.max_events)

-- those of a component's buffer
abbrev pub capacities_of : Component → List ℕ
capacities_of c = capacities_in (stages c)

-- an instance has the capacities of a component; of one that merges a keeper elsewhere has what it holds
pub record HasCapacitiesOf (rows : List Row) (i : ℕ) (c : Component) : Type 0 where
  pub stages : capacities_at rows i ≡ capacities_of c
  pub held_limit : held_capacity rows i ≡ (if merges c then None else Some (held_limit_of c))

-- there is an instance of a component more, and the others have the capacities that they had
pub record AddsPlace (c : Component) (old new : List Row) : Type 0 where
  pub one : HasCapacitiesOf new (length old) c
  pub others : (i : ℕ) → i < length old → (capacities_at new i ≡ capacities_at old i) × (held_capacity new i ≡ held_capacity old i)

-- each that is there has those of the component in its place
abbrev pub HaveCapacities : List Component → List Row → Type 0
HaveCapacities components rows = (i : ℕ) → i < length rows → IsSomeAnd (slice_get components i) (HasCapacitiesOf rows i)

-- what a hub needs memory for is there, for each component of a plan
pub record IsAllocatedFor {P : Type 0} (plan : Plan) (room : Allocated P) : Type 0 where
  pub states : AreFor (IsBegun plan) plan.components room.states.items
  pub states_size : length room.states.items ≡ length plan.components
  pub roles : AreFor IsRoleBut plan.components room.roles.items
  pub roles_size : length room.roles.items ≡ length plan.components
  pub balance : Balances room.balance []
  pub holds : Holds room.places []
  pub capacities : HaveCapacities plan.components room.places
  pub places_size : length room.places ≡ length plan.components
  pub port_slots : length plan.components ≤ vec_capacity room.ports
  pub none : room.ports.items ≡ []
  pub sources : AreSources plan.components (length plan.components) room.sources.items
  pub mergers : AreMergers plan.components (length plan.components) room.mergers.items

-- a state has the role and the port in its place, and else is as it was
abbrev pub IsTasked : {P : Type 0} → List (InstanceState P) → List Role → List (Named P) → ℕ → InstanceState P → Type 0
IsTasked states roles ports i is =
    IsSomeAnd (slice_get states i) (λ was. IsSomeAnd (slice_get roles i) (λ role. IsSomeAnd (slice_get ports i) (λ named.
    is ≡ record was { task = Some (record { port = named.port; role = role }) })))

-- so has each from a number on
abbrev pub AreTaskedFrom : {P : Type 0} → ℕ → List (InstanceState P) → List Role → List (Named P) → List (InstanceState P) → Type 0
AreTaskedFrom n states roles ports tasked = (i : ℕ) → n ≤ i → IfSome (slice_get tasked i) (IsTasked states roles ports i)
