-- What the looks need of the engine's state.
use Rattle.std.specs.Prelude.{◌≡◌, ℕ, ◌<◌, ◌^◌, ◌==◌, Bool, true, false, ◌&&◌, ◌||◌, not, nat_le, List, [], ◌∷◌, length, Some, None, IsSome, IsSomeAnd, slice_get}
use Rattle.std.specs.List.{list_any}
use Rattle.vx_plan.specs.declared.class.Class.{Class}
use Rattle.vx_plan.specs.declared.class.Class.TheVariants.{Source, Transform, Sink}
use Rattle.vx_plan.specs.declared.component.Component.{Component}
use Rattle.vx_plan.specs.Components.{is_source, is_transform, is_sink, port_names}
use Rattle.vx_plan.specs.Options.{has_device}
use Rattle.vx_record.specs.Judges.{is_judging}
use Rattle.vx_sourcecore.specs.Lines.{is_generating, is_blackhole}
use Rattle.vx_tasks.specs.Joining.{is_joining}
use Rattle.vx_instances.specs.declared.state.InstanceState.{InstanceState}
use Rattle.vx_moves.specs.declared.engine.EngineState.{EngineState}

-- whether a class is that of sources
abbrev pub source_class : Class → Bool
source_class class = elim class [ Source ↦ true | Transform ↦ false | Sink ↦ false ]

-- whether it is that of transforms
abbrev pub transform_class : Class → Bool
transform_class class = elim class [ Source ↦ false | Transform ↦ true | Sink ↦ false ]

-- whether it is that of sinks
abbrev pub sink_class : Class → Bool
sink_class class = elim class [ Source ↦ false | Transform ↦ false | Sink ↦ true ]

-- whether an instance is among some targets
abbrev pub is_among : ℕ → List ℕ → Bool
is_among i targets = list_any (λ target. target == i) targets

-- whether it is among those of a port
abbrev pub goes_on : ℕ → ℕ → List (List ℕ) → Bool
goes_on i port ports = elim (slice_get ports port) [ None ↦ false | Some targets ↦ is_among i targets ]

-- whether it is among those of any of some ports
abbrev pub goes_to : ℕ → List (List ℕ) → Bool
goes_to i ports = list_any (is_among i) ports

-- whether a component works with a port, and is no transform
abbrev pub is_ported : Component → Bool
is_ported c = has_device c.settings && not (is_transform c)

-- whether it puts out on at most 65 ports, as a route of 64 ways does
abbrev pub has_few_ports : Component → Bool
has_few_ports c = nat_le (length (port_names c)) 65

-- whether it is a transform that judges event by event, without a port of its own, and puts out on few
abbrev pub is_judge : Component → Bool
is_judge c = is_transform c && is_judging c.settings && not (has_device c.settings) && has_few_ports c

-- whether it is a transform that merges, without a port of its own, and puts out on few
abbrev pub is_merger : Component → Bool
is_merger c = is_transform c && is_joining c.settings && not (has_device c.settings) && has_few_ports c

-- whether it is a source that makes its lines itself
abbrev pub is_generator : Component → Bool
is_generator c = is_source c && is_generating c.settings

-- whether it is a sink that writes nothing
abbrev pub is_blackhole_sink : Component → Bool
is_blackhole_sink c = is_sink c && is_blackhole c.settings

-- whether it is one of these
abbrev pub is_served : Component → Bool
is_served c = is_ported c || is_judge c || is_generator c || is_blackhole_sink c || is_merger c

-- whether each of some is
abbrev pub all_served : List Component → Bool
all_served [] = true
all_served (c ∷ rest) = is_served c && all_served rest

-- each component of the plan works with a port, judges event by event, merges, makes its lines itself or writes nothing, and
-- there are fewer than 2^32 instances
pub record IsServed {P : Type 0} (engine : EngineState P) : Type 0 where
  pub served : all_served engine.run.plan.components ≡ true
  pub few : length engine.states < 2 ^ 32

-- a state whose task is unleased, where memory was never wanting for what it owes
pub record IsUnleased {P : Type 0} (state : InstanceState P) : Type 0 where
  pub task : IsSome state.task
  pub settled : state.facts.owing ≡ false

-- an instance is unleased and owes nothing, in a run that wasn't given up
pub record IsSettled {P : Type 0} (engine : EngineState P) (i : ℕ) : Type 0 where
  pub unleased : IsSomeAnd (slice_get engine.states i) IsUnleased
  pub going : engine.run.abandoned ≡ None

-- the port of a state isn't closed for good, nor may it have given more than the record has, and its instance hasn't ended
pub record IsUsable {P : Type 0} (state : InstanceState P) : Type 0 where
  pub unclosed : state.facts.closed ≡ false
  pub unretired : state.facts.retired ≡ false
  pub fed : state.facts.starved ≡ false

-- so it is of an instance
abbrev pub IsOpen : {P : Type 0} → EngineState P → ℕ → Type 0
IsOpen engine i = IsSomeAnd (slice_get engine.states i) IsUsable
