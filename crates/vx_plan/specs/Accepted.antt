-- Which plan may be installed.
use Rattle.std.specs.Prelude.{◌≡◌, Bool, true, false, not, ◌&&◌, ◌||◌, List, [], ◌∷◌}
use Rattle.std.specs.List.{list_any, list_all}
use Rattle.vx_value.specs.Texts.{same_text, is_empty}
use Rattle.vx_graph.specs.Faults.{IsAccepted}
use Rattle.vx_graph.specs.Order.{in_order}
use Rattle.vx_plan.specs.declared.class.Class.{Class}
use Rattle.vx_plan.specs.declared.class.Class.TheVariants.{Source, Transform, Sink}
use Rattle.vx_plan.specs.declared.component.Component.{Component}
use Rattle.vx_plan.specs.declared.plan.Plan.{Plan}
use Rattle.vx_plan.specs.declared.settings.Settings.{Settings}
use Rattle.vx_plan.specs.declared.settings.Settings.TheVariants.{Stdin, FileIn, DemoLogs, Filter, Route, Sample, Dedupe, Reduce, Host, Console, FileOut, Blackhole}
use Rattle.vx_plan.specs.Graphs.{nodes_of}
use Rattle.vx_plan.specs.Components.{is_source, is_sink, stages}

-- whether no two components have one name
abbrev pub names_differ : List Component → Bool
names_differ [] = true
names_differ (c ∷ rest) = not (list_any (λ (d : Component). same_text d.name c.name) rest) && names_differ rest

-- the class to which a type belongs
abbrev pub settings_class : Settings → Class
settings_class (Stdin max_length codec) = Source
settings_class (FileIn most path from codec) = Source
settings_class (DemoLogs demo interval) = Source
settings_class (Filter condition) = Transform
settings_class (Route routes reroute) = Transform
settings_class (Sample rate exclude) = Transform
settings_class (Dedupe fields most) = Transform
settings_class (Reduce group_by starts_when ends_when expire flush strategies) = Transform
settings_class Host = Transform
settings_class (Console target codec sink) = Sink
settings_class (FileOut path compression codec sink) = Sink
settings_class (Blackhole seconds sink) = Sink

-- whether two classes are the same
abbrev pub same_class : Class → Class → Bool
same_class Source Source = true
same_class Transform Transform = true
same_class Sink Sink = true
same_class _ _ = false

-- whether a component's options are those of its class, and it reads nobody if it is a source
abbrev pub fits_class : Component → Bool
fits_class c = same_class (settings_class c.settings) c.class && (not (is_source c) || is_empty c.inputs)

-- whether a component that is a sink has a stage
abbrev pub has_stage : Component → Bool
has_stage c = not (is_sink c) || not (is_empty (stages c))

-- a plan that may be installed: its names differ, each component has options of its class, each sink has a stage, and its graph may stand
pub record IsPlan (plan : Plan) : Type 0 where
  pub named : names_differ plan.components ≡ true
  pub fitting : list_all fits_class plan.components ≡ true
  pub staged : list_all has_stage plan.components ≡ true
  pub accepted : IsAccepted (in_order (nodes_of plan))
