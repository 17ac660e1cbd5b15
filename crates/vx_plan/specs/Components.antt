-- What a component is, and what its options mean.
use Rattle.std.specs.Prelude.{ℕ, ◌*◌, Bool, true, false, Option, Some, None, List, [], ◌∷◌, find, unwrap_or}
use Rattle.vx_value.specs.Texts.{ByteString, same_text}
use Rattle.vx_sinkcore.specs.Waits.{wait_after}
use Rattle.vx_plan.specs.Options.{sink_options, line_limit, transform_ports}
use Rattle.vx_plan.specs.declared.class.Class.TheVariants.{Source, Transform, Sink}
use Rattle.vx_plan.specs.declared.component.Component.{Component}
use Rattle.vx_plan.specs.declared.plan.Plan.{Plan}
use Rattle.vx_plan.specs.declared.settings.Settings.{Settings}
use Rattle.vx_plan.specs.declared.sink_settings.SinkSettings.{SinkSettings}
use Rattle.vx_plan.specs.declared.stage.Stage.{Stage}
use Rattle.vx_plan.specs.declared.when_full.WhenFull.TheVariants.{Block}

-- the component of that name
abbrev pub component_named : Plan → ByteString → Option Component
component_named plan name = find (λ (c : Component). same_text c.name name) plan.components

-- whether it stands in the table of sources
abbrev pub is_source : Component → Bool
is_source c = elim c.class [ Source ↦ true | Transform ↦ false | Sink ↦ false ]

-- whether it stands in the table of transforms
abbrev pub is_transform : Component → Bool
is_transform c = elim c.class [ Source ↦ false | Transform ↦ true | Sink ↦ false ]

-- whether it stands in the table of sinks
abbrev pub is_sink : Component → Bool
is_sink c = elim c.class [ Source ↦ false | Transform ↦ false | Sink ↦ true ]

-- the names of a component's ports, in order; the only port of most components has the empty name
abbrev pub port_names : Component → List ByteString
port_names c = elim c.class [ Source ↦ [] ∷ [] | Transform ↦ transform_ports c.settings | Sink ↦ [] ]

-- what a component's sink options say, or a value where it has none
abbrev pub of_sink : {X : Type 0} → X → (SinkSettings → X) → Settings → X
of_sink none f settings = elim (sink_options settings) [ None ↦ none | Some sink ↦ f sink ]

-- whether it is a sink that makes batches wait
abbrev pub acknowledges : Component → Bool
acknowledges c = of_sink false (λ (s : SinkSettings). s.acknowledgements) c.settings

-- the buffer of a transform: 100 parcels, and then it blocks
abbrev pub transform_stages : List Stage
transform_stages = record { max_events = 100; when_full = Block } ∷ []

-- the stages that a sink's options give
abbrev pub sink_stages : Settings → List Stage
sink_stages = of_sink [] (λ (s : SinkSettings). s.buffer)

-- the stages of a component's buffer; sources have none
abbrev pub stages : Component → List Stage
stages c = elim c.class [ Source ↦ [] | Transform ↦ transform_stages | Sink ↦ sink_stages c.settings ]

-- the length of the longest line that a component takes
abbrev pub longest_line : Settings → ℕ
longest_line settings = unwrap_or (line_limit settings) 0

-- how many parcels a sink batch may have
abbrev pub batch_max_events : Settings → ℕ
batch_max_events = of_sink 0 (λ (s : SinkSettings). s.batch_max_events)

-- how long, in milliseconds, a sink batch may wait for more parcels
abbrev pub batch_timeout : Settings → ℕ
batch_timeout = of_sink 0 (λ (s : SinkSettings). s.batch_timeout_secs * 1000)

-- how often a failed attempt is made again
abbrev pub retry_attempts : Settings → ℕ
retry_attempts = of_sink 0 (λ (s : SinkSettings). s.request_retry_attempts)

-- the k-th wait, in milliseconds, between first waits of some seconds and a greatest one
abbrev pub wait_of : ℕ → SinkSettings → ℕ
wait_of k s = wait_after s.request_retry_initial_backoff_secs s.request_retry_max_duration_secs k * 1000

-- the milliseconds between the k-th failed attempt of a sink batch and the next
abbrev pub retry_wait : Settings → ℕ → ℕ
retry_wait settings k = of_sink 0 (wait_of k) settings
