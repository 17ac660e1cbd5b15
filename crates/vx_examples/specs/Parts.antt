-- Components and events of the examples.
use Rattle.std.specs.Prelude.{ℕ, ◌-◌, ◌^◌, Bool, true, false, List, [], ◌∷◌, codes}
use Rattle.vx_value.specs.Texts.{ByteString}
use Rattle.vx_value.specs.declared.event.Event.{Event}
use Rattle.vx_value.specs.Datum.{Words}
use Rattle.vx_plan.specs.declared.plan.Plan.{Plan}
use Rattle.vx_plan.specs.declared.component.Component.{Component}
use Rattle.vx_plan.specs.declared.class.Class.TheVariants.{Source, Transform, Sink}
use Rattle.vx_plan.specs.declared.settings.Settings.{Settings}
use Rattle.vx_plan.specs.declared.settings.Settings.TheVariants.{Stdin, Console}
use Rattle.vx_codec.specs.declared.decoding.Decoding.TheVariants as decoding
use Rattle.vx_codec.specs.declared.codec.Codec.TheVariants as codec
use Rattle.vx_plan.specs.declared.console_target.ConsoleTarget.TheVariants.{Stdout}
use Rattle.vx_plan.specs.declared.sink_settings.SinkSettings.{SinkSettings}
use Rattle.vx_plan.specs.declared.stage.Stage.{Stage}
use Rattle.vx_plan.specs.declared.when_full.WhenFull.TheVariants.{Block, DropNewest, Overflow}
use Rattle.vx_record.specs.declared.child.Child.{Child}
use Rattle.vx_record.specs.declared.output.Output.{Output}

abbrev pub source : ByteString → Component
source name = record { name = name; class = Source; inputs = []; settings = Stdin 102400 decoding.Bytes }

-- a transform that reads one input
abbrev pub transform : ByteString → ByteString → Settings → Component
transform name input settings = record { name = name; class = Transform; inputs = input ∷ []; settings = settings }

abbrev pub block : Stage
block = record { max_events = 500; when_full = Block }

abbrev pub drop : Stage
drop = record { max_events = 1; when_full = DropNewest }

abbrev pub overflow : Stage
overflow = record { max_events = 1; when_full = Overflow }

abbrev pub pair : Stage
pair = record { max_events = 2; when_full = Block }

-- the options of a sink: whether it acknowledges, its stages, its batches, its retries and its longest wait
abbrev pub options : Bool → List Stage → ℕ → ℕ → ℕ → SinkSettings
options acknowledgements buffer most retries longest = record {
  acknowledgements = acknowledgements;
  buffer = buffer;
  batch_max_events = most;
  batch_timeout_secs = 1;
  request_retry_attempts = retries;
  request_retry_initial_backoff_secs = 1;
  request_retry_max_duration_secs = longest;
}

-- a console sink of these options that reads one input
abbrev pub console : ByteString → ByteString → SinkSettings → Component
console name input chosen = record { name = name; class = Sink; inputs = input ∷ []; settings = Console Stdout codec.Text chosen }

-- one that tries again without end
abbrev pub sink : ByteString → ByteString → Stage → Component
sink name input stage = console name input (options false (stage ∷ []) 1 (2 ^ 63 - 1) 30)

-- and one with as many retries of a failed attempt
abbrev pub retrying : ByteString → ByteString → Stage → ℕ → Component
retrying name input stage retries = console name input (options false (stage ∷ []) 1 retries 30)

-- a sink with batches of two and a buffer of one and then two events
abbrev pub batching : ByteString → ByteString → Component
batching name input = console name input (options false (overflow ∷ pair ∷ []) 2 (2 ^ 63 - 1) 30)

-- a sink that makes batches wait, and tries nothing again
abbrev pub acknowledging : ByteString → ByteString → Component
acknowledging name input = console name input (options true (block ∷ []) 1 0 30)

abbrev pub plan_with : List Component → Plan
plan_with components = record { global = record { data_dir = codes "/var/lib/vector/"; acknowledgements = false }; components = components }

-- the event of a text, from a source of a type
abbrev pub event_from : ByteString → ByteString → Event
event_from kind text = record {
  fields = record { name = codes "message"; value = Words text } ∷ record { name = codes "source_type"; value = Words kind } ∷ [];
}

-- the event of a line of one byte
abbrev pub event_with : ℕ → Event
event_with byte = event_from (codes "stdin") (byte ∷ [])

-- a child of one copy
abbrev pub child : ℕ → ℕ → Child
child target copy = record { target = target; copies = copy ∷ [] }

-- a parcel put out on a transform's first port
abbrev pub output : List ℕ → Event → Output
output copies event = record { ports = 1; copies = copies; event = event }
