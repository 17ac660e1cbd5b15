-- The plan of a document without faults.
use Rattle.std.specs.Prelude.{ℕ, Bool, Option, Some, None, option_and_then, option_map, unwrap_or, List, [], ◌∷◌, map, codes, if◌then◌else◌, true, false}
use Rattle.std.specs.List.{flat_map}
use Rattle.vx_value.specs.Texts.{ByteString, same_text}
use Rattle.vx_condition.specs.declared.dedupe_fields.DedupeFields.{DedupeFields}
use Rattle.vx_condition.specs.declared.dedupe_fields.DedupeFields.TheVariants.{Match, Ignore}
use Rattle.vx_condition.specs.declared.strategy.Strategy.{Strategy}
use Rattle.toml.specs.Data.{Data, Items, get, as_str, as_array, as_bool}
use Rattle.vx_codec.specs.declared.codec.Codec.{Codec}
use Rattle.vx_codec.specs.declared.codec.Codec.TheVariants as codec
use Rattle.vx_codec.specs.declared.decoding.Decoding.{Decoding}
use Rattle.vx_codec.specs.declared.decoding.Decoding.TheVariants as decoding
use Rattle.vx_demo.specs.declared.demo_settings.DemoSettings.{DemoSettings}
use Rattle.vx_plan.specs.declared.component.Component.{Component}
use Rattle.vx_plan.specs.declared.compression.Compression.TheVariants as compression
use Rattle.vx_plan.specs.declared.console_target.ConsoleTarget.{ConsoleTarget}
use Rattle.vx_plan.specs.declared.console_target.ConsoleTarget.TheVariants.{Stdout, Stderr}
use Rattle.vx_plan.specs.declared.global.Global.{Global}
use Rattle.vx_plan.specs.declared.plan.Plan.{Plan}
use Rattle.vx_plan.specs.declared.read_from.ReadFrom.TheVariants.{Beginning}
use Rattle.vx_plan.specs.declared.route.Route.{Route as Way}
use Rattle.vx_plan.specs.declared.settings.Settings.{Settings}
use Rattle.vx_plan.specs.declared.settings.Settings.TheVariants as settings
use Rattle.vx_plan.specs.declared.sink_settings.SinkSettings.{SinkSettings}
pub use Rattle.vx_plan.specs.Graphs.{nodes_of}
use Rattle.vx_reading.specs.declared.kind.Kind.{Kind}
use Rattle.vx_reading.specs.declared.kind.Kind.TheVariants.{Stdin, FileIn, DemoLogs, Filter, Route, Sample, Dedupe, Reduce, Host, Console, FileOut, Blackhole}
use Rattle.vx_reading.specs.Components.{Part, parts, kind_of}
use Rattle.vx_reading.specs.Judging.{Pair, pairs_in, items_in, whole_in, path_spelled}
use Rattle.vx_plan.specs.declared.class.Class.TheVariants.{Source, Transform, Sink}
use Rattle.vx_reading.specs.Options.{kind_class, most_length, most_whole, most_keys, most_period, most_print_interval, most_batch, most_seconds}
use Rattle.vx_reading.specs.Stages.{buffer_of}
use Rattle.vx_reading.specs.Strategies.{how_named}

-- a text, or another where it isn't given
abbrev pub text_or : ByteString → Option ByteString → ByteString
text_or other None = other
text_or other (Some text) = text

-- the text under a name of a table
abbrev pub text_at : ByteString → Data → Option ByteString
text_at name value = option_and_then as_str (get name value)

-- the value under a name of a table that stands under another name
abbrev pub value_within : ByteString → ByteString → Data → Option Data
value_within group name value = option_and_then (get name) (get group value)

-- the text there
abbrev pub text_within : ByteString → ByteString → Data → Option ByteString
text_within group name value = option_and_then as_str (value_within group name value)

-- the truth under a name of a table
abbrev pub truth_at : ByteString → Data → Option Bool
truth_at name value = option_and_then as_bool (get name value)

-- the truth that a value is, or that a table has under a name
abbrev pub truth_in : ByteString → Data → Option Bool
truth_in name value = elim (as_bool value) [ None ↦ truth_at name value | Some truth ↦ Some truth ]

-- the truth under a name of a table, or under another in a table that stands there
abbrev pub truth_either : ByteString → ByteString → Data → Option Bool
truth_either group name value = option_and_then (truth_in name) (get group value)

-- whether sinks acknowledge: as a table says, and otherwise as is said elsewhere
abbrev pub acknowledgements_of : Bool → Data → Bool
acknowledgements_of otherwise value = unwrap_or (truth_either (codes "acknowledgements") (codes "enabled") value) otherwise

-- the global options: sinks don't acknowledge where the configuration doesn't say
abbrev pub global_of : Data → Global
global_of root = record {
  data_dir = text_or (codes "/var/lib/vector/") (text_at (codes "data_dir") root);
  acknowledgements = acknowledgements_of false root;
}

-- the list that a value is, if it is there
abbrev pub items_of : Option Data → Option Items
items_of value = option_and_then as_array value

-- the list under a name of a table, and under a name of a table that stands under another name
abbrev pub list_at : ByteString → Data → Option Items
list_at name value = items_of (get name value)

abbrev pub list_within : ByteString → ByteString → Data → Option Items
list_within group name value = items_of (value_within group name value)

-- the texts among some values
abbrev pub text_of : Data → List ByteString
text_of value = elim (as_str value) [ None ↦ [] | Some text ↦ text ∷ [] ]

abbrev pub texts_of : Option Items → List ByteString
texts_of None = []
texts_of (Some items) = flat_map text_of (items_in items)

-- the texts of the list under a name of a table
abbrev pub texts_at : ByteString → Data → List ByteString
texts_at name value = texts_of (list_at name value)

-- where a console writes: to standard output where it doesn't say
abbrev pub target_named : Option ByteString → ConsoleTarget
target_named None = Stdout
target_named (Some text) = if same_text text (codes "stderr") then Stderr else Stdout

-- how a source makes an event of a line: the line is the message where it doesn't say
abbrev pub decoding_named : Option ByteString → Decoding
decoding_named None = decoding.Bytes
decoding_named (Some text) = if same_text text (codes "json") then decoding.Json else decoding.Bytes

-- how a sink writes an event; it has to say
abbrev pub codec_named : Option ByteString → Codec
codec_named None = codec.Text
codec_named (Some text) = if same_text text (codes "json") then codec.Json else codec.Text

-- the first of some texts; where there is none, the empty text
abbrev pub first_text : List ByteString → ByteString
first_text [] = []
first_text (text ∷ rest) = text

-- the file that a source reads: the first of its list, which has one
abbrev pub include_of : Data → ByteString
include_of value = first_text (texts_at (codes "include") value)

-- the file to which a sink appends
abbrev pub path_of : Data → ByteString
path_of value = text_or [] (text_at (codes "path") value)

-- the condition that a value is: a text, or that under `source` in a table
abbrev pub condition_of : Data → ByteString
condition_of value = elim (as_str value) [ None ↦ text_or [] (text_at (codes "source") value) | Some text ↦ text ]

-- the condition under a name of a table; where there is none, the empty text, which is no condition
abbrev pub condition_at : ByteString → Data → ByteString
condition_at name value = elim (get name value) [ None ↦ [] | Some inner ↦ condition_of inner ]

-- a way of a route: the name of its port, and its condition
abbrev pub way_of : Pair → Way
way_of p = record { name = p.name; condition = condition_of p.value }

-- the ways of a route, by the bytes of their names
abbrev pub ways_of : Data → List Way
ways_of value = elim (get (codes "route") value) [ None ↦ [] | Some inner ↦ map way_of (pairs_in inner) ]

-- whether what no condition of a route accepts has a port of its own: it has where it doesn't say
abbrev pub is_rerouted : Data → Bool
is_rerouted value = unwrap_or (truth_at (codes "reroute_unmatched") value) true

-- the whole number between two that a value is; where it is none or isn't there, another
abbrev pub whole_or : ℕ → ℕ → ℕ → Option Data → ℕ
whole_or least most otherwise value = unwrap_or (option_and_then (whole_in least most) value) otherwise

-- the same under a name of a table, and under a name of a table that stands under another name
abbrev pub whole_at : ByteString → ℕ → ℕ → ℕ → Data → ℕ
whole_at name least most otherwise value = whole_or least most otherwise (get name value)

abbrev pub whole_within : ByteString → ByteString → ℕ → ℕ → ℕ → Data → ℕ
whole_within group name least most otherwise value = whole_or least most otherwise (value_within group name value)

-- whether numbers stand before the lines of a source: they don't where it doesn't say
abbrev pub is_numbered : Data → Bool
is_numbered value = unwrap_or (truth_at (codes "sequence") value) false

-- the length of the longest line that a source takes, under a name of its table: 102,400 bytes where it doesn't say
abbrev pub length_at : ByteString → Data → ℕ
length_at name value = whole_at name 1 most_length 102400 value

-- what the lines of a source are made of: where it doesn't say, there are as many as there may be, and the seed is 0
abbrev pub demo_of : Data → DemoSettings
demo_of value = record {
  lines = texts_at (codes "lines") value;
  sequence = is_numbered value;
  count = whole_at (codes "count") 0 most_whole most_whole value;
  seed = whole_at (codes "seed") 0 most_whole 0 value;
}

-- how many seconds lie between two lines of a source that makes them: one where it doesn't say
abbrev pub interval_of : Data → ℕ
interval_of value = whole_at (codes "interval") 0 most_seconds 1 value

-- of how many events a sample passes one; it has to say
abbrev pub rate_of : Data → ℕ
rate_of value = whole_at (codes "rate") 1 most_whole 1 value

-- the condition under a name of a table, if there is one
abbrev pub condition_given : ByteString → Data → Option ByteString
condition_given name value = option_map condition_of (get name value)

-- the path that a value is
abbrev pub path_in : Data → List (List ByteString)
path_in value = elim (option_and_then path_spelled (as_str value)) [ None ↦ [] | Some names ↦ names ∷ [] ]

-- the paths of the values by which events repeat each other where a dedupe says neither
abbrev pub default_paths : List (List ByteString)
default_paths = (codes "timestamp" ∷ []) ∷ (codes "host" ∷ []) ∷ (codes "message" ∷ []) ∷ []

-- some paths, or those
abbrev pub matched : Option Items → DedupeFields
matched None = Match default_paths
matched (Some items) = Match (flat_map path_in (items_in items))

-- by what events repeat each other: by all fields but some, where it says which, and else by the values at some paths
abbrev pub fields_of : Data → DedupeFields
fields_of value =
    elim (list_within (codes "fields") (codes "ignore") value) [
      | None ↦ matched (list_within (codes "fields") (codes "match") value)
      | Some items ↦ Ignore (texts_of (Some items))
    ]

-- how many keys a dedupe keeps: 5,000 where it doesn't say
abbrev pub keys_of : Data → ℕ
keys_of value = whole_within (codes "cache") (codes "num_events") 1 most_keys 5000 value

-- the paths among some values
abbrev pub paths_of : Option Items → List (List ByteString)
paths_of None = []
paths_of (Some items) = flat_map path_in (items_in items)

-- the paths of the values that tell the groups of a reduce apart: none where it doesn't say
abbrev pub group_by_of : Data → List (List ByteString)
group_by_of value = paths_of (list_at (codes "group_by") value)

-- how many milliseconds behind its last event a group is put out: 30,000 where a reduce doesn't say
abbrev pub expire_of : Data → ℕ
expire_of value = whole_at (codes "expire_after_ms") 1 most_period 30000 value

-- how many lie between two checks of that: 1,000 where it doesn't say
abbrev pub flush_of : Data → ℕ
flush_of value = whole_at (codes "flush_period_ms") 1 most_period 1000 value

-- how a field is merged, where a value names a way
abbrev pub strategy_in : Pair → List Strategy
strategy_in p = elim (option_and_then how_named (as_str p.value)) [ None ↦ [] | Some how ↦ record { field = p.name; how = how } ∷ [] ]

-- how a reduce merges fields, by the bytes of their names
abbrev pub strategies_of : Data → List Strategy
strategies_of value = elim (get (codes "merge_strategies") value) [ None ↦ [] | Some inner ↦ flat_map strategy_in (pairs_in inner) ]

-- with how many parcels a batch of a sink is closed: with one where it doesn't say
abbrev pub batch_events_of : Data → ℕ
batch_events_of value = whole_within (codes "batch") (codes "max_events") 1 most_batch 1 value

-- how many seconds behind its first parcel it is closed: one where it doesn't say
abbrev pub batch_timeout_of : Data → ℕ
batch_timeout_of value = whole_within (codes "batch") (codes "timeout_secs") 1 most_seconds 1 value

-- how often it makes a failed attempt again: as often as an option may say where it doesn't say
abbrev pub retries_of : Data → ℕ
retries_of value = whole_within (codes "request") (codes "retry_attempts") 0 most_whole most_whole value

-- how many seconds it waits behind the first: one where it doesn't say
abbrev pub first_wait_of : Data → ℕ
first_wait_of value = whole_within (codes "request") (codes "retry_initial_backoff_secs") 1 most_seconds 1 value

-- how many it waits at the most: 30 where it doesn't say
abbrev pub longest_wait_of : Data → ℕ
longest_wait_of value = whole_within (codes "request") (codes "retry_max_duration_secs") 1 most_seconds 30 value

-- the options that every sink has: it acknowledges as the global option says where it doesn't say itself
abbrev pub sink_of : Global → Data → SinkSettings
sink_of global value = record {
  acknowledgements = acknowledgements_of global.acknowledgements value;
  buffer = buffer_of value;
  batch_max_events = batch_events_of value;
  batch_timeout_secs = batch_timeout_of value;
  request_retry_attempts = retries_of value;
  request_retry_initial_backoff_secs = first_wait_of value;
  request_retry_max_duration_secs = longest_wait_of value;
}

-- the settings of a component of a type
abbrev pub settings_of : Global → Data → Kind → Settings
settings_of global value Stdin =
    settings.Stdin (length_at (codes "max_length") value) (decoding_named (text_within (codes "decoding") (codes "codec") value))
settings_of global value FileIn =
    settings.FileIn (length_at (codes "max_line_bytes") value) (include_of value) Beginning (decoding_named (text_within (codes "decoding") (codes "codec") value))
settings_of global value DemoLogs = settings.DemoLogs (demo_of value) (interval_of value)
settings_of global value Filter = settings.Filter (condition_at (codes "condition") value)
settings_of global value Route = settings.Route (ways_of value) (is_rerouted value)
settings_of global value Sample = settings.Sample (rate_of value) (condition_given (codes "exclude") value)
settings_of global value Dedupe = settings.Dedupe (fields_of value) (keys_of value)
settings_of global value Reduce =
    settings.Reduce (group_by_of value) (condition_given (codes "starts_when") value) (condition_given (codes "ends_when") value) (expire_of value) (flush_of value) (strategies_of value)
settings_of global value Host = settings.Host
settings_of global value Console =
    settings.Console (target_named (text_at (codes "target") value)) (codec_named (text_within (codes "encoding") (codes "codec") value)) (sink_of global value)
settings_of global value FileOut =
    settings.FileOut (path_of value) compression.None (codec_named (text_within (codes "encoding") (codes "codec") value)) (sink_of global value)
settings_of global value Blackhole =
    settings.Blackhole (whole_at (codes "print_interval_secs") 0 most_print_interval 0 value) (sink_of global value)

-- the inputs of a component of a type; a source has none
abbrev pub inputs_for : Kind → Data → List ByteString
inputs_for kind value =
    elim (kind_class kind) [ Source ↦ [] | Transform ↦ texts_at (codes "inputs") value | Sink ↦ texts_at (codes "inputs") value ]

-- the component of a type
abbrev pub component : Global → Part → Kind → Component
component global part kind =
    record { name = part.name; class = part.class; inputs = inputs_for kind part.value; settings = settings_of global part.value kind }

abbrev pub component_of : Global → Part → List Component
component_of global part = elim (kind_of part) [ None ↦ [] | Some kind ↦ component global part kind ∷ [] ]

-- what a document stands for
abbrev pub plan_of : Data → Plan
plan_of root = record { global = global_of root; components = flat_map (component_of (global_of root)) (parts root) }
