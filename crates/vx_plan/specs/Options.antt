-- What settings say, one accessor for each option, so that a new type of component adds one line to each.
use Rattle.std.specs.Prelude.{ℕ, ◌*◌, ◌^◌, ◌-◌, Bool, true, false, Option, Some, None, List, [], ◌∷◌, ◌++◌, map, codes}
use Rattle.vx_value.specs.Texts.{ByteString}
use Rattle.vx_codec.specs.declared.codec.Codec.{Codec}
use Rattle.vx_codec.specs.declared.decoding.Decoding.{Decoding}
use Rattle.vx_codec.specs.declared.decoding.Decoding.TheVariants.{Bytes}
use Rattle.vx_demo.specs.declared.demo_settings.DemoSettings.{DemoSettings}
use Rattle.vx_plan.specs.declared.route.Route.{Route as Way}
use Rattle.vx_plan.specs.declared.settings.Settings.{Settings}
use Rattle.vx_plan.specs.declared.settings.Settings.TheVariants.{Stdin, FileIn, DemoLogs, Filter, Route, Sample, Dedupe, Reduce, Host, Console, FileOut, Blackhole}
use Rattle.vx_plan.specs.declared.sink_settings.SinkSettings.{SinkSettings}

-- what a sink shares with all sinks
abbrev pub sink_options : Settings → Option SinkSettings
sink_options (Console target codec sink) = Some sink
sink_options (FileOut path compression codec sink) = Some sink
sink_options (Blackhole seconds sink) = Some sink
sink_options other = None

-- the length of the longest line that a source takes, without its line feed; generated lines may be of any length that a number of 32 bits tells
abbrev pub line_limit : Settings → Option ℕ
line_limit (Stdin max_length codec) = Some max_length
line_limit (FileIn most path from codec) = Some most
line_limit (DemoLogs demo interval) = Some (2 ^ 32 - 1)
line_limit other = None

-- how a source makes events of lines
abbrev pub decoding : Settings → Option Decoding
decoding (Stdin max_length codec) = Some codec
decoding (FileIn most path from codec) = Some codec
decoding (DemoLogs demo interval) = Some Bytes
decoding other = None

-- how a sink writes events
abbrev pub encoding : Settings → Option Codec
encoding (Console target codec sink) = Some codec
encoding (FileOut path compression codec sink) = Some codec
encoding other = None

-- the path of the file that a source reads
abbrev pub file_read : Settings → Option ByteString
file_read (FileIn most path from codec) = Some path
file_read other = None

-- what generated input is made of
abbrev pub demo_of : Settings → Option DemoSettings
demo_of (DemoLogs demo interval) = Some demo
demo_of other = None

-- how long, in milliseconds, a source rests behind a Read
abbrev pub reading_interval : Settings → ℕ
reading_interval (DemoLogs demo interval) = interval * 1000
reading_interval other = 0

-- whether a component works with a port: transforms, generators and black holes have none
abbrev pub has_device : Settings → Bool
has_device (Stdin max_length codec) = true
has_device (FileIn most path from codec) = true
has_device (Console target codec sink) = true
has_device (FileOut path compression codec sink) = true
has_device other = false

-- the name of the type
abbrev pub type_name : Settings → ByteString
type_name (Stdin max_length codec) = 115 ∷ 116 ∷ 100 ∷ 105 ∷ 110 ∷ []
type_name (FileIn most path from codec) = codes "file"
type_name (DemoLogs demo interval) = codes "demo_logs"
type_name (Filter condition) = codes "filter"
type_name (Route routes reroute) = codes "route"
type_name (Sample rate exclude) = codes "sample"
type_name (Dedupe fields most) = codes "dedupe"
type_name (Reduce group_by starts_when ends_when expire flush strategies) = codes "reduce"
type_name Host = codes "host"
type_name (Console target codec sink) = 99 ∷ 111 ∷ 110 ∷ 115 ∷ 111 ∷ 108 ∷ 101 ∷ []
type_name (FileOut path compression codec sink) = codes "file"
type_name (Blackhole seconds sink) = codes "blackhole"

-- a text, if there is one
abbrev pub if_any : Option ByteString → List ByteString
if_any None = []
if_any (Some text) = text ∷ []

-- the conditions of a transform, in the order of the options' paths
abbrev pub conditions_of : Settings → List ByteString
conditions_of (Filter condition) = condition ∷ []
conditions_of (Route routes reroute) = map (λ (way : Way). way.condition) routes
conditions_of (Sample rate exclude) = if_any exclude
conditions_of (Reduce group_by starts_when ends_when expire flush strategies) = if_any ends_when ++ if_any starts_when
conditions_of other = []

-- the names of a transform's ports, in order: a route has one for each of its ways, and one for what no way takes; another has one, with the empty name
abbrev pub transform_ports : Settings → List ByteString
transform_ports (Route routes reroute) = map (λ (way : Way). way.name) routes ++ codes "_unmatched" ∷ []
transform_ports other = [] ∷ []
