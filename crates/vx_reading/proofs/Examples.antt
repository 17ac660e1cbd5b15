-- Closed texts, and what the definitions say of them.
use Rattle.std.proofs.Common.{◌≡◌, ℕ, pos, Bool, true, false, List, [], ◌∷◌, ◌++◌, Some, None, map, codes, refl}
use Rattle.vx_value.specs.declared.variable.Variable.{Variable}
use Rattle.vx_value.specs.Texts.{ByteString}
use Rattle.toml.proofs.OnLiterals.{toml_on_literals}
use Rattle.toml.specs.Data.{Data, string, integer, boolean, array, table, item, no_items, Members, member, no_members}
use Rattle.toml.specs.Parse.{parse_document}
use Rattle.vx_subst.specs.Pieces.{Bare, pieces_after, piece_of, form_of, bare, braced, with_default, behind}
use Rattle.vx_subst.specs.Replaced.{replaced, first_lacking, becomes, lacks, text_of, lacking}
use Rattle.vx_condition.specs.declared.how.How.TheVariants.{Sum, ConcatNewline}
use Rattle.vx_plan.specs.Components.{acknowledges, stages}
use Rattle.vx_plan.specs.First.{first_configuration, first_plan}
use Rattle.vx_codec.specs.declared.codec.Codec.TheVariants as codec
use Rattle.vx_codec.specs.declared.decoding.Decoding.TheVariants as decoding
use Rattle.vx_plan.specs.declared.class.Class.TheVariants.{Transform}
use Rattle.vx_plan.specs.declared.component.Component.{Component}
use Rattle.vx_plan.specs.declared.compression.Compression.TheVariants as compression
use Rattle.vx_plan.specs.declared.read_from.ReadFrom.TheVariants.{Beginning}
use Rattle.vx_plan.specs.declared.settings.Settings.{Settings}
use Rattle.vx_plan.specs.declared.settings.Settings.TheVariants.{FileIn, DemoLogs, Reduce, Host, FileOut, Blackhole}
use Rattle.vx_plan.specs.declared.sink_settings.SinkSettings.{SinkSettings}
use Rattle.vx_plan.specs.declared.when_full.WhenFull.TheVariants.{Block, Overflow}
use Rattle.vx_reading.specs.Diagnostics.{diagnostics, found, global_owner, precedes}
use Rattle.vx_reading.specs.declared.diagnostic.Diagnostic.{Diagnostic}
use Rattle.vx_reading.specs.declared.trouble.Trouble.{Trouble}
use Rattle.vx_reading.specs.declared.trouble.Trouble.TheVariants.{UnknownKind, UnknownOption, MissingOption, BadValue, TooMany}
use Rattle.vx_reading.specs.Plans.{plan_of}

-- the document of the first configuration
abbrev pub first_members : Members
first_members =
    member (codes "sinks") (table
    (member (codes "out") (table
    (member (codes "encoding") (table (member (codes "codec") (string (codes "text")) no_members))
    (member (codes "inputs") (array (item (string (codes "in")) no_items))
    (member (codes "type") (string (codes "console")) no_members)))) no_members))
    (member (codes "sources") (table (member (codes "in") (table (member (codes "type") (string (codes "stdin")) no_members)) no_members)) no_members)

pub first_parsed : parse_document first_configuration ≡ Some first_members
unfolding toml_on_literals
first_parsed = refl

-- no variable stands in it
pub first_replaced : (environment : List Variable) → replaced environment first_configuration ≡ first_configuration
unfolding pieces_after piece_of form_of bare braced with_default behind becomes text_of
first_replaced environment = refl

pub first_whole : (environment : List Variable) → first_lacking environment first_configuration ≡ None
unfolding pieces_after piece_of form_of bare braced with_default behind lacks lacking
first_whole environment = refl

pub first_faultless : diagnostics (table first_members) ≡ []
first_faultless = refl

pub first_planned : plan_of (table first_members) ≡ first_plan
first_planned = refl

-- the place of a missing variable
missing_place : first_lacking [] (codes "[sources.in]\ntype = \"$NOPE\"\n") ≡ Some (record { at = 21; piece = Bare (codes "NOPE") })
unfolding pieces_after piece_of form_of bare braced with_default behind lacks lacking
missing_place = refl

-- a sink of a type that there isn't, with an option that there isn't
unknown_kind : diagnostics (table (member (codes "sinks") (table (member (codes "out")
    (table (member (codes "type") (string (codes "kafka")) (member (codes "x") (string []) no_members))) no_members)) no_members))
    ≡ found (record { section = 3; name = codes "out" }) (codes "sinks.out.type") UnknownKind ∷ []
unknown_kind = refl

-- a missing option and an unknown one, each with its path
two_faults : diagnostics (table (member (codes "sinks") (table (member (codes "out")
    (table (member (codes "encoding") (table (member (codes "x") (string []) no_members))
    (member (codes "type") (string (codes "console")) no_members))) no_members)) no_members))
    ≡ found (record { section = 3; name = codes "out" }) (codes "sinks.out.encoding.x") UnknownOption
    ∷ found (record { section = 3; name = codes "out" }) (codes "sinks.out.encoding.codec") MissingOption ∷ []
two_faults = refl

-- of two faults of one kind and component the lesser path by bytes is tried first: a dash comes before a dot
dash_first : precedes (found (record { section = 3; name = codes "out" }) (codes "sinks.out.encoding-x") UnknownOption)
    (found (record { section = 3; name = codes "out" }) (codes "sinks.out.encoding.x") UnknownOption) ≡ true
dash_first = refl

-- the global options come first, then sources, transforms, sinks; the kind counts before all
whole_first : precedes (found (record { section = 0; name = [] }) (codes "z") UnknownOption)
    (found (record { section = 1; name = codes "a" }) (codes "sources.a.b") UnknownOption) ≡ true
whole_first = refl

kind_first : precedes (found (record { section = 3; name = codes "z" }) (codes "sinks.z.type") UnknownKind)
    (found (record { section = 0; name = [] }) (codes "a") UnknownOption) ≡ true
kind_first = refl

-- a document that says something of acknowledgements, globally and at its one sink
abbrev saying : Data → Data → Data
saying all one =
    table (member (codes "acknowledgements") all
    (member (codes "sinks") (table (member (codes "out") (table
    (member (codes "acknowledgements") one
    (member (codes "encoding") (table (member (codes "codec") (string (codes "text")) no_members))
    (member (codes "type") (string (codes "console")) no_members)))) no_members)) no_members))

-- a table with one option
abbrev one_option : ByteString → Data → Data
one_option name value = table (member name value no_members)

-- the spelling in a table of its own
spelled_as_table : parse_document (codes "[sinks.out.acknowledgements]\nenabled = true\n")
    ≡ Some (member (codes "sinks") (one_option (codes "out") (one_option (codes "acknowledgements") (one_option (codes "enabled") (boolean true)))) no_members)
unfolding toml_on_literals
spelled_as_table = refl

-- a document without faults: whether sinks acknowledge that don't say otherwise, and whether each sink does
abbrev Acknowledges : Data → Bool → List Bool → Type 0
Acknowledges root all each =
    (diagnostics root ≡ []) × ((plan_of root).global.acknowledgements ≡ all) × (map acknowledges (plan_of root).components ≡ each)

-- a sink says no where the global option says yes, and the other way round, in either spelling
sink_says_no : Acknowledges (saying (boolean true) (boolean false)) true (false ∷ [])
sink_says_no = (refl, refl, refl)

sink_says_yes : Acknowledges (saying (one_option (codes "enabled") (boolean false)) (one_option (codes "enabled") (boolean true))) false (true ∷ [])
sink_says_yes = (refl, refl, refl)

-- a sink that doesn't say goes by the global option
sink_says_nothing : Acknowledges (saying (boolean true) (table no_members)) true (true ∷ [])
sink_says_nothing = (refl, refl, refl)

-- where no global option says it either, it doesn't acknowledge
nothing_is_said : Acknowledges (saying (table no_members) (table no_members)) false (false ∷ [])
nothing_is_said = (refl, refl, refl)

-- the faults of two values, globally and at the sink, whose paths end alike
abbrev both_found : ByteString → Trouble → List Diagnostic
both_found path trouble =
    found global_owner path trouble ∷ found (record { section = 3; name = codes "out" }) (codes "sinks.out." ++ path) trouble ∷ []

no_truths : diagnostics (saying (integer (pos 1)) (string (codes "yes"))) ≡ both_found (codes "acknowledgements") BadValue
no_truths = refl

unknown_names : diagnostics (saying (one_option (codes "on") (boolean true)) (one_option (codes "on") (boolean true)))
    ≡ both_found (codes "acknowledgements.on") UnknownOption
unknown_names = refl

none_enabled : diagnostics (saying (one_option (codes "enabled") (integer (pos 1))) (one_option (codes "enabled") (table no_members)))
    ≡ both_found (codes "acknowledgements.enabled") BadValue
none_enabled = refl

-- a source has no such option
source_says : diagnostics (one_option (codes "sources") (one_option (codes "in")
    (table (member (codes "acknowledgements") (boolean true) (member (codes "type") (string (codes "stdin")) no_members)))))
    ≡ found (record { section = 1; name = codes "in" }) (codes "sources.in.acknowledgements") UnknownOption ∷ []
source_says = refl

-- a document whose one sink has a buffer
abbrev buffered : Data → Data
buffered value =
    one_option (codes "sinks") (one_option (codes "out") (table
    (member (codes "buffer") value
    (member (codes "encoding") (table (member (codes "codec") (string (codes "text")) no_members))
    (member (codes "type") (string (codes "console")) no_members)))))

-- a stage, and one that passes on what it has no room for
abbrev stage_for : ℕ → Data
stage_for room = one_option (codes "max_events") (integer (pos room))

abbrev passing_on : ℕ → Data
passing_on room = table (member (codes "max_events") (integer (pos room)) (member (codes "when_full") (string (codes "overflow")) no_members))

abbrev two_stages : Data → Data → Data
two_stages first second = array (item first (item second no_items))

-- the spelling of two stages
spelled_as_list : parse_document (codes "[[sinks.out.buffer]]\nmax_events = 100\nwhen_full = \"overflow\"\n\n[[sinks.out.buffer]]\nmax_events = 400\n")
    ≡ Some (member (codes "sinks") (one_option (codes "out") (one_option (codes "buffer") (two_stages (passing_on 100) (stage_for 400)))) no_members)
unfolding toml_on_literals
spelled_as_list = refl

-- they are read in order, and so is one that stands alone
two_are_read : (diagnostics (buffered (two_stages (passing_on 100) (stage_for 400))) ≡ [])
    × (map stages (plan_of (buffered (two_stages (passing_on 100) (stage_for 400)))).components
    ≡ (record { max_events = 100; when_full = Overflow } ∷ record { max_events = 400; when_full = Block } ∷ []) ∷ [])
two_are_read = (refl, refl)

one_is_read : (diagnostics (buffered (stage_for 7)) ≡ [])
    × (map stages (plan_of (buffered (stage_for 7))).components ≡ (record { max_events = 7; when_full = Block } ∷ []) ∷ [])
one_is_read = (refl, refl)

-- a fault at the buffer of the sink
abbrev buffer_fault : ByteString → Trouble → Diagnostic
buffer_fault path trouble = found (record { section = 3; name = codes "out" }) (codes "sinks.out.buffer" ++ path) trouble

-- the last stage passes nothing on, and each before it does
last_passes_on : diagnostics (buffered (passing_on 100)) ≡ buffer_fault (codes ".when_full") BadValue ∷ []
last_passes_on = refl

first_blocks : diagnostics (buffered (two_stages (stage_for 100) (stage_for 400))) ≡ buffer_fault (codes ".when_full") BadValue ∷ []
first_blocks = refl

-- a list without stages, a value that is none, and a list with one that is none
no_stage : diagnostics (buffered (array no_items)) ≡ buffer_fault [] BadValue ∷ []
no_stage = refl

no_buffer : diagnostics (buffered (boolean true)) ≡ buffer_fault [] BadValue ∷ []
no_buffer = refl

half_a_buffer : diagnostics (buffered (two_stages (passing_on 100) (boolean true))) ≡ buffer_fault [] BadValue ∷ []
half_a_buffer = refl

-- nine stages
nine_stages : diagnostics (buffered (array
    (item (passing_on 1) (item (passing_on 1) (item (passing_on 1) (item (passing_on 1)
    (item (passing_on 1) (item (passing_on 1) (item (passing_on 1) (item (passing_on 1) (item (stage_for 1) no_items)))))))))))
    ≡ buffer_fault [] (TooMany 9 8) ∷ []
nine_stages = refl

-- an unknown option of a stage, and a stage for no event
unknown_in_stage : diagnostics (buffered (one_option (codes "max_size") (integer (pos 1)))) ≡ buffer_fault (codes ".max_size") UnknownOption ∷ []
unknown_in_stage = refl

no_room : diagnostics (buffered (stage_for 0)) ≡ buffer_fault (codes ".max_events") BadValue ∷ []
no_room = refl

-- stages with too much room together
much_room : diagnostics (buffered (two_stages (passing_on 600000) (stage_for 600000))) ≡ found (record { section = 3; name = [] }) (codes "sinks") (TooMany 1200000 1000000) ∷ []
much_room = refl

-- a document whose one source makes its lines of a value
abbrev generating : Data → Members → Data
generating lines more =
    one_option (codes "sources") (one_option (codes "in") (table
    (member (codes "format") (string (codes "shuffle")) (member (codes "lines") lines more))))

abbrev demo_logs : Members
demo_logs = member (codes "type") (string (codes "demo_logs")) no_members

abbrev two_texts : Data
two_texts = array (item (string (codes "a")) (item (string (codes "b c")) no_items))

abbrev settings_by : Component → Settings
settings_by c = c.settings

-- what it makes them of, where it says no more, and where it does
little_is_said : (diagnostics (generating two_texts demo_logs) ≡ [])
    × (map settings_by (plan_of (generating two_texts demo_logs)).components
    ≡ DemoLogs (record { lines = codes "a" ∷ codes "b c" ∷ []; sequence = false; count = 9223372036854775807; seed = 0 }) 1 ∷ [])
little_is_said = (refl, refl)

abbrev more_said : Members
more_said = member (codes "seed") (integer (pos 7)) (member (codes "sequence") (boolean true) demo_logs)

more_is_said : (diagnostics (generating two_texts more_said) ≡ [])
    × (map settings_by (plan_of (generating two_texts more_said)).components
    ≡ DemoLogs (record { lines = codes "a" ∷ codes "b c" ∷ []; sequence = true; count = 9223372036854775807; seed = 7 }) 1 ∷ [])
more_is_said = (refl, refl)

-- a fault at the source
abbrev source_fault : ByteString → Trouble → Diagnostic
source_fault name trouble = found (record { section = 1; name = codes "in" }) (codes "sources.in." ++ name) trouble

-- no text, a text with a line feed, a value that is no text, and one that is no list
no_texts : diagnostics (generating (array no_items) demo_logs) ≡ source_fault (codes "lines") BadValue ∷ []
no_texts = refl

broken_text : diagnostics (generating (array (item (string (codes "a")) (item (string (codes "b\nc")) no_items))) demo_logs)
    ≡ source_fault (codes "lines") BadValue ∷ []
broken_text = refl

half_texts : diagnostics (generating (array (item (string (codes "a")) (item (boolean true) no_items))) demo_logs) ≡ source_fault (codes "lines") BadValue ∷ []
half_texts = refl

one_text : diagnostics (generating (string (codes "a")) demo_logs) ≡ source_fault (codes "lines") BadValue ∷ []
one_text = refl

-- a source that makes its lines has to say of what, and rests for a day at the most
of_nothing : diagnostics (one_option (codes "sources") (one_option (codes "in") (table demo_logs)))
    ≡ source_fault (codes "format") MissingOption ∷ source_fault (codes "lines") MissingOption ∷ []
of_nothing = refl

resting : diagnostics (generating two_texts (member (codes "interval") (integer (pos 86401)) demo_logs)) ≡ source_fault (codes "interval") BadValue ∷ []
resting = refl

-- it reads no component
reading : diagnostics (generating two_texts (member (codes "inputs") (array no_items) demo_logs)) ≡ source_fault (codes "inputs") UnknownOption ∷ []
reading = refl

-- what a sink has that says nothing of it
abbrev sink_defaults : SinkSettings
sink_defaults = record {
  acknowledgements = false;
  buffer = record { max_events = 500; when_full = Block } ∷ [];
  batch_max_events = 1;
  batch_timeout_secs = 1;
  request_retry_attempts = 9223372036854775807;
  request_retry_initial_backoff_secs = 1;
  request_retry_max_duration_secs = 30;
}

-- a document whose one sink writes nothing
abbrev blackhole : Data → Data
blackhole seconds =
    one_option (codes "sinks") (one_option (codes "out") (table
    (member (codes "print_interval_secs") seconds (member (codes "type") (string (codes "blackhole")) no_members))))

-- what it may say, the most that it may, and one more
seconds_are_said : (diagnostics (blackhole (integer (pos 9007199254740992))) ≡ [])
    × (map settings_by (plan_of (blackhole (integer (pos 9007199254740992)))).components ≡ Blackhole 9007199254740992 sink_defaults ∷ [])
seconds_are_said = (refl, refl)

many_seconds : diagnostics (blackhole (integer (pos 9007199254740993)))
    ≡ found (record { section = 3; name = codes "out" }) (codes "sinks.out.print_interval_secs") BadValue ∷ []
many_seconds = refl

-- it has no target
blackhole_to : diagnostics (one_option (codes "sinks") (one_option (codes "out") (table
    (member (codes "target") (string (codes "stdout")) (member (codes "type") (string (codes "blackhole")) no_members)))))
    ≡ found (record { section = 3; name = codes "out" }) (codes "sinks.out.target") UnknownOption ∷ []
blackhole_to = refl

-- a document whose one source reads a file
abbrev reading_file : Data → Members → Data
reading_file include more =
    one_option (codes "sources") (one_option (codes "in") (table (member (codes "include") include more)))

abbrev file_type : Members
file_type = member (codes "type") (string (codes "file")) no_members

abbrev one_file : Data
one_file = array (item (string (codes "app.log")) no_items)

-- what it is where it says no more, and where it does
file_is_read : (diagnostics (reading_file one_file file_type) ≡ [])
    × (map settings_by (plan_of (reading_file one_file file_type)).components ≡ FileIn 102400 (codes "app.log") Beginning decoding.Bytes ∷ [])
file_is_read = (refl, refl)

abbrev more_of_file : Members
more_of_file = member (codes "max_line_bytes") (integer (pos 16777216)) (member (codes "read_from") (string (codes "beginning")) file_type)

more_is_read : (diagnostics (reading_file one_file more_of_file) ≡ [])
    × (map settings_by (plan_of (reading_file one_file more_of_file)).components ≡ FileIn 16777216 (codes "app.log") Beginning decoding.Bytes ∷ [])
more_is_read = (refl, refl)

-- no file, two files, a pattern, a file that stands in no list, and none at all
no_file : diagnostics (reading_file (array no_items) file_type) ≡ source_fault (codes "include") BadValue ∷ []
no_file = refl

two_files : diagnostics (reading_file (array (item (string (codes "a")) (item (string (codes "b")) no_items))) file_type)
    ≡ source_fault (codes "include") BadValue ∷ []
two_files = refl

star_in_file : diagnostics (reading_file (array (item (string (codes "*.log")) no_items)) file_type) ≡ source_fault (codes "include") BadValue ∷ []
star_in_file = refl

mark_in_file : diagnostics (reading_file (array (item (string (codes "a?.log")) no_items)) file_type) ≡ source_fault (codes "include") BadValue ∷ []
mark_in_file = refl

bracket_in_file : diagnostics (reading_file (array (item (string (codes "a[0].log")) no_items)) file_type) ≡ source_fault (codes "include") BadValue ∷ []
bracket_in_file = refl

file_as_text : diagnostics (reading_file (string (codes "app.log")) file_type) ≡ source_fault (codes "include") BadValue ∷ []
file_as_text = refl

file_is_lacking : diagnostics (one_option (codes "sources") (one_option (codes "in") (table file_type))) ≡ source_fault (codes "include") MissingOption ∷ []
file_is_lacking = refl

-- it is read from its beginning, and no line is longer than may be said
read_from_end : diagnostics (reading_file one_file (member (codes "read_from") (string (codes "end")) file_type)) ≡ source_fault (codes "read_from") BadValue ∷ []
read_from_end = refl

long_lines : diagnostics (reading_file one_file (member (codes "max_line_bytes") (integer (pos 16777217)) file_type))
    ≡ source_fault (codes "max_line_bytes") BadValue ∷ []
long_lines = refl

-- a document whose one sink appends to a file, with an option before its path
abbrev appending : ByteString → Data → Data → Data
appending name value path =
    one_option (codes "sinks") (one_option (codes "f") (table
    (member name value
    (member (codes "encoding") (one_option (codes "codec") (string (codes "text")))
    (member (codes "path") path file_type)))))

-- it doesn't compress what it writes, whether it says so or not
uncompressed : (diagnostics (appending (codes "compression") (string (codes "none")) (string (codes "errors.txt"))) ≡ [])
    × (map settings_by (plan_of (appending (codes "compression") (string (codes "none")) (string (codes "errors.txt")))).components
    ≡ FileOut (codes "errors.txt") compression.None codec.Text sink_defaults ∷ [])
uncompressed = (refl, refl)

compressed : diagnostics (appending (codes "compression") (string (codes "gzip")) (string (codes "errors.txt")))
    ≡ found (record { section = 3; name = codes "f" }) (codes "sinks.f.compression") BadValue ∷ []
compressed = refl

-- a path that is a template, and a sink that has none
template_as_path : diagnostics (appending (codes "compression") (string (codes "none")) (string (codes "{{ host }}.txt")))
    ≡ found (record { section = 3; name = codes "f" }) (codes "sinks.f.path") BadValue ∷ []
template_as_path = refl

path_is_lacking : diagnostics (one_option (codes "sinks") (one_option (codes "f") (table
    (member (codes "encoding") (one_option (codes "codec") (string (codes "text"))) file_type))))
    ≡ found (record { section = 3; name = codes "f" }) (codes "sinks.f.path") MissingOption ∷ []
path_is_lacking = refl

-- a document whose one transform merges events
abbrev merging : Members → Data
merging options = one_option (codes "transforms") (one_option (codes "t") (table options))

abbrev reduce_type : Members
reduce_type = member (codes "type") (string (codes "reduce")) no_members

-- what it is where it says no more, and where it does
abbrev merging_by : Members → Settings → Type 0
merging_by options settings = (diagnostics (merging options) ≡ []) × (map settings_by (plan_of (merging options)).components ≡ settings ∷ [])

bare_reduce : merging_by reduce_type (Reduce [] None None 30000 1000 [])
bare_reduce = (refl, refl)

abbrev two_strategies : Members
two_strategies = member (codes "count") (string (codes "sum")) (member (codes "message") (string (codes "concat_newline")) no_members)

abbrev more_of_reduce : Members
more_of_reduce =
    member (codes "ends_when") (string (codes "exists(.last)"))
    (member (codes "expire_after_ms") (integer (pos 1))
    (member (codes "flush_period_ms") (integer (pos 9007199254740992))
    (member (codes "group_by") (array (item (string (codes ".id")) (item (string (codes "a.b")) no_items)))
    (member (codes "merge_strategies") (table two_strategies) reduce_type))))

whole_reduce : merging_by more_of_reduce
    (Reduce ((codes "id" ∷ []) ∷ (codes "a" ∷ codes "b" ∷ []) ∷ []) None (Some (codes "exists(.last)")) 1 9007199254740992
    (record { field = codes "count"; how = Sum } ∷ record { field = codes "message"; how = ConcatNewline } ∷ []))
whole_reduce = (refl, refl)

-- a fault at the transform
abbrev transform_fault : ByteString → Diagnostic
transform_fault name = found (record { section = 2; name = codes "t" }) (codes "transforms.t." ++ name) BadValue

-- periods that are too short or too long, a path that is none, and the two conditions together
no_period : diagnostics (merging (member (codes "expire_after_ms") (integer (pos 0)) reduce_type)) ≡ transform_fault (codes "expire_after_ms") ∷ []
no_period = refl

long_period : diagnostics (merging (member (codes "flush_period_ms") (integer (pos 9007199254740993)) reduce_type)) ≡ transform_fault (codes "flush_period_ms") ∷ []
long_period = refl

no_path : diagnostics (merging (member (codes "group_by") (array (item (string (codes "a..b")) no_items)) reduce_type)) ≡ transform_fault (codes "group_by") ∷ []
no_path = refl

both_conditions : diagnostics (merging (member (codes "ends_when") (string (codes "exists(.a)")) (member (codes "starts_when") (string (codes "exists(.b)")) reduce_type)))
    ≡ transform_fault (codes "starts_when") ∷ []
both_conditions = refl

-- no strategy, and strategies that stand in no table
no_strategy : diagnostics (merging (member (codes "merge_strategies") (one_option (codes "a") (string (codes "append"))) reduce_type))
    ≡ transform_fault (codes "merge_strategies.a") ∷ []
no_strategy = refl

strategies_as_text : diagnostics (merging (member (codes "merge_strategies") (string (codes "sum")) reduce_type)) ≡ transform_fault (codes "merge_strategies") ∷ []
strategies_as_text = refl

-- a document whose one transform is handed in
abbrev handing : Members → Data
handing options = one_option (codes "transforms") (one_option (codes "t") (table options))

abbrev host_options : Members
host_options = member (codes "inputs") (array (item (string (codes "in")) no_items)) (member (codes "type") (string (codes "host")) no_members)

-- it has a name and inputs, and no options
whole_host : (diagnostics (handing host_options) ≡ [])
    × ((plan_of (handing host_options)).components ≡ record { name = codes "t"; class = Transform; inputs = codes "in" ∷ []; settings = Host } ∷ [])
whole_host = (refl, refl)

option_of_host : diagnostics (handing (member (codes "condition") (string (codes "exists(.a)")) host_options))
    ≡ found (record { section = 2; name = codes "t" }) (codes "transforms.t.condition") UnknownOption ∷ []
option_of_host = refl

-- no source is handed in
host_as_source : diagnostics (one_option (codes "sources") (one_option (codes "s") (one_option (codes "type") (string (codes "host")))))
    ≡ found (record { section = 1; name = codes "s" }) (codes "sources.s.type") UnknownKind ∷ []
host_as_source = refl
