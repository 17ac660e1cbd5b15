-- Which options there are: tables of rows, read by the same definitions whatever they hold.
use Rattle.std.specs.Prelude.{ℕ, ◌^◌, ◌-◌, Bool, true, false, not, ◌&&◌, ◌||◌, ◌==◌, Option, Some, None, List, [], ◌∷◌, ◌++◌, length, map, codes, find, nat_le}
use Rattle.std.specs.List.{list_all}
use Rattle.vx_value.specs.Texts.{ByteString, same_text}
use Rattle.vx_plan.specs.declared.class.Class.{Class}
use Rattle.vx_plan.specs.declared.class.Class.TheVariants.{Source, Transform, Sink}
pub use Rattle.vx_plan.specs.Accepted.{same_class}
use Rattle.vx_reading.specs.declared.item.Item.{Item}
use Rattle.vx_reading.specs.declared.item.Item.TheVariants as item
use Rattle.vx_reading.specs.declared.kind.Kind.{Kind}
use Rattle.vx_reading.specs.declared.kind.Kind.TheVariants.{Stdin, FileIn, DemoLogs, Filter, Route, Sample, Dedupe, Reduce, Host, Console, FileOut, Blackhole}
use Rattle.vx_reading.specs.Strategies.{hows, how_name}

-- where an option stands in a table: by itself; in a table of its own, whose name comes first; in either way, by itself under the
-- first name, or in a table of that name under the second; under each name that a port may have in a table of its own, so many times
-- at most; or under any name in a table of its own
pub data Place : Type 0 where
  Alone : ByteString → Place
  Within : ByteString → ByteString → Place
  Either : ByteString → ByteString → Place
  Each : ByteString → ℕ → Place
  Any : ByteString → Place

-- what a value has to be: a truth, a text, one of some texts, a list of texts, at most so many, a whole number between two, both
-- among them, a condition, the stages of a buffer, at most so many, a list of so many items at least, a list of one text that is no
-- pattern, or a text that is no template
pub data Shape : Type 0 where
  Truth : Shape
  AnyText : Shape
  OneOf : List ByteString → Shape
  Texts : ℕ → Shape
  Whole : ℕ → ℕ → Shape
  Condition : Shape
  Stages : ℕ → Shape
  ListOf : Item → ℕ → Shape
  OneFile : Shape
  FixedText : Shape

-- an option: where it stands, what its value has to be, and whether it has to be there
pub record Row : Type 0 where
  pub place : Place
  pub shape : Shape
  pub required : Bool

-- one that may be there, and one that has to be
abbrev pub optional : Place → Shape → Row
optional place shape = record { place = place; shape = shape; required = false }

abbrev pub mandatory : Place → Shape → Row
mandatory place shape = record { place = place; shape = shape; required = true }

-- the byte `.`
abbrev pub dot : ℕ
dot = 46

-- the names of a place, joined by a dot; of an option that stands in either way, or under names of its own, the first
abbrev pub place_path : Place → ByteString
place_path (Alone name) = name
place_path (Within group name) = group ++ dot ∷ name
place_path (Either group name) = group
place_path (Each group most) = group
place_path (Any group) = group

-- whether the option of a place is the one that is given at another, where it stands by itself or in a table
abbrev pub covers : Place → Place → Bool
covers (Alone a) (Alone b) = same_text a b
covers (Within g a) (Within h b) = same_text g h && same_text a b
covers (Either g a) (Alone b) = same_text g b
covers (Either g a) (Within h b) = same_text g h && same_text a b
covers (Each g most) (Alone b) = same_text g b
covers (Each g most) (Within h b) = same_text g h
covers (Any g) (Alone b) = same_text g b
covers (Any g) (Within h b) = same_text g h
covers _ _ = false

-- a letter or a digit of ASCII, `_` or `-`
abbrev pub is_name_byte : ℕ → Bool
is_name_byte b =
    (((nat_le 65 b && nat_le b 90) || (nat_le 97 b && nat_le b 122)) || (nat_le 48 b && nat_le b 57)) || ((b == 95) || (b == 45))

-- 1 to 64 of these bytes
abbrev pub is_name : ByteString → Bool
is_name name = (nat_le 1 (length name) && nat_le (length name) 64) && list_all is_name_byte name

-- a name that a port may have, which isn't that of the last one
abbrev pub is_route_name : ByteString → Bool
is_route_name name = is_name name && not (same_text name (codes "_unmatched"))

-- whether what is given may stand there by the place of its option: what has names of its own stands in a table, and where they are
-- those of ports, under names that ports may have
abbrev pub fits_place : Place → Place → Bool
fits_place (Each group most) (Alone name) = false
fits_place (Each group most) (Within other name) = is_route_name name
fits_place (Any group) (Alone name) = false
fits_place option place = true

-- how often an option may be given that has the names of ports
abbrev pub most_at : Place → Option ℕ
most_at (Each group most) = Some most
most_at other = None

-- whether sinks acknowledge: a global option, and one of every sink
abbrev pub acknowledgements_row : Row
acknowledgements_row = optional (Either (codes "acknowledgements") (codes "enabled")) Truth

-- the global options
abbrev pub global_rows : List Row
global_rows = optional (Alone (codes "data_dir")) AnyText ∷ acknowledgements_row ∷ []

-- an option of every component
abbrev pub type_row : Row
type_row = mandatory (Alone (codes "type")) AnyText

-- an option of every component that reads others; the graph asks for one input at least
abbrev pub inputs_row : Row
inputs_row = optional (Alone (codes "inputs")) (Texts 256)

-- where a console writes
abbrev pub target_row : Row
target_row = optional (Alone (codes "target")) (OneOf (codes "stdout" ∷ codes "stderr" ∷ []))

-- how a sink writes an event
abbrev pub codec_row : Row
codec_row = mandatory (Within (codes "encoding") (codes "codec")) (OneOf (codes "text" ∷ codes "json" ∷ []))

-- the longest line that a source may allow, without its line feed
abbrev pub most_length : ℕ
most_length = 16777216

-- the longest line that a source takes
abbrev pub length_row : Row
length_row = optional (Alone (codes "max_length")) (Whole 1 most_length)

-- how a source makes an event of a line
abbrev pub decoding_row : Row
decoding_row = optional (Within (codes "decoding") (codes "codec")) (OneOf (codes "bytes" ∷ codes "json" ∷ []))

-- the longest line that a source takes from its file
abbrev pub line_bytes_row : Row
line_bytes_row = optional (Alone (codes "max_line_bytes")) (Whole 1 most_length)

-- which file a source reads
abbrev pub include_row : Row
include_row = mandatory (Alone (codes "include")) OneFile

-- where it reads from that has no checkpoint
abbrev pub read_from_row : Row
read_from_row = optional (Alone (codes "read_from")) (OneOf (codes "beginning" ∷ []))

-- to which file a sink appends
abbrev pub path_row : Row
path_row = mandatory (Alone (codes "path")) FixedText

-- how a sink compresses what it writes
abbrev pub compression_row : Row
compression_row = optional (Alone (codes "compression")) (OneOf (codes "none" ∷ []))

-- how many stages a buffer may have
abbrev pub most_stages : ℕ
most_stages = 8

-- the stages of a sink's buffer
abbrev pub buffer_row : Row
buffer_row = optional (Alone (codes "buffer")) (Stages most_stages)

-- for how many events a stage may have room, and all stages of all sinks together
abbrev pub most_capacity : ℕ
most_capacity = 1000000

-- the options of a stage
abbrev pub stage_rows : List Row
stage_rows =
    optional (Alone (codes "type")) (OneOf (codes "memory" ∷ []))
    ∷ optional (Alone (codes "max_events")) (Whole 1 most_capacity)
    ∷ optional (Alone (codes "when_full")) (OneOf (codes "block" ∷ codes "drop_newest" ∷ codes "overflow" ∷ []))
    ∷ []

-- what a filter passes
abbrev pub condition_row : Row
condition_row = mandatory (Alone (codes "condition")) Condition

-- how many routes there may be
abbrev pub most_routes : ℕ
most_routes = 64

-- the conditions of a route, each under the name of its port
abbrev pub route_row : Row
route_row = mandatory (Each (codes "route") most_routes) Condition

-- whether what no condition of a route accepts has a port of its own
abbrev pub reroute_row : Row
reroute_row = optional (Alone (codes "reroute_unmatched")) Truth

-- the largest whole number that a text can say
abbrev pub most_whole : ℕ
most_whole = 2 ^ 63 - 1

-- of how many events that it counts a sample passes one
abbrev pub rate_row : Row
rate_row = mandatory (Alone (codes "rate")) (Whole 1 most_whole)

-- what it passes uncounted
abbrev pub exclude_row : Row
exclude_row = optional (Alone (codes "exclude")) Condition

-- the values by which events repeat each other
abbrev pub match_row : Row
match_row = optional (Within (codes "fields") (codes "match")) (ListOf item.Path 1)

-- or the fields that don't count for that
abbrev pub ignore_row : Row
ignore_row = optional (Within (codes "fields") (codes "ignore")) (ListOf item.Text 0)

-- how many keys a dedupe may keep
abbrev pub most_keys : ℕ
most_keys = 1000000

-- how many it keeps
abbrev pub keys_row : Row
keys_row = optional (Within (codes "cache") (codes "num_events")) (Whole 1 most_keys)

-- the values that tell the groups of a reduce apart
abbrev pub group_by_row : Row
group_by_row = optional (Alone (codes "group_by")) (ListOf item.Path 0)

-- which events begin a group
abbrev pub starts_row : Row
starts_row = optional (Alone (codes "starts_when")) Condition

-- or which end one
abbrev pub ends_row : Row
ends_row = optional (Alone (codes "ends_when")) Condition

-- how many milliseconds a reduce may say
abbrev pub most_period : ℕ
most_period = 2 ^ 53

-- how many milliseconds behind its last event a group is put out
abbrev pub expire_row : Row
expire_row = optional (Alone (codes "expire_after_ms")) (Whole 1 most_period)

-- how many lie between two checks of that
abbrev pub flush_row : Row
flush_row = optional (Alone (codes "flush_period_ms")) (Whole 1 most_period)

-- how fields are merged, each under the name of its field
abbrev pub strategies_row : Row
strategies_row = optional (Any (codes "merge_strategies")) (OneOf (map how_name hows))

-- what a source does with its texts
abbrev pub format_row : Row
format_row = mandatory (Alone (codes "format")) (OneOf (codes "shuffle" ∷ []))

-- the texts of which a source makes its lines
abbrev pub lines_row : Row
lines_row = mandatory (Alone (codes "lines")) (ListOf item.Line 1)

-- whether each line begins with its number
abbrev pub sequence_row : Row
sequence_row = optional (Alone (codes "sequence")) Truth

-- how many lines a source makes
abbrev pub count_row : Row
count_row = optional (Alone (codes "count")) (Whole 0 most_whole)

-- how many seconds an option may say: a day
abbrev pub most_seconds : ℕ
most_seconds = 86400

-- how many seconds lie between two lines
abbrev pub interval_row : Row
interval_row = optional (Alone (codes "interval")) (Whole 0 most_seconds)

-- by what the texts are chosen
abbrev pub seed_row : Row
seed_row = optional (Alone (codes "seed")) (Whole 0 most_whole)

-- how many seconds a sink that writes nothing may say
abbrev pub most_print_interval : ℕ
most_print_interval = 2 ^ 53

-- a number of seconds without effect
abbrev pub print_interval_row : Row
print_interval_row = optional (Alone (codes "print_interval_secs")) (Whole 0 most_print_interval)

-- how many parcels a batch of a sink may have
abbrev pub most_batch : ℕ
most_batch = 10000

-- with how many parcels a batch of a sink is closed
abbrev pub batch_events_row : Row
batch_events_row = optional (Within (codes "batch") (codes "max_events")) (Whole 1 most_batch)

-- how many seconds behind its first parcel it is closed
abbrev pub batch_timeout_row : Row
batch_timeout_row = optional (Within (codes "batch") (codes "timeout_secs")) (Whole 1 most_seconds)

-- how often a sink makes a failed attempt again
abbrev pub retries_row : Row
retries_row = optional (Within (codes "request") (codes "retry_attempts")) (Whole 0 most_whole)

-- how many seconds it waits the first time
abbrev pub first_wait_row : Row
first_wait_row = optional (Within (codes "request") (codes "retry_initial_backoff_secs")) (Whole 1 most_seconds)

-- and how many at the most
abbrev pub longest_wait_row : Row
longest_wait_row = optional (Within (codes "request") (codes "retry_max_duration_secs")) (Whole 1 most_seconds)

-- what every sink has but its type and its inputs
abbrev pub sink_rows : List Row
sink_rows = acknowledgements_row ∷ buffer_row ∷ batch_events_row ∷ batch_timeout_row ∷ retries_row ∷ first_wait_row ∷ longest_wait_row ∷ []

-- the options of each type
abbrev pub rows_of : Kind → List Row
rows_of Stdin = type_row ∷ length_row ∷ decoding_row ∷ []
rows_of FileIn = type_row ∷ line_bytes_row ∷ include_row ∷ read_from_row ∷ decoding_row ∷ []
rows_of DemoLogs = type_row ∷ format_row ∷ lines_row ∷ sequence_row ∷ count_row ∷ interval_row ∷ seed_row ∷ []
rows_of Filter = type_row ∷ inputs_row ∷ condition_row ∷ []
rows_of Route = type_row ∷ inputs_row ∷ route_row ∷ reroute_row ∷ []
rows_of Sample = type_row ∷ inputs_row ∷ rate_row ∷ exclude_row ∷ []
rows_of Dedupe = type_row ∷ inputs_row ∷ match_row ∷ ignore_row ∷ keys_row ∷ []
rows_of Reduce = type_row ∷ inputs_row ∷ group_by_row ∷ starts_row ∷ ends_row ∷ expire_row ∷ flush_row ∷ strategies_row ∷ []
rows_of Host = type_row ∷ inputs_row ∷ []
rows_of Console = type_row ∷ inputs_row ∷ target_row ∷ codec_row ∷ sink_rows
rows_of FileOut = type_row ∷ inputs_row ∷ path_row ∷ compression_row ∷ codec_row ∷ sink_rows
rows_of Blackhole = type_row ∷ inputs_row ∷ print_interval_row ∷ sink_rows

-- two options that exclude each other: what is wrong is the later one, by the bytes of their paths
pub record Exclusion : Type 0 where
  pub earlier : Place
  pub later : Place

-- those of a type
abbrev pub exclusion_of : Kind → Option Exclusion
exclusion_of Dedupe = Some (record { earlier = ignore_row.place; later = match_row.place })
exclusion_of Reduce = Some (record { earlier = ends_row.place; later = starts_row.place })
exclusion_of other = None

-- the types, each with the table in which it stands and its name
abbrev pub kinds : List Kind
kinds = Stdin ∷ FileIn ∷ DemoLogs ∷ Filter ∷ Route ∷ Sample ∷ Dedupe ∷ Reduce ∷ Host ∷ Console ∷ FileOut ∷ Blackhole ∷ []

abbrev pub kind_class : Kind → Class
kind_class Stdin = Source
kind_class FileIn = Source
kind_class DemoLogs = Source
kind_class Filter = Transform
kind_class Route = Transform
kind_class Sample = Transform
kind_class Dedupe = Transform
kind_class Reduce = Transform
kind_class Host = Transform
kind_class Console = Sink
kind_class FileOut = Sink
kind_class Blackhole = Sink

abbrev pub kind_name : Kind → ByteString
kind_name Stdin = codes "stdin"
kind_name FileIn = codes "file"
kind_name DemoLogs = codes "demo_logs"
kind_name Filter = codes "filter"
kind_name Route = codes "route"
kind_name Sample = codes "sample"
kind_name Dedupe = codes "dedupe"
kind_name Reduce = codes "reduce"
kind_name Host = codes "host"
kind_name Console = codes "console"
kind_name FileOut = codes "file"
kind_name Blackhole = codes "blackhole"

-- the type of that name in a table
abbrev pub kind_named : Class → ByteString → Option Kind
kind_named class name = find (λ (k : Kind). same_class (kind_class k) class && same_text (kind_name k) name) kinds
