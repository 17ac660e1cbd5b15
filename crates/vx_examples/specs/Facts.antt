-- What the definitions say of closed things.
use Rattle.std.specs.Prelude.{◌≡◌, ◌-◌, ◌^◌, Some, true, false, [], ◌∷◌, codes, map}
use Rattle.std.specs.Str.Lossy.{utf8_lossy}
use Rattle.vx_value.specs.Texts.{ByteString}
use Rattle.vx_plan.specs.declared.component.Component.{Component}
use Rattle.vx_plan.specs.declared.class.Class.TheVariants.{Transform}
use Rattle.vx_plan.specs.declared.settings.Settings.TheVariants.{Filter}
use Rattle.vx_plan.specs.declared.plan.Plan.{Plan}
use Rattle.vx_plan.specs.Components.{retry_wait}
use Rattle.vx_plan.specs.Targets.{is_like, targets, acknowledged}
use Rattle.vx_frame.specs.Frames.{frames}
use Rattle.vx_ends.specs.declared.trouble.Reply.TheVariants.{Failed}
use Rattle.vx_record.specs.declared.taken.Taken.TheVariants.{Bytes}
use Rattle.vx_record.specs.declared.entry.Entry.TheVariants.{Lease, Read, Idle, Take, Attempt}
use Rattle.vx_record.specs.Records.{Record}
use Rattle.vx_record.specs.SinkBatches.{is_timed_out, retry_from}
use Rattle.vx_record.specs.Ready.{reading_moment}
use Rattle.vx_record.specs.Reads.{taken, last_stream}
use Rattle.vx_record.specs.Encoding.{given}
use Rattle.vx_record.specs.Confirms.{confirmed}
use Rattle.vx_record.specs.Tallies.{tally}
use Rattle.vx_record.specs.Tally.{nothing_counted}
use Rattle.vx_examples.specs.FirstRun.{first_run}
use Rattle.vx_examples.specs.Phrases.{so_far}
use Rattle.vx_examples.specs.Parts.{source, sink, console, block, options, plan_with}
use Rattle.vx_examples.specs.Dropped as dropped
use Rattle.vx_examples.specs.Lost as lost
use Rattle.vx_examples.specs.FanOut as fan_out
use Rattle.vx_examples.specs.FailedTake as failed_take
use Rattle.vx_examples.specs.JsonLines as json_lines
use Rattle.vx_examples.specs.Filtered as filtered
use Rattle.vx_examples.specs.Routed as routed
use Rattle.vx_examples.specs.Joined as joined
use Rattle.vx_examples.specs.Retried as retried
use Rattle.vx_examples.specs.Overflowing as overflowing
use Rattle.vx_examples.specs.Generated as generated

-- the counts of the first run
abbrev pub SourceCounts : Type 0
SourceCounts =
    tally first_run 0 ≡ record nothing_counted { read = 4; lines = 2; events = 2; batches = 1; delivered = 1; confirmed = 4 }

abbrev pub SinkCounts : Type 0
SinkCounts = tally first_run 1 ≡ record nothing_counted { taken = 2; attempts = 2; delivered = 2; bytes = 4 }

-- and what its ports took, gave and confirmed
abbrev pub SourceBytes : Type 0
SourceBytes = taken first_run 0 0 ≡ 97 ∷ 10 ∷ 98 ∷ 10 ∷ []

abbrev pub SinkBytes : Type 0
SinkBytes = given first_run 1 ≡ 97 ∷ 10 ∷ 98 ∷ 10 ∷ []

abbrev pub Positions : Type 0
Positions = confirmed first_run 0 ≡ record { stream = 0; end = 4 } ∷ []

-- the counts of what was dropped, not read, failed and refused
abbrev pub NewestCounts : Type 0
NewestCounts = tally dropped.run 2 ≡ record nothing_counted { taken = 1; newest = 1; attempts = 1; delivered = 1; bytes = 2 }

abbrev pub UnreadCounts : Type 0
UnreadCounts =
    tally dropped.run 1 ≡ record nothing_counted { read = 2; lines = 1; events = 1; unread = 1; batches = 1; delivered = 1; confirmed = 2 }

abbrev pub FailedCounts : Type 0
FailedCounts = tally lost.run 1 ≡ record nothing_counted { taken = 1; attempts = 1; errored = 1; bytes = 1 }

abbrev pub UnconfirmedCounts : Type 0
UnconfirmedCounts = tally lost.run 0 ≡ record nothing_counted { read = 2; lines = 1; events = 1; batches = 1; errored = 1 }

abbrev pub RefusedCounts : Type 0
RefusedCounts =
    tally fan_out.run 0 ≡ record nothing_counted { read = 1; lines = 1; events = 1; batches = 1; rejected = 1; confirmed = 1 }

-- an empty line is a line, and not undecodable
abbrev pub UndecodableCounts : Type 0
UndecodableCounts =
    tally json_lines.run 0
    ≡ record nothing_counted { read = 11; lines = 3; undecodable = 1; events = 1; batches = 1; delivered = 1; confirmed = 11 }

-- the counts of transforms: a parcel is put out once whatever its ports, and a joined one is one
abbrev pub FilterCounts : Type 0
FilterCounts = tally filtered.run 1 ≡ record nothing_counted { taken = 2; sent = 1; dropped = 1 }

abbrev pub RouteCounts : Type 0
RouteCounts = tally routed.run 1 ≡ record nothing_counted { taken = 2; sent = 2; unread = 1 }

abbrev pub ReduceCounts : Type 0
ReduceCounts = tally joined.run 1 ≡ record nothing_counted { taken = 3; sent = 1 }

-- a parcel of three copies is one
abbrev pub JoinedCounts : Type 0
JoinedCounts = tally joined.run 2 ≡ record nothing_counted { taken = 1; attempts = 1; delivered = 1; bytes = 2 }

abbrev pub TwoBatchCounts : Type 0
TwoBatchCounts = tally joined.run 0 ≡ record nothing_counted { read = 6; lines = 3; events = 3; batches = 2; delivered = 2; confirmed = 6 }

abbrev pub OverflowCounts : Type 0
OverflowCounts = tally overflowing.run 1 ≡ record nothing_counted { taken = 2; newest = 1; attempts = 2; delivered = 2; bytes = 4 }

abbrev pub GeneratorCounts : Type 0
GeneratorCounts = tally generated.run 0 ≡ record nothing_counted { read = 4; lines = 2; events = 2; batches = 2; delivered = 2 }

-- lines and their ends; the last one counts where the stream ended; overlong ones are left out
abbrev pub Cut : Type 0
Cut =
    frames (codes "a\nbc\nd") 10 true
    ≡ record { bytes = codes "a"; end = 2 } ∷ record { bytes = codes "bc"; end = 5 } ∷ record { bytes = codes "d"; end = 6 } ∷ []

abbrev pub CutOpen : Type 0
CutOpen = frames (codes "a\nbc\nd") 10 false ≡ record { bytes = codes "a"; end = 2 } ∷ record { bytes = codes "bc"; end = 5 } ∷ []

abbrev pub CutShort : Type 0
CutShort = frames (codes "abc\nabcd\nd\n") 3 true ≡ record { bytes = codes "abc"; end = 4 } ∷ record { bytes = codes "d"; end = 11 } ∷ []

-- patterns, and targets in byte order
abbrev pub Likeness : Type 0
Likeness =
    map (is_like (codes "e*r*")) (codes "errors" ∷ codes "er" ∷ codes "e" ∷ codes "serr" ∷ [])
    ≡ true ∷ true ∷ false ∷ false ∷ []

abbrev pub wide : Plan
wide = plan_with
    (source (codes "in") ∷ source (codes "other") ∷ sink (codes "z") (codes "i*") block ∷ sink (codes "b") (codes "in") block
    ∷ sink (codes "in2") (codes "o*") block ∷ [])

abbrev pub Readers : Type 0
Readers = targets wide (codes "in") 0 ≡ codes "b" ∷ codes "z" ∷ []

abbrev pub NoReaders : Type 0
NoReaders = targets wide (codes "z") 0 ≡ []

-- batches wait only where an acknowledging sink is reached
abbrev pub acknowledging : Component
acknowledging = console (codes "k") (codes "in") (options true (block ∷ []) 1 4 2)

abbrev pub Waits : Type 0
Waits = acknowledged (plan_with (source (codes "in") ∷ source (codes "out") ∷ acknowledging ∷ [])) (codes "in") ≡ true

abbrev pub NoWait : Type 0
NoWait = acknowledged (plan_with (source (codes "in") ∷ source (codes "out") ∷ acknowledging ∷ [])) (codes "out") ≡ false

-- a filter that reads two inputs
abbrev pub layer : ByteString → ByteString → ByteString → Component
layer name left right = record { name = name; class = Transform; inputs = left ∷ right ∷ []; settings = Filter (codes ".message == \"k\"") }

-- two transforms in each of eight layers, each of which reads both of the layer before, and a sink
abbrev pub layered : Component → Plan
layered last = plan_with (
    source (codes "in") ∷ layer (codes "a1") (codes "in") (codes "in") ∷ layer (codes "b1") (codes "in") (codes "in")
    ∷ layer (codes "a2") (codes "a1") (codes "b1") ∷ layer (codes "b2") (codes "a1") (codes "b1")
    ∷ layer (codes "a3") (codes "a2") (codes "b2") ∷ layer (codes "b3") (codes "a2") (codes "b2")
    ∷ layer (codes "a4") (codes "a3") (codes "b3") ∷ layer (codes "b4") (codes "a3") (codes "b3")
    ∷ layer (codes "a5") (codes "a4") (codes "b4") ∷ layer (codes "b5") (codes "a4") (codes "b4")
    ∷ layer (codes "a6") (codes "a5") (codes "b5") ∷ layer (codes "b6") (codes "a5") (codes "b5")
    ∷ layer (codes "a7") (codes "a6") (codes "b6") ∷ layer (codes "b7") (codes "a6") (codes "b6")
    ∷ layer (codes "a8") (codes "a7") (codes "b7") ∷ layer (codes "b8") (codes "a7") (codes "b7")
    ∷ last ∷ []
    )

-- batches wait behind many layers too
abbrev pub LayersWait : Type 0
LayersWait = acknowledged (layered (record acknowledging { inputs = codes "a8" ∷ [] })) (codes "in") ≡ true

abbrev pub LayersDontWait : Type 0
LayersDontWait = acknowledged (layered (sink (codes "k") (codes "b8") block)) (codes "in") ≡ false

-- the waits of a sink with initial 1 and greatest 2
abbrev pub RetryWaits : Type 0
RetryWaits = map (retry_wait acknowledging.settings) (1 ∷ 2 ∷ 3 ∷ 4 ∷ []) ≡ 1000 ∷ 1000 ∷ 2000 ∷ 2000 ∷ []

-- how long sources rest, and when a sink tries again
abbrev pub RestsBehindARead : Type 0
RestsBehindARead = reading_moment (so_far 13 generated.run) 0 ≡ 1000

abbrev pub RestsBehindAnIdle : Type 0
RestsBehindAnIdle = reading_moment (Idle 0 false ∷ so_far 2 filtered.run) 0 ≡ 20

abbrev pub RestsBehindAFailedStart : Type 0
RestsBehindAFailedStart = reading_moment (Idle 0 true ∷ so_far 2 filtered.run) 0 ≡ 1000

abbrev pub RetryMoment : Type 0
RetryMoment = retry_from (so_far 38 retried.run) 2 ≡ 2000

-- ill-formed bytes
abbrev pub Replaced : Type 0
Replaced = utf8_lossy (0x61 ∷ 0xE2 ∷ 0x82 ∷ 0x62 ∷ []) ≡ 0x61 ∷ 0xEF ∷ 0xBF ∷ 0xBD ∷ 0x62 ∷ []

-- a Read of no bytes isn't the one that bytes were last taken of
abbrev pub EmptyRead : Type 0
EmptyRead = last_stream (Read 0 5 (Bytes []) ∷ so_far 3 failed_take.run) 0 ≡ Some 0

-- a sink that took at the last moment that an entry can tell
abbrev pub late : Record
late = Take 1 0 (1 ∷ []) ∷ Lease 1 0 (2 ^ 64 - 1) 0 ∷ so_far 7 failed_take.run

-- a wait ends at the last moment, and so does a sink batch's timeout
abbrev pub RetryAtTheEnd : Type 0
RetryAtTheEnd = retry_from (Attempt 1 (1 ∷ []) [] Failed ∷ late) 1 ≡ 2 ^ 64 - 1

abbrev pub TimeoutAtTheEnd : Type 0
TimeoutAtTheEnd = is_timed_out late 1 (2 ^ 64 - 1) ≡ true
