-- What is printed of what an instance counted.
use Rattle.std.specs.Prelude.{◌++◌, codes}
use Rattle.std.specs.Fmt.{decimal}
use Rattle.vx_value.specs.Texts.{ByteString}
use Rattle.vx_plan.specs.declared.class.Class.{Class}
use Rattle.vx_plan.specs.declared.class.Class.TheVariants.{Source, Transform, Sink}
use Rattle.vx_record.specs.declared.tally.Tally.{Tally}
use Rattle.vx_cli.specs.Shown.{shown}

-- the bytes and lines that a source took
abbrev pub lines_text : Tally → ByteString
lines_text t =
    codes " read=" ++ (decimal t.read ++ (codes " lines=" ++ (decimal t.lines ++ (codes " overlong=" ++ (decimal t.overlong
    ++ (codes " undecodable=" ++ decimal t.undecodable))))))

-- the events and batches that it made
abbrev pub batches_text : Tally → ByteString
batches_text t = codes " events=" ++ (decimal t.events ++ (codes " unread=" ++ (decimal t.unread ++ (codes " batches=" ++ decimal t.batches))))

-- what a sink took and tried
abbrev pub attempts_text : Tally → ByteString
attempts_text t = codes " taken=" ++ (decimal t.taken ++ (codes " newest=" ++ (decimal t.newest ++ (codes " attempts=" ++ decimal t.attempts))))

-- what became of a source's batches or a sink's events
abbrev pub outcomes_text : Tally → ByteString
outcomes_text t =
    codes " delivered=" ++ (decimal t.delivered ++ (codes " errored=" ++ (decimal t.errored ++ (codes " rejected=" ++ decimal t.rejected))))

-- what a source counted
abbrev pub source_line : ByteString → Tally → ByteString
source_line name t =
    codes "source " ++ (name ++ (lines_text t ++ (batches_text t ++ (outcomes_text t ++ (codes " confirmed=" ++ (decimal t.confirmed ++ codes "\n"))))))

-- what a transform counted
abbrev pub transform_line : ByteString → Tally → ByteString
transform_line name t =
    codes "transform " ++ (name ++ (codes " taken=" ++ (decimal t.taken ++ (codes " sent=" ++ (decimal t.sent ++ (codes " dropped=" ++ (decimal t.dropped
    ++ (codes " unread=" ++ (decimal t.unread ++ codes "\n")))))))))

-- what a sink counted
abbrev pub sink_line : ByteString → Tally → ByteString
sink_line name t = codes "sink " ++ (name ++ (attempts_text t ++ (outcomes_text t ++ (codes " bytes=" ++ (decimal t.bytes ++ codes "\n")))))

-- what an instance of a class counted, as a line
abbrev pub summary_line : Class → ByteString → Tally → ByteString
summary_line Source name t = source_line (shown name) t
summary_line Transform name t = transform_line (shown name) t
summary_line Sink name t = sink_line (shown name) t
