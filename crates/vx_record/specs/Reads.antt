-- The bytes that an instance took, and the lines and events that a Read completes.
use Rattle.std.specs.Prelude.{ℕ, ◌+◌, ◌-◌, Bool, true, false, not, ◌&&◌, ◌||◌, Option, Some, None, unwrap_or, List, [], ◌∷◌, ◌++◌, length, filter, flat_map, if◌then◌else◌, ◌==◌}
use Rattle.vx_value.specs.Texts.{ByteString, is_empty}
use Rattle.vx_value.specs.Datum.{NamedDatum}
use Rattle.vx_value.specs.declared.event.Event.{Event}
use Rattle.vx_frame.specs.Frames.{Frame, all_lines, fits, is_overlong, open_line, open_from}
use Rattle.vx_json.specs.LineEvents.{line_fields, is_undecodable}
use Rattle.vx_codec.specs.declared.decoding.Decoding.{Decoding}
use Rattle.vx_plan.specs.declared.component.Component.{Component}
use Rattle.vx_plan.specs.declared.settings.Settings.{Settings}
use Rattle.vx_plan.specs.Options.{decoding, type_name, file_read}
use Rattle.vx_plan.specs.Components.{longest_line}
use Rattle.vx_record.specs.declared.taken.Taken.{Taken}
use Rattle.vx_record.specs.declared.taken.Taken.TheVariants.{Bytes, StreamEnded, AllEnded}
use Rattle.vx_record.specs.declared.entry.Entry.{Entry}
use Rattle.vx_record.specs.declared.entry.Entry.TheVariants.{Read, SourceLost}
use Rattle.vx_record.specs.Records.{Record}
use Rattle.vx_record.specs.Copies.{all_of}
use Rattle.vx_record.specs.Installs.{component_or}

-- the bytes that a Read took, perhaps none
abbrev pub bytes_of : Taken → ByteString
bytes_of (Bytes bytes) = bytes
bytes_of StreamEnded = []
bytes_of AllEnded = []

-- whether a Read took bytes
abbrev pub has_bytes : Taken → Bool
has_bytes (Bytes bytes) = not (is_empty bytes)
has_bytes StreamEnded = false
has_bytes AllEnded = false

-- whether a Read told the end of all
abbrev pub is_end : Taken → Bool
is_end (Bytes bytes) = false
is_end StreamEnded = false
is_end AllEnded = true

-- the bytes of a stream that the instance took
abbrev pub taken : Record → ℕ → ℕ → ByteString
taken [] i stream = []
taken (Read j stream' took ∷ h) i stream = taken h i stream ++ (if (j == i) && (stream' == stream) then bytes_of took else [])
taken (e ∷ h) i stream = taken h i stream

-- how many bytes it took of all streams
abbrev pub bytes_taken : Record → ℕ → ℕ
bytes_taken [] i = 0
bytes_taken (Read j stream took ∷ h) i = bytes_taken h i + (if j == i then length (bytes_of took) else 0)
bytes_taken (e ∷ h) i = bytes_taken h i

-- whether a Read of the instance told the end of all
abbrev pub all_ended : Record → ℕ → Bool
all_ended [] i = false
all_ended (Read j stream took ∷ h) i = ((j == i) && is_end took) || all_ended h i
all_ended (e ∷ h) i = all_ended h i

-- whether the instance was lost
abbrev pub is_lost : Record → ℕ → Bool
is_lost [] i = false
is_lost (SourceLost j at failed ∷ h) i = (j == i) || is_lost h i
is_lost (e ∷ h) i = is_lost h i

-- the stream that bytes were last taken of
abbrev pub last_stream : Record → ℕ → Option ℕ
last_stream [] i = None
last_stream (Read j stream took ∷ h) i = if (j == i) && has_bytes took then Some stream else last_stream h i
last_stream (e ∷ h) i = last_stream h i

-- the stream that an entry tells to have ended, for the instance
abbrev pub ended_by : ℕ → Entry → List ℕ
ended_by i (Read j stream StreamEnded) = if j == i then stream ∷ [] else []
ended_by i other = []

-- the streams that ended by themselves, in order
abbrev pub ended_streams : Record → ℕ → List ℕ
ended_streams h i = all_of (ended_by i) h

-- the stream of which a Read completes lines: that of its bytes or its end, and at the end of all the last
abbrev pub stream_of : Record → ℕ → ℕ → Taken → ℕ
stream_of h i stream (Bytes bytes) = stream
stream_of h i stream StreamEnded = stream
stream_of h i stream AllEnded = unwrap_or (last_stream h i) 0

-- a stream's bytes after one more Read of it
abbrev pub still_open : Taken → ByteString → ByteString
still_open (Bytes bytes) before = before ++ bytes
still_open StreamEnded before = []
still_open AllEnded before = []

-- a stream's bytes since its last end
abbrev pub open_bytes : Record → ℕ → ℕ → ByteString
open_bytes [] i stream = []
open_bytes (Read j stream' took ∷ h) i stream =
    let before = open_bytes h i stream in
    if (j == i) && (stream_of h i stream' took == stream) then still_open took before else before
open_bytes (e ∷ h) i stream = open_bytes h i stream

-- the lines that a Read of some open bytes completes, however long: it goes on with the line that they leave open, or ends it
abbrev pub completed : ByteString → Taken → List Frame
completed before (Bytes bytes) = all_lines (open_from before) (open_line before ++ bytes) false
completed before StreamEnded = all_lines (open_from before) (open_line before) true
completed before AllEnded = all_lines (open_from before) (open_line before) true

-- those of them within a limit
abbrev pub lines_past : ℕ → ByteString → Taken → List Frame
lines_past limit before took = filter (fits limit) (completed before took)

-- how many of them are too long
abbrev pub overlong_past : ℕ → ByteString → Taken → ℕ
overlong_past limit before took = length (filter (is_overlong limit) (completed before took))

-- the instance's limit
abbrev pub limit_of : Record → ℕ → ℕ
limit_of = component_or 0 (λ (c : Component). longest_line c.settings)

-- the lines that a Read completes, without the overlong ones
abbrev pub new_lines : Record → ℕ → ℕ → Taken → List Frame
new_lines h i stream took = lines_past (limit_of h i) (open_bytes h i (stream_of h i stream took)) took

-- how many overlong lines it completes
abbrev pub new_overlong : Record → ℕ → ℕ → Taken → ℕ
new_overlong h i stream took = overlong_past (limit_of h i) (open_bytes h i (stream_of h i stream took)) took

-- the event with some fields, if there are any to have
abbrev pub event_with : Option (List NamedDatum) → List Event
event_with None = []
event_with (Some fields) = record { fields = fields } ∷ []

-- the event that a line gives by a codec, with the type of its source and the path of the file that this reads, or none
abbrev pub line_events : Decoding → Settings → Frame → List Event
line_events d settings line = event_with (line_fields d (type_name settings) (file_read settings) line.bytes)

-- the events of some lines by a codec, in order
abbrev pub decoded : Decoding → Settings → List Frame → List Event
decoded d settings lines = flat_map (line_events d settings) lines

-- how many of some lines have bytes and give no event by a codec
abbrev pub undecodable_among : Decoding → List Frame → ℕ
undecodable_among d lines = length (filter (λ (line : Frame). is_undecodable d line.bytes) lines)

-- the events of some lines by a component's codec, if it reads lines
abbrev pub events_of_lines : Settings → List Frame → List Event
events_of_lines settings lines = elim (decoding settings) [ None ↦ [] | Some d ↦ decoded d settings lines ]

-- the events that a Read gives
abbrev pub events_of : Record → ℕ → ℕ → Taken → List Event
events_of h i stream took = component_or [] (λ (c : Component). events_of_lines c.settings (new_lines h i stream took)) h i

-- how many of some lines are undecodable by a component's codec, if it reads lines
abbrev pub undecodable_lines : Settings → List Frame → ℕ
undecodable_lines settings lines = elim (decoding settings) [ None ↦ 0 | Some d ↦ undecodable_among d lines ]

-- how many undecodable lines a Read completes
abbrev pub new_undecodable : Record → ℕ → ℕ → Taken → ℕ
new_undecodable h i stream took = component_or 0 (λ (c : Component). undecodable_lines c.settings (new_lines h i stream took)) h i

-- the end of the last of some lines
abbrev pub last_end : List Frame → ℕ
last_end [] = 0
last_end (line ∷ []) = line.end
last_end (line ∷ next ∷ rest) = last_end (next ∷ rest)

-- how many bytes of a stream the instance took up to the stream's last end
abbrev pub ended_at : Record → ℕ → ℕ → ℕ
ended_at h i stream = length (taken h i stream) - length (open_bytes h i stream)

-- the position behind the last line that a Read completes, in the stream's bytes; an entry has it capped, as a line has its end
abbrev pub end_of : Record → ℕ → ℕ → Taken → ℕ
end_of h i stream took = ended_at h i (stream_of h i stream took) + last_end (new_lines h i stream took)
