-- What a source makes of the bytes that it takes.
use Rattle.std.specs.Prelude.{◌≡◌, ◌≢◌, ◌<◌, ◌≤◌, ℕ, true, false, Bool, Option, Some, None, IfSome, unwrap_or, List, [], ◌∷◌, ◌++◌, ◌+◌, take, length, map, flat_map, Contains}
use Rattle.vx_value.specs.Texts.{ByteString}
use Rattle.vx_value.specs.declared.event.Event.{Event}
use Rattle.vx_frame.specs.Frames.{Frame, frames, discarded}
use Rattle.vx_frame.specs.Framings.{Framing, HasTaken, unfinished, lines_behind, overlong_behind, line_of}
use Rattle.vx_frame.specs.declared.line.Line.{Line}
use Rattle.vx_codec.specs.declared.decoding.Decoding.{Decoding}
use Rattle.vx_json.specs.LineEvents.{line_fields}
use Rattle.vx_record.specs.Records.{capped}
use Rattle.vx_record.specs.Reads.{event_with}
use Rattle.vx_sourcecore.specs.NewLines.{AreObserved}
use Rattle.vx_sourcecore.specs.declared.source.Cut.{Cut}
use Rattle.vx_sourcecore.specs.declared.source.SourceCore.{SourceCore}
use Rattle.vx_sourcecore.specs.declared.source.Turned.{Turned}
use Rattle.vx_sourcecore.specs.declared.source.Turned.TheVariants.{Lines, StreamEnded, AllEnded, Idle, Failed}

-- the event that a line gives by a codec, with the type of its source and the path of the file that this reads, or none
abbrev pub events_of_cut : Decoding → ByteString → Option ByteString → Line → List Event
events_of_cut decoding source_type file line = event_with (line_fields decoding source_type file line.bytes)

-- the end of the last of some lines
abbrev pub last_end : List Line → ℕ
last_end [] = 0
last_end (line ∷ []) = line.end
last_end (line ∷ next ∷ rest) = last_end (next ∷ rest)

-- a line without its stream
abbrev pub frame_of : Line → Frame
frame_of line = record { bytes = line.bytes; end = line.end }

-- what was cut are these lines, beside so many that were too long: their events in order, the end of the last of them, whether or
-- not it gave one, and their number
pub record IsOf (decoding : Decoding) (source_type : ByteString) (file : Option ByteString) (lines : List Line) (over : ℕ) (cut : Cut) : Type 0 where
  pub each : cut.events ≡ flat_map (events_of_cut decoding source_type file) lines
  pub last : cut.end ≡ last_end lines
  pub new : AreObserved decoding (map frame_of lines) over cut.new

-- the lines that a stream's bytes, or its end, complete behind what it left unfinished
abbrev pub new_lines : Framing → ℕ → Bool → List ℕ → List Frame
new_lines framing stream ended bytes = lines_behind framing.limit ended (unfinished framing stream) bytes

-- how many more are too long
abbrev pub new_overlong : Framing → ℕ → Bool → List ℕ → ℕ
new_overlong framing stream ended bytes = overlong_behind framing.limit ended (unfinished framing stream) bytes

-- a framer took bytes of a stream: the lines that they complete, and how many more are too long; the other streams stand where they stood
pub record HasFramed (old : Framing) (stream : ℕ) (bytes : List ℕ) (lines : List Line) (overlong : ℕ) (new : Framing) : Type 0 where
  pub lines_are : lines ≡ map (line_of stream) (new_lines old stream false bytes)
  pub overlong_is : overlong ≡ capped (new_overlong old stream false bytes)
  pub limit : new.limit ≡ old.limit
  pub others : (other : ℕ) → other ≢ stream → unfinished new other ≡ unfinished old other
  pub taken : (taken : List ℕ) → HasTaken old stream taken → HasTaken new stream (taken ++ bytes)
  pub behind : (taken : List ℕ) → HasTaken old stream taken →
      frames (taken ++ bytes) old.limit false ≡ frames taken old.limit false ++ new_lines old stream false bytes
  pub discards : (taken : List ℕ) → HasTaken old stream taken →
      discarded (taken ++ bytes) old.limit false ≡ discarded taken old.limit false + new_overlong old stream false bytes

-- the streams but one stand where they stood, and the source is the same
pub record KeepsOthers (old : SourceCore) (stream : ℕ) (new : SourceCore) : Type 0 where
  pub decoding : new.decoding ≡ old.decoding
  pub source_type : new.source_type ≡ old.source_type
  pub file : new.file ≡ old.file
  pub limit : new.framer.limit ≡ old.framer.limit
  pub others : (other : ℕ) → other ≢ stream → unfinished new.framer other ≡ unfinished old.framer other

-- the framer of a source took bytes of a stream, whose lines aren't cut yet
pub record HasGathered (old : SourceCore) (stream : ℕ) (bytes : List ℕ) (lines : List Line) (overlong : ℕ) (new : SourceCore) : Type 0 where
  pub decoding : new.decoding ≡ old.decoding
  pub source_type : new.source_type ≡ old.source_type
  pub file : new.file ≡ old.file
  pub framed : HasFramed old.framer stream bytes lines overlong new.framer

-- a source took bytes of a stream, whose lines were cut
pub record HasFed (old : SourceCore) (stream : ℕ) (bytes : List ℕ) (cut : Cut) (new : SourceCore) : Type 0 where
  pub gave : IsOf old.decoding old.source_type old.file (map (line_of stream) (new_lines old.framer stream false bytes)) (new_overlong old.framer stream false bytes) cut
  pub rest : KeepsOthers old stream new
  pub last : new.last ≡ Some stream
  pub taken : (taken : List ℕ) → HasTaken old.framer stream taken → HasTaken new.framer stream (taken ++ bytes)
  pub behind : (taken : List ℕ) → HasTaken old.framer stream taken →
      frames (taken ++ bytes) old.framer.limit false ≡ frames taken old.framer.limit false ++ new_lines old.framer stream false bytes
  pub discards : (taken : List ℕ) → HasTaken old.framer stream taken →
      discarded (taken ++ bytes) old.framer.limit false ≡ discarded taken old.framer.limit false + new_overlong old.framer stream false bytes

-- a source was told the end of a stream, whose unfinished line was cut, if there was one
pub record HasFinished (old : SourceCore) (stream : ℕ) (cut : Cut) (new : SourceCore) : Type 0 where
  pub gave : IsOf old.decoding old.source_type old.file (map (line_of stream) (new_lines old.framer stream true [])) (new_overlong old.framer stream true []) cut
  pub rest : KeepsOthers old stream new
  pub last : new.last ≡ old.last
  pub anew : HasTaken new.framer stream []
  pub behind : (taken : List ℕ) → HasTaken old.framer stream taken →
      frames taken old.framer.limit true ≡ frames taken old.framer.limit false ++ new_lines old.framer stream true []
  pub discards : (taken : List ℕ) → HasTaken old.framer stream taken →
      discarded taken old.framer.limit true ≡ discarded taken old.framer.limit false + new_overlong old.framer stream true []

-- a source stands where it stood
pub record IsSame (old new : SourceCore) : Type 0 where
  pub decoding : new.decoding ≡ old.decoding
  pub source_type : new.source_type ≡ old.source_type
  pub file : new.file ≡ old.file
  pub framer : new.framer ≡ old.framer
  pub last : new.last ≡ old.last

-- what a turn of a source brought, and where the source stands then, if memory was found; the end of all is that of the last stream
abbrev pub HasBrought : SourceCore → Turned → SourceCore → Type 0
HasBrought old (Lines stream n room cut) new = IfSome cut (λ lines. HasFed old stream (take n room.value.items) lines new)
HasBrought old (StreamEnded stream cut) new = IfSome cut (λ lines. HasFinished old stream lines new)
HasBrought old (AllEnded stream cut) new = (stream ≡ unwrap_or old.last 0) × IfSome cut (λ lines. HasFinished old stream lines new)
HasBrought old Idle new = IsSame old new
HasBrought old (Failed at_start) new = IsSame old new

-- a turn that brings bytes brings at least one, and no more than there is room for
abbrev pub BringsSome : Turned → Type 0
BringsSome (Lines stream n room cut) = (0 < length (take n room.value.items)) × (length (take n room.value.items) ≤ 65536)
BringsSome other = Unit {0}

-- a turn is of no stream that has ended
abbrev pub IsOfOpen : List ℕ → Turned → Type 0
IsOfOpen ended (Lines stream n room cut) = Contains ended stream → ⊥
IsOfOpen ended (StreamEnded stream cut) = Contains ended stream → ⊥
IsOfOpen ended other = Unit {0}

-- a source at its beginning, for lines of some length, perhaps of a file, which it decodes in some way
pub record IsFresh (limit : ℕ) (decoding : Decoding) (source_type : ByteString) (file : Option ByteString) (core : SourceCore) : Type 0 where
  pub limit_is : core.framer.limit ≡ limit
  pub decoding_is : core.decoding ≡ decoding
  pub type_is : core.source_type ≡ source_type
  pub file_is : core.file ≡ file
  pub none : core.last ≡ None
  pub fresh : (stream : ℕ) → HasTaken core.framer stream []
