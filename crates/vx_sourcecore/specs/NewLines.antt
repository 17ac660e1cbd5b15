-- The lines that a source's framer gives at a Read are those that the record counts.
use Rattle.std.specs.Prelude.{ℕ, ◌≡◌, ◌+◌, ◌++◌, Bool, false, Option, Some, None, is_some, List, length}
use Rattle.vx_value.specs.Texts.{ByteString, is_empty}
use Rattle.vx_json.specs.LineEvents.{line_fields}
use Rattle.vx_sourcecore.specs.declared.new_lines.NewLines.{NewLines}
use Rattle.vx_frame.specs.Frames.{Frame, frames, discarded}
use Rattle.vx_codec.specs.declared.decoding.Decoding.{Decoding}
use Rattle.vx_plan.specs.declared.component.Component.{Component}
use Rattle.vx_plan.specs.Options.{decoding}
use Rattle.vx_record.specs.declared.taken.Taken.{Taken}
use Rattle.vx_record.specs.Records.{Record, capped}
use Rattle.vx_record.specs.Installs.{component_or}
use Rattle.vx_record.specs.Reads.{stream_of, open_bytes, limit_of, new_lines, new_overlong, new_undecodable, undecodable_among}
use Rattle.vx_record.specs.LineBytes.{lines_after, overlong_after}

-- the instance's codec, if it reads lines
abbrev pub codec_of : Record → ℕ → Option Decoding
codec_of = component_or None (λ (c : Component). decoding c.settings)

-- how many of some lines are undecodable by a codec, if there is one
abbrev pub undecodable_by : Option Decoding → List Frame → ℕ
undecodable_by None lines = 0
undecodable_by (Some d) lines = undecodable_among d lines

-- a framer of the instance's limit gave these lines, and so many that were too long, behind the open bytes of the stream
pub record AreFramed (h : Record) (i stream : ℕ) (took : Taken) (lines : List Frame) (over : ℕ) : Type 0 where
  pub frames_are :
      lines_after (limit_of h i) (open_bytes h i (stream_of h i stream took)) took
      ≡ frames (open_bytes h i (stream_of h i stream took)) (limit_of h i) false ++ lines
  pub discards :
      overlong_after (limit_of h i) (open_bytes h i (stream_of h i stream took)) took
      ≡ discarded (open_bytes h i (stream_of h i stream took)) (limit_of h i) false + over

-- then the record counts these lines, and no others
pub record AreCounted (h : Record) (i stream : ℕ) (took : Taken) (lines : List Frame) (over : ℕ) : Type 0 where
  pub within : length (new_lines h i stream took) ≡ length lines
  pub overlong : new_overlong h i stream took ≡ over
  pub undecodable : new_undecodable h i stream took ≡ undecodable_by (codec_of h i) lines

-- the lines that were told one by one, and how many were too long
pub record AreObserved (d : Decoding) (given : List Frame) (over : ℕ) (new : NewLines) : Type 0 where
  pub within : new.lines ≡ capped (length given)
  pub too_long : new.overlong ≡ capped over
  pub undecoded : new.undecodable ≡ capped (undecodable_among d given)

-- whether a line has bytes, and whether it gives an event, as its source's codec finds
pub record IsObservedOf (d : Decoding) (frame : Frame) (empty gives : Bool) : Type 0 where
  pub empty_is : empty ≡ is_empty frame.bytes
  pub gives_is : (type : ByteString) × ((file : Option ByteString) × (gives ≡ is_some (line_fields d type file frame.bytes)))

-- the lines that a Read completes
pub record AreNew (h : Record) (i stream : ℕ) (took : Taken) (new : NewLines) : Type 0 where
  pub lines : new.lines ≡ capped (length (new_lines h i stream took))
  pub overlong : new.overlong ≡ capped (new_overlong h i stream took)
  pub undecodable : new.undecodable ≡ capped (new_undecodable h i stream took)

-- the lines that a framer gives are those that the record counts
abbrev pub FramedCounted : Type 0
FramedCounted =
    (h : Record) (i stream : ℕ) (took : Taken) (lines : List Frame) (over : ℕ) → AreFramed h i stream took lines over →
    AreCounted h i stream took lines over

-- what was told of a framer's lines is what a Read adds
abbrev pub ObservedNew : Type 0
ObservedNew =
    (h : Record) (i stream : ℕ) (took : Taken) (lines : List Frame) (over : ℕ) (d : Decoding) (new : NewLines) →
    AreFramed h i stream took lines over → codec_of h i ≡ Some d → AreObserved d lines over new → AreNew h i stream took new
