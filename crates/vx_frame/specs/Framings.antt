-- What a framer keeps of its streams.
use Rattle.std.specs.Prelude.{◌≡◌, ℕ, ◌+◌, ◌≤◌, Bool, List, [], take, length, unwrap_or, is_some}
use Rattle.std.specs.Ordering.{nat_cmp}
use Rattle.std.specs.BTreeMap.{is_at}
use Rattle.std.specs.Map.{lookup}
use Rattle.vx_frame.specs.Frames.{Frame, cut, capped}
use Rattle.vx_frame.specs.Pieces.{lines_of, overlong_of, last_of}
use Rattle.vx_frame.specs.declared.unfinished.Unfinished.{Unfinished}
use Rattle.vx_frame.specs.declared.line.Line.{Line}

-- a framer: its limit, its count, and what each stream that isn't at its beginning left unfinished
pub record Framing : Type 0 where
  pub limit : ℕ
  pub overlong : ℕ
  pub streams : List (ℕ × Unfinished)

-- a stream at its beginning
abbrev pub untouched : Unfinished
untouched = record { seen = 0; held = [] }

-- what a stream left unfinished
abbrev pub unfinished : Framing → ℕ → Unfinished
unfinished framing stream = unwrap_or (lookup (is_at (nat_cmp stream)) framing.streams) untouched

-- whether a stream has a place in the table
abbrev pub has_place : Framing → ℕ → Bool
has_place framing stream = is_some (lookup (is_at (nat_cmp stream)) framing.streams)

-- the lines that bytes add to what a stream left unfinished
abbrev pub lines_behind : ℕ → Bool → Unfinished → List ℕ → List Frame
lines_behind limit ended left bytes = lines_of limit ended left.seen left.held (cut bytes).first (cut bytes).more

-- how many of them are too long
abbrev pub overlong_behind : ℕ → Bool → Unfinished → List ℕ → ℕ
overlong_behind limit ended left bytes = overlong_of limit ended left.held (cut bytes).first (cut bytes).more

-- what a stream leaves unfinished once it had more bytes: of a line that is too long, no more than tells so
abbrev pub left_behind : ℕ → Unfinished → List ℕ → Unfinished
left_behind limit left bytes = record {
  seen = capped (left.seen + length bytes);
  held = take (limit + 1) (last_of left.held (cut bytes).first (cut bytes).more);
}

-- a line of a stream
abbrev pub line_of : ℕ → Frame → Line
line_of stream frame = record { stream = stream; bytes = frame.bytes; end = frame.end }

-- the framer stands where a stream has had these bytes since its last end
abbrev pub HasTaken : Framing → ℕ → List ℕ → Type 0
HasTaken framing stream taken = unfinished framing stream ≡ left_behind framing.limit untouched taken

-- no stream has left more unfinished than tells that a line is too long
abbrev pub HeldFits : Framing → Type 0
HeldFits framing = (stream : ℕ) → length (unfinished framing stream).held ≤ framing.limit + 1

-- the framer stands as before
pub record IsSameFraming (old new : Framing) : Type 0 where
  pub limit : new.limit ≡ old.limit
  pub overlong : new.overlong ≡ old.overlong
  pub streams : (stream : ℕ) → unfinished new stream ≡ unfinished old stream
