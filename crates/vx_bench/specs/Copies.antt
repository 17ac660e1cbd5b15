-- What is copied of a line.
use Rattle.std.specs.Prelude.{◌≡◌, ◌≢◌, ℕ, ◌+◌, Bool, true, false, List, [], ◌∷◌, ◌++◌, if◌then◌else◌}
use Rattle.vx_value.specs.Texts.{ByteString}
use Rattle.vx_value.specs.Datum.{Fields, NamedDatum, named_of}
use Rattle.vx_json.specs.Written.{written}
use Rattle.vx_json.specs.Faults.{IsEvent, IsFault}
use Rattle.vx_frame.specs.declared.line.Line.{Line}
use Rattle.vx_json.specs.declared.json_fault.JsonFault.{JsonFault}
use Rattle.vx_json.specs.declared.json_fault.JsonFault.TheVariants.{WantOfMemory}

-- the bytes are an event, which is added in its one spelling with a line feed
pub record IsEventCopied (bytes old new : ByteString) : Type 0 where
  pub fields : List NamedDatum
  pub event : IsEvent bytes fields
  pub added : new ≡ old ++ (written (Fields (named_of fields)) ++ 10 ∷ [])

-- the bytes are none, for a fault that isn't want of memory, and nothing is added
pub record IsLeftOut (bytes old new : ByteString) : Type 0 where
  pub fault : JsonFault
  pub theirs : fault ≢ WantOfMemory
  pub is_fault : IsFault bytes fault
  pub same : new ≡ old

abbrev pub IsCopied : ByteString → Bool → ByteString → ByteString → Type 0
IsCopied bytes true old new = IsEventCopied bytes old new
IsCopied bytes false old new = IsLeftOut bytes old new

-- whether the bytes are an event
pub record IsSomeEvent (bytes : ByteString) : Type 0 where
  pub fields : List NamedDatum
  pub event : IsEvent bytes fields

-- the bytes have a fault that isn't want of memory
pub record IsRefused (bytes : ByteString) : Type 0 where
  pub fault : JsonFault
  pub theirs : fault ≢ WantOfMemory
  pub is_fault : IsFault bytes fault

abbrev pub IsJudged : ByteString → Bool → Type 0
IsJudged bytes true = IsSomeEvent bytes
IsJudged bytes false = IsRefused bytes

-- the first of some lines is judged, and among the others so many are events
pub record CountsMore (line : Line) (counts : ℕ → Type 0) (n : ℕ) : Type 0 where
  pub is_event : Bool
  pub judged : IsJudged line.bytes is_event
  pub others : ℕ
  pub counted : counts others
  pub all : n ≡ (if is_event then 1 else 0) + others

-- so many of some lines are events
abbrev pub AreCounted : List Line → ℕ → Type 0
AreCounted [] n = n ≡ 0
AreCounted (line ∷ lines) n = CountsMore line (AreCounted lines) n

-- the first of some lines is copied, and then the others
pub record CopiesMore (line : Line) (copies : ByteString → Type 0) (old : ByteString) : Type 0 where
  pub is_event : Bool
  pub between : ByteString
  pub copied : IsCopied line.bytes is_event old between
  pub others : copies between

-- some lines are copied, each that is an event in its one spelling with a line feed
abbrev pub AreCopied : List Line → ByteString → ByteString → Type 0
AreCopied [] old new = new ≡ old
AreCopied (line ∷ lines) old new = CopiesMore line (λ between. AreCopied lines between new) old
