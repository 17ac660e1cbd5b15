-- What one turn of a source brought, as the record and the port have it.
use Rattle.std.specs.Prelude.{◌≡◌, ℕ, Bool, ◌≤◌, ◌<◌, ◌==◌, true, false, not, ◌&&◌, if◌then◌else◌, List, [], ◌∷◌, ◌++◌, take, length, Option, Some, None, IfSome}
use Rattle.vx_value.specs.Texts.{ByteString}
use Rattle.vx_ends.specs.Observation.{Observation, Rose, Grows, Happened, CountsBy, nothing}
use Rattle.vx_record.specs.declared.taken.Taken.{Taken}
use Rattle.vx_record.specs.declared.taken.Taken.TheVariants as taken
use Rattle.vx_record.specs.Reads.{bytes_of}
use Rattle.vx_sourcecore.specs.declared.source.Cut.{Cut}
use Rattle.vx_sourcecore.specs.declared.source.Turned.{Turned}
use Rattle.vx_sourcecore.specs.declared.source.Turned.TheVariants.{Lines, StreamEnded, AllEnded, Idle, Failed}

-- a read, as an entry has it
pub record Reading : Type 0 where
  pub stream : ℕ
  pub took : Taken

-- the read that a turn made, if it made one
abbrev pub reading_of : Turned → Option Reading
reading_of (Lines stream n room cut) = Some (record { stream = stream; took = taken.Bytes (take n room.value.items) })
reading_of (StreamEnded stream cut) = Some (record { stream = stream; took = taken.StreamEnded })
reading_of (AllEnded stream cut) = Some (record { stream = stream; took = taken.AllEnded })
reading_of Idle = None
reading_of (Failed at_start) = None

-- the lines that it completed, if it made a read, and memory was found for them
abbrev pub cut_of : Turned → Option Cut
cut_of (Lines stream n room cut) = cut
cut_of (StreamEnded stream cut) = cut
cut_of (AllEnded stream cut) = cut
cut_of Idle = None
cut_of (Failed at_start) = None

-- the bytes of a turn are in its room
abbrev pub IsInRoom : Turned → Type 0
IsInRoom (Lines stream n room cut) = n ≤ length room.value.items
IsInRoom other = Unit {0}

-- the bytes of a stream that a read took
abbrev pub read_bytes : Option Reading → ℕ → ByteString
read_bytes None stream = []
read_bytes (Some reading) stream = if reading.stream == stream then bytes_of reading.took else []

-- the stream whose end a read told, if it is one
abbrev pub end_observed : ℕ → Taken → List ℕ
end_observed stream (taken.Bytes bytes) = []
end_observed stream taken.StreamEnded = stream ∷ []
end_observed stream taken.AllEnded = []

-- the streams whose end it told
abbrev pub ends_observed : Option Reading → List ℕ
ends_observed None = []
ends_observed (Some reading) = end_observed reading.stream reading.took

-- nothing is left of any stream, where that is told
abbrev pub NothingLeft : Observation → Type 0
NothingLeft observed = (stream : ℕ) → IfSome (observed.left stream) (λ rest. rest ≡ [])

-- a turn tells bytes only where it took some; a failure only where the count of faults rose, and one at the start only where the
-- port wasn't started before and isn't now; and that there is nothing only where the count of idles rose. Behind a take that didn't
-- fail the port is started
abbrev pub ShowsTurn : Observation → Observation → Turned → Type 0
ShowsTurn old new (Lines stream n room cut) = (0 < length (take n room.value.items)) × (new.started ≡ true)
ShowsTurn old new (StreamEnded stream cut) = new.started ≡ true
ShowsTurn old new (AllEnded stream cut) = new.started ≡ true
ShowsTurn old new Idle = Rose old.idles new.idles × (new.started ≡ true)
ShowsTurn old new (Failed at_start) =
    Rose old.faults new.faults × (new.started ≡ not at_start) × (at_start ≡ true → old.started ≡ false)

-- it tells the end of all only where nothing is left
abbrev pub LeavesNothing : Observation → Turned → Type 0
LeavesNothing new (AllEnded stream cut) = NothingLeft new
LeavesNothing new other = Unit {0}

-- what a turn counts at the port, by whether that was started before: a failure, that there is nothing, and a start
abbrev pub turn_counts : Bool → Turned → Happened
turn_counts was (Lines stream n room cut) = record nothing { started = not was }
turn_counts was (StreamEnded stream cut) = record nothing { started = not was }
turn_counts was (AllEnded stream cut) = record nothing { started = not was }
turn_counts was Idle = record nothing { idle = true; started = not was }
turn_counts was (Failed at_start) = record nothing { failed = true; started = not at_start && not was }

-- nothing is counted but perhaps a start, of a port that wasn't started
pub record StartsAtMost (old new : Observation) : Type 0 where
  pub started : Bool
  pub first : started ≡ true → old.started ≡ false
  pub counts : CountsBy (record nothing { started = started }) old new

-- a turn gives and confirms nothing, brings nothing back, and none of these counts falls
pub record OnlyTakes (old new : Observation) : Type 0 where
  pub given : new.given ≡ old.given
  pub confirmed : new.confirmed ≡ old.confirmed
  pub spec : new.spec ≡ old.spec
  pub left : NothingLeft old → NothingLeft new
  pub faults : old.faults ≤ new.faults
  pub refusals : old.refusals ≤ new.refusals
  pub idles : old.idles ≤ new.idles

-- what a turn did to the port, by what that tells before and after: it took what the turn says, and nothing else
pub record DidTake (old : Observation) (turned : Turned) (new : Observation) : Type 0 where
  pub taken : (stream : ℕ) → Grows (old.taken stream) (new.taken stream) (read_bytes (reading_of turned) stream)
  pub ended : new.ended ≡ old.ended ++ ends_observed (reading_of turned)
  pub rest : OnlyTakes old new
  pub shown : ShowsTurn old new turned
  pub over : LeavesNothing new turned

-- nothing was taken, given or confirmed, and none of these counts fell
pub record IsUnmoved (old new : Observation) : Type 0 where
  pub taken : new.taken ≡ old.taken
  pub ended : new.ended ≡ old.ended
  pub rest : OnlyTakes old new
