-- What is observed of a port, and how a call changes it.
use Rattle.std.specs.Prelude.{◌<◌, ◌≡◌, ◌⊎◌, ◌^◌, ◌-◌, ◌+◌, min, ℕ, ◌≤◌, ◌==◌, if◌then◌else◌, List, [], ◌∷◌, ◌++◌, take, Bool, true, false, Result, Ok, Err, IsErrOf, Option, Some, None, IfSome, IsSomeAnd, Contains}
use Rattle.vx_ends.specs.declared.trouble.Trouble.{Trouble}
use Rattle.vx_ends.specs.declared.trouble.Trouble.TheVariants.{Failed, Refused, WantOfMemory}
use Rattle.vx_ends.specs.declared.port.Took.{Took}
use Rattle.vx_ends.specs.declared.port.Took.TheVariants.{Bytes, StreamEnded, AllEnded, Idle}
use Rattle.vx_ends.specs.declared.position.Position.{Position}
use Rattle.vx_ends.specs.declared.port_spec.PortSpec.{PortSpec}

-- what a port was made for: there is no port; there is one, and it doesn't tell; or that
pub data Made : Type 0 where
  absent : Made
  unobserved : Made
  made : PortSpec → Made

-- a port is there, and if it tells what it was made for, that is this
abbrev pub IsFor : PortSpec → Made → Type 0
IsFor spec absent = ⊥
IsFor spec unobserved = Unit {0}
IsFor spec (made other) = other ≡ spec

-- so it is where one is wanted; elsewhere there is none
abbrev pub Fits : Option PortSpec → Made → Type 0
Fits None for = for ≡ absent
Fits (Some spec) for = IsFor spec for

-- What is observed of a port. `None` says nothing.
pub record Observation : Type 0 where
  -- the bytes that were taken of a stream
  pub taken : ℕ → Option (List ℕ)
  -- the bytes of a stream that are left to take
  pub left : ℕ → Option (List ℕ)
  -- the bytes that were given
  pub given : Option (List ℕ)
  -- the positions that were confirmed, in order
  pub confirmed : Option (List Position)
  -- what the port was made for
  pub spec : Made
  -- the streams that have ended, in order
  pub ended : List ℕ
  -- whether it told the end of all
  pub over : Bool
  -- whether it is started and not closed since
  pub started : Bool
  -- how often a call failed, had nothing to take, and was refused
  pub faults : ℕ
  pub idles : ℕ
  pub refusals : ℕ
  -- how often it was started, finished an attempt, and took a confirm
  pub starts : ℕ
  pub finishes : ℕ
  pub confirms : ℕ
  -- whether each of these counts rises by one where that happens, and at nothing else
  pub exact : Bool

-- a port that was just made: closed, with counts of 0, and nothing went through it
pub record IsFresh (spec : PortSpec) (observed : Observation) : Type 0 where
  pub taken : (stream : ℕ) → IfSome (observed.taken stream) (λ bytes. bytes ≡ [])
  pub given : IfSome observed.given (λ bytes. bytes ≡ [])
  pub confirmed : IfSome observed.confirmed (λ positions. positions ≡ [])
  pub made_for : IsFor spec observed.spec
  pub ended : observed.ended ≡ []
  pub over : observed.over ≡ false
  pub closed : observed.started ≡ false
  pub faults : observed.faults ≡ 0
  pub idles : observed.idles ≡ 0
  pub refusals : observed.refusals ≡ 0
  pub starts : observed.starts ≡ 0
  pub finishes : observed.finishes ≡ 0
  pub confirms : observed.confirms ≡ 0

-- a list has this more at its end, where it is observed; it is observed afterwards exactly where it was before
abbrev pub Grows : {X : Type 0} → Option (List X) → Option (List X) → List X → Type 0
Grows None new more = new ≡ None
Grows (Some old) new more = new ≡ Some (old ++ more)

-- a list has lost these at its front, where it is observed; it is observed afterwards exactly where it was before
abbrev pub Shrinks : {X : Type 0} → Option (List X) → Option (List X) → List X → Type 0
Shrinks None new gone = new ≡ None
Shrinks (Some old) new gone = IsSomeAnd new (λ rest. old ≡ gone ++ rest)

-- no byte went in or out, no stream has ended, and nothing was confirmed
pub record SameBytes (old new : Observation) : Type 0 where
  pub taken : new.taken ≡ old.taken
  pub left : new.left ≡ old.left
  pub given : new.given ≡ old.given
  pub confirmed : new.confirmed ≡ old.confirmed
  pub spec : new.spec ≡ old.spec
  pub ended : new.ended ≡ old.ended
  pub over : new.over ≡ old.over

-- what a take leaves as it was
pub record TakeLeaves (old new : Observation) : Type 0 where
  pub given : new.given ≡ old.given
  pub confirmed : new.confirmed ≡ old.confirmed
  pub spec : new.spec ≡ old.spec
  pub started : new.started ≡ old.started

-- a count that rose; at the end of its type it stands still
abbrev pub Rose : ℕ → ℕ → Type 0
Rose before now = (before < now) ⊎ (before ≡ 2 ^ 64 - 1)

-- the count of faults never falls, and rises where the answer is `Failed`
pub record HasCause {T : Type 0} (before now : ℕ) (result : Result T Trouble) : Type 0 where
  pub later : before ≤ now
  pub failed : IsErrOf result Failed → Rose before now

-- the count of refusals never falls, and rises where the answer is `Refused`
pub record HasRefusal {T : Type 0} (before now : ℕ) (result : Result T Trouble) : Type 0 where
  pub later : before ≤ now
  pub refused : IsErrOf result Refused → Rose before now

-- the count of idles never falls, and rises where the answer is `Idle`
pub record HasIdle (before now : ℕ) (result : Result Took Trouble) : Type 0 where
  pub later : before ≤ now
  pub idle : result ≡ Ok Idle → Rose before now

-- whether an answer is `Failed`
abbrev pub is_failed : {T : Type 0} → Result T Trouble → Bool
is_failed (Ok x) = false
is_failed (Err Failed) = true
is_failed (Err Refused) = false
is_failed (Err WantOfMemory) = false

-- whether an answer is `Refused`
abbrev pub is_refused : {T : Type 0} → Result T Trouble → Bool
is_refused (Ok x) = false
is_refused (Err Failed) = false
is_refused (Err Refused) = true
is_refused (Err WantOfMemory) = false

-- whether an answer is `Idle`
abbrev pub is_idle : Result Took Trouble → Bool
is_idle (Ok (Bytes from n)) = false
is_idle (Ok (StreamEnded from)) = false
is_idle (Ok AllEnded) = false
is_idle (Ok Idle) = true
is_idle (Err e) = false

-- a count, and one more where something happened: at the end of its type it stands still
abbrev pub raised : ℕ → Bool → ℕ
raised count happened = if happened then min (count + 1) (2 ^ 64 - 1) else count

-- what a call may count
pub record Happened : Type 0 where
  pub failed : Bool
  pub refused : Bool
  pub idle : Bool
  pub started : Bool
  pub finished : Bool
  pub confirmed : Bool

-- nothing to count
abbrev pub nothing : Happened
nothing = record { failed = false; refused = false; idle = false; started = false; finished = false; confirmed = false }

-- a count never falls, rises where that happened, and where counts are exact it rises by one then, and else stays
pub record Counts (exact : Bool) (before now : ℕ) (happened : Bool) : Type 0 where
  pub later : before ≤ now
  pub rose : happened ≡ true → Rose before now
  pub exactly : exact ≡ true → now ≡ raised before happened

-- so does each count of a port, by what happened in a call
pub record CountsBy (what : Happened) (old new : Observation) : Type 0 where
  pub faults : Counts old.exact old.faults new.faults what.failed
  pub refusals : Counts old.exact old.refusals new.refusals what.refused
  pub idles : Counts old.exact old.idles new.idles what.idle
  pub starts : Counts old.exact old.starts new.starts what.started
  pub finishes : Counts old.exact old.finishes new.finishes what.finished
  pub confirms : Counts old.exact old.confirms new.confirms what.confirmed
  pub exact : new.exact ≡ old.exact

-- the bytes of a stream that a take brought into the buffer
abbrev pub piece_of : ℕ → Result Took Trouble → List ℕ → List ℕ
piece_of stream (Ok (Bytes from n)) buffer = if from == stream then take n buffer else []
piece_of stream (Ok (StreamEnded from)) buffer = []
piece_of stream (Ok AllEnded) buffer = []
piece_of stream (Ok Idle) buffer = []
piece_of stream (Err e) buffer = []

-- the bytes that a give took over
abbrev pub part_of : Result ℕ Trouble → List ℕ → List ℕ
part_of (Ok n) bytes = take n bytes
part_of (Err e) bytes = []

-- the streams whose end a take told
abbrev pub ended_by : Result Took Trouble → List ℕ
ended_by (Ok (Bytes from n)) = []
ended_by (Ok (StreamEnded from)) = from ∷ []
ended_by (Ok AllEnded) = []
ended_by (Ok Idle) = []
ended_by (Err e) = []

-- whether the end of all was told after a take, from whether it was told before it
abbrev pub over_after : Bool → Result Took Trouble → Bool
over_after was (Ok (Bytes from n)) = was
over_after was (Ok (StreamEnded from)) = was
over_after was (Ok AllEnded) = true
over_after was (Ok Idle) = was
over_after was (Err e) = was

-- a take brings at least one byte, and no more than there is room for
abbrev pub IsWithin : ℕ → Took → Type 0
IsWithin room (Bytes from n) = (0 < n) × (n ≤ room)
IsWithin room (StreamEnded from) = Unit {0}
IsWithin room AllEnded = Unit {0}
IsWithin room Idle = Unit {0}

-- a take answers nothing of a stream that has ended
abbrev pub IsOfOpen : List ℕ → Took → Type 0
IsOfOpen ended (Bytes from n) = Contains ended from → ⊥
IsOfOpen ended (StreamEnded from) = Contains ended from → ⊥
IsOfOpen ended AllEnded = Unit {0}
IsOfOpen ended Idle = Unit {0}

-- at the end of all nothing is left of any stream, where that is told
abbrev pub EndsAll : Observation → Took → Type 0
EndsAll observed (Bytes from n) = Unit {0}
EndsAll observed (StreamEnded from) = Unit {0}
EndsAll observed AllEnded = (stream : ℕ) → IfSome (observed.left stream) (λ rest. rest ≡ [])
EndsAll observed Idle = Unit {0}

-- at the end of a stream nothing is left of it, where that is told
abbrev pub EndsStream : Observation → Took → Type 0
EndsStream observed (Bytes from n) = Unit {0}
EndsStream observed (StreamEnded from) = IfSome (observed.left from) (λ rest. rest ≡ [])
EndsStream observed AllEnded = Unit {0}
EndsStream observed Idle = Unit {0}
