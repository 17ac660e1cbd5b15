-- A script of steps: what a port in memory told of it, and what is left to tell.
use Rattle.std.specs.Prelude.{◌≡◌, ◌==◌, ◌-◌, ◌^◌, ℕ, List, [], ◌∷◌, ◌++◌, length, take, drop, min, Bool, true, false, if◌then◌else◌, Result, Ok, Err}
use Rattle.vx_ends.specs.declared.step.Step.{Step}
use Rattle.vx_ends.specs.declared.step.Step.TheVariants.{Bytes, StreamEnded, AllEnded, Idle, Fail}
use Rattle.vx_ends.specs.declared.port.Took.{Took}
use Rattle.vx_ends.specs.declared.port.Took.TheVariants as took
use Rattle.vx_ends.specs.declared.trouble.Trouble.{Trouble}
use Rattle.vx_ends.specs.declared.trouble.Trouble.TheVariants as trouble
use Rattle.vx_ends.specs.Observation.{piece_of, ended_by}

-- How far a script was told.
pub record Progress : Type 0 where
  -- the steps that were told or passed over, the last one perhaps in part
  pub past : List Step
  -- the steps to come, the first one perhaps in part
  pub rest : List Step

-- the part of a first step that was told, where so many of its bytes were
abbrev pub part_observed : ℕ → List Step → List Step
part_observed offset (Bytes from bytes ∷ steps) = if offset == 0 then [] else Bytes from (take offset bytes) ∷ []
part_observed offset steps = []

-- the steps without the bytes of the first one that were told
abbrev pub part_left : ℕ → List Step → List Step
part_left offset (Bytes from bytes ∷ steps) = Bytes from (drop offset bytes) ∷ steps
part_left offset steps = steps

-- how far a script was told, by the number of its steps and the bytes of the next one that were
abbrev pub progress_of : List Step → ℕ → ℕ → Progress
progress_of steps at offset = record {
  past = take at steps ++ part_observed offset (drop at steps);
  rest = part_left offset (drop at steps);
}

-- whether a stream has ended with these steps, by itself or with all
abbrev pub has_ended : ℕ → List Step → Bool
has_ended stream [] = false
has_ended stream (Bytes from bytes ∷ steps) = has_ended stream steps
has_ended stream (StreamEnded from ∷ steps) = if from == stream then true else has_ended stream steps
has_ended stream (AllEnded ∷ steps) = true
has_ended stream (Idle ∷ steps) = has_ended stream steps
has_ended stream (Fail ∷ steps) = has_ended stream steps

-- the bytes of a stream in these steps, up to its end
abbrev pub bytes_of : ℕ → List Step → List ℕ
bytes_of stream [] = []
bytes_of stream (Bytes from bytes ∷ steps) =
    if from == stream then bytes ++ bytes_of stream steps else bytes_of stream steps
bytes_of stream (StreamEnded from ∷ steps) = if from == stream then [] else bytes_of stream steps
bytes_of stream (AllEnded ∷ steps) = []
bytes_of stream (Idle ∷ steps) = bytes_of stream steps
bytes_of stream (Fail ∷ steps) = bytes_of stream steps

-- the bytes of a stream that are left: none of a stream that has ended
abbrev pub left_of : ℕ → Progress → List ℕ
left_of stream progress =
    if has_ended stream progress.past then [] else bytes_of stream progress.rest

-- a list without a number
abbrev pub without : ℕ → List ℕ → List ℕ
without x [] = []
without x (y ∷ ys) = if y == x then without x ys else y ∷ without x ys

-- the streams that ended with these steps, each once, in order
abbrev pub ends_of : List Step → List ℕ
ends_of [] = []
ends_of (Bytes from bytes ∷ steps) = ends_of steps
ends_of (StreamEnded from ∷ steps) = from ∷ without from (ends_of steps)
ends_of (AllEnded ∷ steps) = []
ends_of (Idle ∷ steps) = ends_of steps
ends_of (Fail ∷ steps) = ends_of steps

-- the same was told of each stream
pub record SameObserved (old new : List Step) : Type 0 where
  pub closed : (stream : ℕ) → has_ended stream new ≡ has_ended stream old
  pub bytes : (stream : ℕ) → bytes_of stream new ≡ bytes_of stream old
  pub ends : ends_of new ≡ ends_of old

-- whether a list has no item
abbrev pub is_nothing : List ℕ → Bool
is_nothing [] = true
is_nothing (x ∷ xs) = false

-- whether a step is passed over behind these: it has no bytes, or is of a stream that has ended
abbrev pub is_passed : List Step → Step → Bool
is_passed past (Bytes from bytes) = if is_nothing bytes then true else has_ended from past
is_passed past (StreamEnded from) = has_ended from past
is_passed past AllEnded = false
is_passed past Idle = false
is_passed past Fail = false

-- whether the first of these steps is passed over
abbrev pub passes_first : List Step → List Step → Bool
passes_first past [] = false
passes_first past (step ∷ steps) = is_passed past step

-- the steps to come from the first one that isn't passed over
abbrev pub upcoming : List Step → List Step → List Step
upcoming past [] = []
upcoming past (step ∷ steps) = if is_passed past step then upcoming past steps else step ∷ steps

-- how many bytes go into a room, and into a count of 32 bits
abbrev pub fitting : ℕ → List ℕ → ℕ
fitting room bytes = min (min (length bytes) room) (2 ^ 32 - 1)

-- the answer of a take by the step that comes next
abbrev pub answer_of : ℕ → List Step → Result Took Trouble
answer_of room [] = Ok took.AllEnded
answer_of room (Bytes from bytes ∷ steps) = Ok (took.Bytes from (fitting room bytes))
answer_of room (StreamEnded from ∷ steps) = Ok (took.StreamEnded from)
answer_of room (AllEnded ∷ steps) = Ok took.AllEnded
answer_of room (Idle ∷ steps) = Ok took.Idle
answer_of room (Fail ∷ steps) = Err trouble.Failed

-- the bytes that a take brings by the step that comes next
abbrev pub brought_by : ℕ → List Step → List ℕ
brought_by room (Bytes from bytes ∷ steps) = take (fitting room bytes) bytes
brought_by room steps = []

-- the steps that are left after it
abbrev pub rest_after : ℕ → List Step → List Step
rest_after room [] = []
rest_after room (Bytes from bytes ∷ steps) = Bytes from (drop (fitting room bytes) bytes) ∷ steps
rest_after room (StreamEnded from ∷ steps) = steps
rest_after room (AllEnded ∷ steps) = []
rest_after room (Idle ∷ steps) = steps
rest_after room (Fail ∷ steps) = steps

-- what a take changes of what was told: its piece is taken and no more left, and its stream may have ended
pub record TakeChanges (old new : Progress) (result : Result Took Trouble) (buffer : List ℕ) : Type 0 where
  pub taken : (stream : ℕ) → bytes_of stream new.past ≡ bytes_of stream old.past ++ piece_of stream result buffer
  pub left : (stream : ℕ) → left_of stream old ≡ piece_of stream result buffer ++ left_of stream new
  pub ended : ends_of new.past ≡ ends_of old.past ++ ended_by result
