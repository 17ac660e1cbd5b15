-- What a record gives a transform: the parcels that it took, its ticks and its flush.
use Rattle.std.specs.Prelude.{ℕ, Bool, true, false, ◌&&◌, List, [], ◌∷◌, ◌++◌, map, reverse, if◌then◌else◌, ◌==◌}
use Rattle.std.specs.List.{list_any}
use Rattle.vx_value.specs.Texts.{is_empty}
use Rattle.vx_condition.specs.Steps.{Step, comes, ticks, ends}
use Rattle.vx_record.specs.declared.entry.Entry.{Entry}
use Rattle.vx_record.specs.declared.entry.Entry.TheVariants.{Take, Tick, Answer}
use Rattle.vx_record.specs.Records.{Record}
use Rattle.vx_record.specs.Turns.{lease_now}
use Rattle.vx_record.specs.Parcels.{parcel_event}

-- a step of a transform, and the copies of the parcel that came, if one did
pub record Input : Type 0 where
  pub step : Step
  pub copies : List ℕ

-- the parcel that an entry takes for the instance, at the moment of its Lease, or the tick that it is
abbrev pub given_by : Record → ℕ → Entry → List Input
given_by h i (Take j stage copies) =
    if j == i then record { step = comes (parcel_event h copies) (lease_now h i); copies = copies } ∷ [] else []
given_by h i (Tick j now) = if j == i then record { step = ticks now; copies = [] } ∷ [] else []
given_by h i other = []

-- what it was given since its last Answer, the latest first
abbrev pub unanswered : Record → ℕ → List Input
unanswered [] i = []
unanswered (Answer j outputs discarded kept ∷ h) i = if j == i then [] else unanswered h i
unanswered (e ∷ h) i = given_by h i e ++ unanswered h i

-- whether a step is a tick
abbrev pub is_tick : Step → Bool
is_tick (comes event now) = false
is_tick (ticks now) = true
is_tick ends = false

-- whether a tick is among some inputs
abbrev pub has_tick : List Input → Bool
has_tick given = list_any (λ (input : Input). is_tick input.step) given

-- whether a Tick of the instance waits for its Answer
abbrev pub ticks_wait : Record → ℕ → Bool
ticks_wait h i = has_tick (unanswered h i)

-- the flush
abbrev pub flush : Input
flush = record { step = ends; copies = [] }

-- an Answer to nothing is one to the flush
abbrev pub flush_by : Record → ℕ → Entry → List Input
flush_by h i (Answer j outputs discarded kept) = if (j == i) && is_empty (unanswered h i) then flush ∷ [] else []
flush_by h i other = []

-- all that it was given, the latest first
abbrev pub inputs : Record → ℕ → List Input
inputs [] i = []
inputs (e ∷ h) i = flush_by h i e ++ given_by h i e ++ inputs h i

-- the record as it stood behind the instance's last Answer
abbrev pub at_answer : Record → ℕ → Record
at_answer [] i = []
at_answer (Answer j outputs discarded kept ∷ h) i = if j == i then Answer j outputs discarded kept ∷ h else at_answer h i
at_answer (e ∷ h) i = at_answer h i

-- what it has answered, the latest first
abbrev pub answered : Record → ℕ → List Input
answered h i = inputs (at_answer h i) i

-- or the flush where there is nothing else
abbrev pub or_flush : List Input → List Input
or_flush [] = flush ∷ []
or_flush (x ∷ xs) = x ∷ xs

-- what its next Answer is to, in order
abbrev pub to_answer : Record → ℕ → List Input
to_answer h i = or_flush (reverse (unanswered h i))

-- the steps of some inputs
abbrev pub steps_of : List Input → List Step
steps_of given = map (λ (input : Input). input.step) given

-- all steps of the instance, the latest first
abbrev pub steps : Record → ℕ → List Step
steps h i = steps_of (inputs h i)
