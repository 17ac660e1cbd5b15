-- What a transform is given, in order.
use Rattle.std.specs.Prelude.{ℕ, Bool, List, [], ◌∷◌, ◌++◌, if◌then◌else◌}
use Rattle.vx_value.specs.declared.event.Event.{Event}

-- a statement on events, as a condition makes
abbrev pub Test : Type 0
Test = Event → Bool

-- an event that comes at a moment, a tick at a moment, or the flush at the end
pub data Step : Type 0 where
  comes : Event → ℕ → Step
  ticks : ℕ → Step
  ends : Step

-- the events that come
abbrev pub events_of : List Step → List Event
events_of [] = []
events_of (comes e now ∷ steps) = e ∷ events_of steps
events_of (ticks now ∷ steps) = events_of steps
events_of (ends ∷ steps) = events_of steps

-- the events that pass, where each is judged by those that came before it
abbrev pub passed_after : List Event → (List Event → Test) → List Event → List Event
passed_after earlier passes [] = []
passed_after earlier passes (e ∷ es) =
    (if passes earlier e then e ∷ [] else []) ++ passed_after (earlier ++ e ∷ []) passes es

-- the events of some steps that pass
abbrev pub passed : (List Event → Test) → List Step → List Event
passed passes steps = passed_after [] passes (events_of steps)
