-- What reduce puts out, by all that it was given so far. What it was given is told with the latest first.
use Rattle.std.specs.Prelude.{ℕ, ◌+◌, ◌-◌, ◌==◌, ◌&&◌, nat_le, Bool, false, not, Option, Some, None, List, [], ◌∷◌, ◌++◌, length, map, flat_map, filter, if◌then◌else◌}
use Rattle.std.specs.List.{list_any}
use Rattle.vx_value.specs.Texts.{ByteString, is_empty}
use Rattle.vx_value.specs.declared.event.Event.{Event}
use Rattle.vx_condition.specs.Steps.{Test, Step, comes, ticks, ends}
use Rattle.vx_condition.specs.Picking.{Key, key_at, same_key, held}
use Rattle.vx_condition.specs.Merging.{merged}
use Rattle.vx_condition.specs.declared.strategy.Strategy.{Strategy}

-- how it is set: paths that tell groups apart, the two conditions, the two periods in milliseconds, and strategies
pub record Settings : Type 0 where
  pub group_by : List (List ByteString)
  pub starts_when : Test
  pub ends_when : Test
  pub expire_after_ms : ℕ
  pub flush_period_ms : ℕ
  pub strategies : List Strategy

-- an event that came, the moment at which it did, and how many steps were before it
pub record Arrival : Type 0 where
  pub event : Event
  pub moment : ℕ
  pub place : ℕ

-- the events that came, in order
abbrev pub arrivals : List Step → List Arrival
arrivals [] = []
arrivals (comes e now ∷ before) = arrivals before ++ record { event = e; moment = now; place = length before } ∷ []
arrivals (ticks now ∷ before) = arrivals before
arrivals (ends ∷ before) = arrivals before

-- the key of an event
abbrev pub group_key : Settings → Event → Key
group_key s e = key_at s.group_by e

-- whether the last of some events came so long ago that they are put out
abbrev pub is_old : Settings → ℕ → List Arrival → Bool
is_old s now [] = false
is_old s now (a ∷ []) = nat_le s.expire_after_ms (now - a.moment)
is_old s now (a ∷ b ∷ rest) = is_old s now (b ∷ rest)

-- whether some key has events that are held, by those that each key has
abbrev pub some_held : Settings → List Step → (Key → List Arrival) → Bool
some_held s before open_of = list_any (λ a. not (is_empty (open_of (group_key s a.event)))) (arrivals before)

-- whether a tick is a check: events are held, and the period is over that began at a moment
abbrev pub is_due : Settings → Bool → ℕ → ℕ → Bool
is_due s any from now = any && nat_le (held (from + s.flush_period_ms)) now

-- the events of a key that an event is put behind: none where it starts anew
abbrev pub before_it : Settings → Event → List Arrival → List Arrival
before_it s e earlier = if s.starts_when e then [] else earlier

abbrev mutual
  -- the events of a key that are held: those since the last cut, which was before an event that starts, behind one that ends, at a check at which they were old, or at the flush
  pub held_of : Settings → List Step → Key → List Arrival
  held_of s [] key = []
  held_of s (comes e now ∷ before) key =
      if same_key (group_key s e) key
      then (if s.ends_when e then [] else before_it s e (held_of s before key) ++ record { event = e; moment = now; place = length before } ∷ [])
      else held_of s before key
  held_of s (ticks now ∷ before) key =
      if is_due s (some_held s before (λ k. held_of s before k)) (period_start s before) now && is_old s now (held_of s before key)
      then [] else held_of s before key
  held_of s (ends ∷ before) key = []

  -- the moment of the last check, or of the last event that came while none was held, whichever was later
  pub period_start : Settings → List Step → ℕ
  period_start s [] = 0
  period_start s (comes e now ∷ before) = if some_held s before (λ k. held_of s before k) then period_start s before else now
  period_start s (ticks now ∷ before) = if is_due s (some_held s before (λ k. held_of s before k)) (period_start s before) now then now else period_start s before
  period_start s (ends ∷ before) = period_start s before

-- whether events are held
abbrev pub holds_some : Settings → List Step → Bool
holds_some s before = some_held s before (held_of s before)

-- the moment of the next check, while events are held
abbrev pub due : Settings → List Step → Option ℕ
due s before = if holds_some s before then Some (held (period_start s before + s.flush_period_ms)) else None

-- the events that are held with this one as the first
abbrev pub led_by : Arrival → List Arrival → List (List Arrival)
led_by a [] = []
led_by a (first ∷ rest) = if first.place == a.place then (first ∷ rest) ∷ [] else []

-- the events that are held, key by key, in the order of their first ones
abbrev pub groups : Settings → List Step → List (List Arrival)
groups s before = flat_map (λ a. led_by a (held_of s before (group_key s a.event))) (arrivals before)

-- a group, unless it is empty
abbrev pub unless_empty : List Arrival → List (List Arrival)
unless_empty [] = []
unless_empty (a ∷ rest) = (a ∷ rest) ∷ []

-- the groups that a step puts out, in order, after the steps before it
abbrev pub put_out : Settings → List Step → Step → List (List Arrival)
put_out s before (comes e now) =
    let earlier = held_of s before (group_key s e) in
    (if s.starts_when e then unless_empty earlier else [])
    ++ (if s.ends_when e then (before_it s e earlier ++ record { event = e; moment = now; place = length before } ∷ []) ∷ [] else [])
put_out s before (ticks now) = if is_due s (holds_some s before) (period_start s before) now then filter (is_old s now) (groups s before) else []
put_out s before ends = groups s before

-- the event that a group is put out as
abbrev pub group_event : Settings → List Arrival → Event
group_event s group = merged s.group_by s.strategies (map (λ a. a.event) group)

-- the events that a step puts out
abbrev pub answers : Settings → List Step → Step → List Event
answers s before step = map (group_event s) (put_out s before step)

-- all events that are put out over some steps, which are told in their order
abbrev pub answers_after : Settings → List Step → List Step → List Event
answers_after s before [] = []
answers_after s before (step ∷ steps) = answers s before step ++ answers_after s (step ∷ before) steps
