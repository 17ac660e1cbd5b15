-- What a reduce stands for: how it is set, and what it was given so far.
use Rattle.std.specs.Prelude.{◌≡◌, ℕ, List, [], ◌∷◌, Option, map}
use Rattle.vx_value.specs.Texts.{ByteString}
use Rattle.vx_value.specs.declared.event.Event.{Event}
use Rattle.vx_condition.specs.Steps.{Test}
use Rattle.vx_condition.specs.Reducing.{Settings, groups, period_start, due}
use Rattle.vx_transform.specs.Shelves.{Shelved}
use Rattle.vx_reduce.specs.declared.reduce.Reduce.{Reduce}
use Rattle.vx_reduce.specs.declared.reduce_settings.ReduceSettings.{ReduceSettings}
use Rattle.vx_reduce.specs.Groups.{put_all}
use Rattle.vx_reduce.specs.Reducers.{SaysOf}
use Rattle.vx_reduce.specs.Inputs.{Input, steps_of, group_with, outputs_at}

-- a test holds of each event of which a condition does; where there is none, it never holds
abbrev pub IsTestOf : Option ByteString → Test → Type 0
IsTestOf condition test = (e : Event) → SaysOf condition e (test e)

-- what settings mean
pub record AreMeant (s : Settings) (settings : ReduceSettings) : Type 0 where
  pub group_by : settings.group_by ≡ s.group_by
  pub starts : IsTestOf settings.starts_when s.starts_when
  pub ends : IsTestOf settings.ends_when s.ends_when
  pub expire : settings.expire_after_ms ≡ s.expire_after_ms
  pub period : settings.flush_period_ms ≡ s.flush_period_ms
  pub strategies : settings.strategies ≡ s.strategies

-- the settings with which a reduce was made
abbrev pub settings_of : Reduce → ReduceSettings
settings_of r = record {
  group_by = r.rules.group_by;
  starts_when = r.starts_when;
  ends_when = r.ends_when;
  expire_after_ms = r.expire_after_ms;
  flush_period_ms = r.flush_period_ms;
  strategies = r.rules.strategies;
}

-- a reduce stands for what it was given, the latest first: it holds the groups of the events that are held, in the order of
-- their first ones, and the period of checks began when it did
pub record IsAt (s : Settings) (given : List Input) (r : Reduce) : Type 0 where
  pub meant : AreMeant s (settings_of r)
  pub held : r.groups ≡ map (group_with s given) (groups s (steps_of given))
  pub since : r.since ≡ period_start s (steps_of given)

-- whatever a reduce stood for, it stands for that and one input more
abbrev pub GoesOn : Reduce → Reduce → Input → Type 0
GoesOn old new x = (s : Settings) (before : List Input) → IsAt s before old → IsAt s (x ∷ before) new

-- and what that input has it put out was put on a shelf, behind what stood there
abbrev pub PutsOut : Reduce → Input → Shelved → Shelved → Type 0
PutsOut old x shelf after = (s : Settings) (before : List Input) → IsAt s before old → after ≡ put_all shelf (outputs_at s before x)

-- a reduce's conditions mean something
abbrev pub IsMeant : Reduce → Type 0
IsMeant r = (s : Settings) × AreMeant s (settings_of r)

-- a moment is that of the next check, whatever a reduce stands for
abbrev pub IsDueAt : Reduce → Option ℕ → Type 0
IsDueAt r moment = (s : Settings) (given : List Input) → IsAt s given r → moment ≡ due s (steps_of given)
