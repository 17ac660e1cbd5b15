-- Until when nobody has work.
use Rattle.std.specs.Prelude.{◌≡◌, ◌<◌, ◌≤◌, ℕ, true, Option, Some, None, IsSomeAnd, length, min}
use Rattle.vx_record.specs.Ready.{IsTickReady, waits_until}
use Rattle.vx_keeping.specs.Keeping.{RunsHost}
use Rattle.vx_tasks.specs.Joining.{joins_at}
use Rattle.vx_moves.specs.declared.engine.EngineState.{EngineState}
use Rattle.vx_moves.specs.Keepers.{CanAnswer, IsKeeper}
use Rattle.vx_ready.specs.Asking.{IsSettled, IsOpen}

-- an unleased instance that owes nothing, and whose port isn't closed, waits for a moment
pub record WaitsAt {P : Type 0} (engine : EngineState P) (i moment : ℕ) : Type 0 where
  pub settled : IsSettled engine i
  pub open_at : IsOpen engine i
  pub until : waits_until engine.log i ≡ Some moment

-- one does
pub record SomeoneWaits {P : Type 0} (engine : EngineState P) (moment : ℕ) : Type 0 where
  pub who : ℕ
  pub within : who < length engine.states
  pub waits : WaitsAt engine who moment

-- the soonest of the moments for which instances below a number wait; none where none waits
abbrev pub IsSoonest : {P : Type 0} → EngineState P → ℕ → Option ℕ → Type 0
IsSoonest engine n None = (i moment : ℕ) → i < n → WaitsAt engine i moment → ⊥
IsSoonest engine n (Some soonest) = SomeoneWaits engine soonest × ((i moment : ℕ) → i < n → WaitsAt engine i moment → soonest ≤ moment)

-- the sooner of two moments, if there are any
abbrev pub sooner : Option ℕ → Option ℕ → Option ℕ
sooner None b = b
sooner (Some a) None = Some a
sooner (Some a) (Some b) = Some (min a b)

-- from a moment on an instance that merges is to act by itself
pub record SomeoneChecks {P : Type 0} (engine : EngineState P) (moment : ℕ) : Type 0 where
  pub who : ℕ
  pub within : who < length engine.states
  pub joins : joins_at engine.log who ≡ true
  pub due : (now : ℕ) → moment ≤ now → IsTickReady engine.log who now

-- and no instance that merges, is unleased, owes nothing and can answer is to do so before a moment, if there is any, unless it runs a
-- transform that the program hands in
abbrev pub ComesBy : {P : Type 0} → EngineState P → Option ℕ → ℕ → Type 0
ComesBy engine soonest i =
    IsSettled engine i → IsOpen engine i → IsKeeper CanAnswer engine.keepers.items i → (RunsHost engine.log i → ⊥) →
    (now : ℕ) → IsTickReady engine.log i now → IsSomeAnd soonest (λ moment. moment ≤ now)

-- so it is of each that merges
abbrev pub NoneChecksBefore : {P : Type 0} → EngineState P → Option ℕ → Type 0
NoneChecksBefore engine soonest = (i : ℕ) → joins_at engine.log i ≡ true → ComesBy engine soonest i
