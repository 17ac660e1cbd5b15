-- What a call leaves of the engine's state beside what stands at the places.
use Rattle.std.specs.Prelude.{◌≡◌, ℕ, Bool}
use Rattle.vx_places.specs.Capacities.{SameCapacities}
use Rattle.vx_instances.specs.Staying.{EachState, OneState, Stays, HasRead}
use Rattle.vx_moves.specs.declared.engine.EngineState.{EngineState}

-- of each state what its component says, its task, and whether what it owes, what it counts and what its port gave is known; the
-- capacities, and who is lent one; and the run
pub record Leaves {P : Type 0} (old new : EngineState P) : Type 0 where
  pub states : EachState Stays old.states new.states
  pub capacities : SameCapacities old.places new.places
  pub run : new.run ≡ old.run

-- the same, but that what an instance counts isn't known any more where its lines weren't told
pub record LeavesUnobserved {P : Type 0} (unobserved : Bool) (i : ℕ) (old new : EngineState P) : Type 0 where
  pub states : OneState (HasRead unobserved) i old.states new.states
  pub capacities : SameCapacities old.places new.places
  pub run : new.run ≡ old.run
