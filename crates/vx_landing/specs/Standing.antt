-- What is known of the engine's state while tasks are out.
use Rattle.std.specs.Prelude.{◌≡◌, ◌<◌, ℕ, true, false, length, None, IfSome, slice_get}
use Rattle.vx_record.specs.Turns.{is_out}
use Rattle.vx_record.specs.Places.Place.{Held}
use Rattle.vx_places.specs.Views.{parcels_here}
use Rattle.vx_instances.specs.declared.state.InstanceState.{InstanceState}
use Rattle.vx_moves.specs.declared.engine.EngineState.{EngineState}

-- memory was never wanting for what is known of an instance
pub record IsWellAt {P : Type 0} (state : InstanceState P) : Type 0 where
  pub settled : state.facts.owing ≡ false
  pub counted : state.facts.behind ≡ false
  pub fed : state.facts.starved ≡ false

-- for what is known of any, and of what came back
pub record IsWell {P : Type 0} (engine : EngineState P) : Type 0 where
  pub states : (i : ℕ) → IfSome (slice_get engine.states i) IsWellAt
  pub fed : engine.run.out_of_memory ≡ false

-- what an instance holds is lent while it is out
abbrev pub LentWhileOut : {P : Type 0} → EngineState P → Type 0
LentWhileOut engine = (i : ℕ) → i < length engine.states → is_out engine.log i ≡ true → parcels_here engine.places (Held i) ≡ None

-- what an instance counts and what its port gave is known
pub record IsFedAt {P : Type 0} (state : InstanceState P) : Type 0 where
  pub counted : state.facts.behind ≡ false
  pub fed : state.facts.starved ≡ false

-- of each, unless memory was wanting
abbrev pub IsFed : {P : Type 0} → EngineState P → Type 0
IsFed engine = engine.run.out_of_memory ≡ false → (i : ℕ) → IfSome (slice_get engine.states i) IsFedAt

-- memory was never wanting for what is known of an instance that is out: it was leased while all was well
abbrev pub AwayIsWell : {P : Type 0} → EngineState P → Type 0
AwayIsWell engine = (i : ℕ) → is_out engine.log i ≡ true → IfSome (slice_get engine.states i) IsWellAt
