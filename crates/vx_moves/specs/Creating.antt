-- What the birth of a batch needs, and what it makes.
use Rattle.std.specs.Prelude.{◌≡◌, ◌<◌, ◌≤◌, ◌+◌, ◌^◌, ℕ, false, List, [], ◌∷◌, length, Some}
use Rattle.vx_ends.specs.Observation.{Observation}
use Rattle.vx_ends.specs.declared.position.Position.{Position}
use Rattle.vx_value.specs.declared.event.Event.{Event}
use Rattle.vx_ledger.specs.Copies.{Copy}
use Rattle.vx_transform.specs.declared.output.Output.{Output}
use Rattle.vx_ledger.specs.declared.short.Short.{Short}
use Rattle.vx_ledger.specs.declared.short.Short.TheVariants.{Numbers, WantOfMemory}
use Rattle.vx_record.specs.declared.entry.Entry.TheVariants.{Born}
use Rattle.vx_record.specs.Records.{Record, capped}
use Rattle.vx_record.specs.Copies.{counting, next_copy}
use Rattle.vx_record.specs.Abandoning.{abandoned}
use Rattle.vx_record.specs.Sourcing.{yield, must_wait}
use Rattle.vx_moves.specs.Stands.{Steps}
use Rattle.vx_moves.specs.declared.engine.EngineState.{EngineState}

-- each event with its copies, in order, put out on the first port
abbrev pub paired : List Event → List (List Copy) → List Output
paired [] lists = []
paired events [] = []
paired (event ∷ events) (copies ∷ lists) = record { ports = 1; parcel = record { event = event; finalizers = copies } } ∷ paired events lists

-- the newest entry is a Read of the instance that yields these events, some but not too many, and their position
pub record MayCreateBatchNow (h : Record) (i : ℕ) (position : Position) (events : List Event) : Type 0 where
  pub going : abandoned h ≡ false
  pub yields : yield h i ≡ Some (record { events = events; stream = position.stream; end = position.end })
  pub some : 0 < length events
  pub few : length events ≤ 65536

-- the batch was born, with a copy for each event
abbrev pub HasCreatedBatch : {P : Type 0} → (P → Observation) → ℕ → Position → List Event → EngineState P → EngineState P → Type 0
HasCreatedBatch observe i position events old new =
    let next = next_copy old.log in
    Steps observe (Born i next next (counting next (length events)) events (must_wait old.log i) position.stream position.end) old new

-- it wasn't, for want of numbers for n copies, or of memory
abbrev pub IsBirthShort : Record → ℕ → Short → Type 0
IsBirthShort h n (Numbers next wanted) = (next ≡ next_copy h) × ((wanted ≡ capped n) × (2 ^ 63 < next_copy h + n))
IsBirthShort h n WantOfMemory = Unit {0}
