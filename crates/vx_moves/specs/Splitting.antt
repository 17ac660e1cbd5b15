-- What a split of an instance's oldest output does, and when it isn't made.
use Rattle.std.specs.Prelude.{◌*◌, ℕ, List, length}
use Rattle.vx_ends.specs.Observation.{Observation}
use Rattle.vx_value.specs.declared.event.Event.{Event}
use Rattle.vx_ledger.specs.Ledger.{IsShort}
use Rattle.vx_ledger.specs.declared.short.Short.{Short}
use Rattle.vx_record.specs.declared.child.Child.{Child}
use Rattle.vx_record.specs.declared.entry.Entry.TheVariants.{Split}
use Rattle.vx_record.specs.Records.{Record}
use Rattle.vx_record.specs.Copies.{next_copy}
use Rattle.vx_record.specs.Ceasing.{readers_on}
use Rattle.vx_record.specs.Parcels.{parcel_ports, port_list}
use Rattle.vx_record.specs.Places.Place.{Outputs}
use Rattle.vx_record.specs.Shifts.{at}
use Rattle.vx_record.specs.Spending.{oldest}
use Rattle.vx_moves.specs.Stands.{Steps}
use Rattle.vx_moves.specs.declared.engine.EngineState.{EngineState}

-- the instances that read the ports on which an instance's oldest output was put out
abbrev pub oldest_readers : Record → ℕ → List ℕ
oldest_readers h i = readers_on h i (port_list (parcel_ports h (oldest (at h (Outputs i)))))

-- the oldest output was replaced by a child for each of them
pub record HasSplit {P : Type 0} (observe : P → Observation) (i : ℕ) (old new : EngineState P) : Type 0 where
  pub ports : ℕ
  pub event : Event
  pub children : List Child
  pub steps : Steps observe (Split i ports (oldest (at old.log (Outputs i))) event children) old new

-- it wasn't, for want of the numbers of its children, or of memory
abbrev pub IsSplitShort : Record → ℕ → Short → Type 0
IsSplitShort h i = IsShort (next_copy h) (length (oldest_readers h i) * length (oldest (at h (Outputs i))))
