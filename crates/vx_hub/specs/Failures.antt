-- Why the hub can't go on.
use Rattle.vx_ledger.specs.declared.short.Short.{Short}
use Rattle.vx_ledger.specs.declared.short.Short.TheVariants as short
use Rattle.vx_record.specs.Records.{Record}
use Rattle.vx_record.specs.declared.abandon_cause.AbandonCause.{AbandonCause}
use Rattle.vx_record.specs.declared.abandon_cause.AbandonCause.TheVariants as cause
use Rattle.vx_record.specs.Ending.{HasReason as IsReason}
pub use Rattle.vx_landing.specs.Failures.{LacksBirth}
use Rattle.vx_hub.specs.declared.fatal.Fatal.{Fatal}
use Rattle.vx_hub.specs.declared.fatal.Fatal.TheVariants as fatal

-- why the hub can't go on, where the ledger is short
abbrev pub fatal_of : Short → Fatal
fatal_of (short.Numbers next wanted) = fatal.Numbers next wanted
fatal_of short.WantOfMemory = fatal.WantOfMemory

-- the cause for which a run is given up that can't go on
abbrev pub abandon_cause : Fatal → AbandonCause
abandon_cause (fatal.Numbers next wanted) = cause.Numbers next wanted
abandon_cause fatal.WantOfMemory = cause.WantOfMemory

-- the run may be given up for that
abbrev pub HasReason : Record → Fatal → Type 0
HasReason h why = IsReason h (abandon_cause why)
