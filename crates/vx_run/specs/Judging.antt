-- How an ended run is judged.
use Rattle.std.specs.Prelude.{◌≡◌, ℕ, Option, false}
use Rattle.vx_record.specs.Records.{Record}
use Rattle.vx_record.specs.declared.abandon_cause.AbandonCause.{AbandonCause}
use Rattle.vx_record.specs.declared.abandon_cause.AbandonCause.TheVariants as cause
use Rattle.vx_hub.specs.declared.hub.Hub.{Hub}
use Rattle.vx_hub.specs.Reporting.{IsNameOf}
use Rattle.vx_run.specs.Answers.{ButForMemory}
use Rattle.vx_cli.specs.declared.fault.Fault.{Fault}
use Rattle.vx_cli.specs.declared.fault.Fault.TheVariants.{Numbers, SourceFailed, ConfirmFailed, WantOfMemory}

-- but for want of memory, it was never wanting for what came back
abbrev pub IsSure : {P : Type 0} → Hub P → Option Fault → Type 0
IsSure hub fault = ButForMemory (hub.engine.run.out_of_memory ≡ false) fault

-- the fault of a source whose last confirm failed, with the name of its component, but for want of memory
abbrev pub IsUnconfirmedAt : Record → ℕ → Fault → Type 0
IsUnconfirmedAt h i (ConfirmFailed name) = IsNameOf h i name
IsUnconfirmedAt h i WantOfMemory = Unit {0}
IsUnconfirmedAt h i other = ⊥

-- the fault of a lost source, with the name of its component, but for want of memory
abbrev pub IsNamed : Record → ℕ → ℕ → Fault → Type 0
IsNamed h i at (SourceFailed name n) = (n ≡ at) × IsNameOf h i name
IsNamed h i at WantOfMemory = Unit {0}
IsNamed h i at other = ⊥

-- a cause for which nobody asked
abbrev pub IsUnasked : AbandonCause → Type 0
IsUnasked (cause.Grace stopped now limit) = ⊥
IsUnasked other = Unit {0}

-- the fault of a run that was given up
abbrev pub IsFaultOf : AbandonCause → Fault → Type 0
IsFaultOf (cause.Numbers next wanted) fault = fault ≡ Numbers next wanted
IsFaultOf other fault = fault ≡ WantOfMemory
