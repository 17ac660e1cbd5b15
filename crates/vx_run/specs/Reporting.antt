-- What is printed at the end of a run.
use Rattle.std.specs.Prelude.{◌≡◌, ◌≢◌, ◌⊎◌, ℕ, [], ◌∷◌, Option, Some, None}
use Rattle.vx_value.specs.Texts.{ByteString}
use Rattle.vx_ends.specs.Observation.{Grows, Rose}
use Rattle.vx_cli.specs.declared.fault.Fault.{Fault}
use Rattle.vx_cli.specs.declared.fault.Fault.TheVariants.{WantOfMemory}
use Rattle.vx_cli.specs.Texts.{text_of}

-- a text is printed, and the printer's count of faults stays, or that rose and nothing was; with an empty text the printer
-- stays the same
abbrev pub IsPrinted : Type 0 → Option ByteString → Option ByteString → ℕ → ℕ → ByteString → Type 0
IsPrinted same old new before now [] = same
IsPrinted same old new before now (c ∷ text) = (Grows old new (c ∷ text) × (now ≡ before)) ⊎ ((new ≡ old) × Rose before now)

-- the fault's text is printed; of a run that ended well the printer stays the same
abbrev pub IsSaid : Type 0 → Option ByteString → Option ByteString → ℕ → ℕ → Option Fault → Type 0
IsSaid same old new before now None = same
IsSaid same old new before now (Some fault) = IsPrinted same old new before now (text_of fault)

-- the same fault, or want of memory in its place
abbrev pub IsKept : Option Fault → Option Fault → Type 0
IsKept fault None = fault ≡ None
IsKept fault (Some WantOfMemory) = fault ≢ None
IsKept fault (Some other) = fault ≡ Some other
