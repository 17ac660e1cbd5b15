-- What a refusal says.
use Rattle.std.specs.Prelude.{◌≡◌, ℕ, Bool, true, Some, List}
use Rattle.vx_value.specs.declared.variable.Variable.{Variable}
use Rattle.vx_value.specs.Texts.{ByteString}
use Rattle.vx_subst.specs.Pieces.{Placed}
use Rattle.vx_subst.specs.Replaced.{first_lacking, name_in}
use Rattle.vx_subst.specs.declared.subst_fault.SubstFault.{SubstFault}
use Rattle.vx_subst.specs.declared.subst_fault.SubstFault.TheVariants.{MissingVariable, WantOfMemory}

-- the text has a piece that needs a missing variable, and the fault tells the first such name and its place
abbrev pub ReportsFirst : List Variable → ByteString → SubstFault → Type 0
ReportsFirst environment text (MissingVariable name at) =
    (p : Placed) × (first_lacking environment text ≡ Some p) × (name ≡ name_in p.piece) × (at ≡ p.at)
ReportsFirst environment text WantOfMemory = Unit {0}

-- the fault tells a name and a place
abbrev pub ReportsOf : ByteString → ℕ → SubstFault → Type 0
ReportsOf name place (MissingVariable observed at) = (observed ≡ name) × (at ≡ place)
ReportsOf name place WantOfMemory = Unit {0}

-- where a fault names a variable, one lacks, and the fault tells that name and that place
abbrev pub ReportsLack : Bool → ByteString → ℕ → SubstFault → Type 0
ReportsLack lacks name place (MissingVariable observed at) = (lacks ≡ true) × (observed ≡ name) × (at ≡ place)
ReportsLack lacks name place WantOfMemory = Unit {0}
