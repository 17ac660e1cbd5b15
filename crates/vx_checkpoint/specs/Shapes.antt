-- The faults of a document that is JSON.
use Rattle.std.specs.Prelude.{◌≡◌}
use Rattle.serde_json.specs.Data.{Data}
use Rattle.vx_checkpoint.specs.Document.{OtherVersion, Misshapen, reading, first_version}
use Rattle.vx_checkpoint.specs.declared.checkpoint.CheckpointFault.{CheckpointFault}
use Rattle.vx_checkpoint.specs.declared.checkpoint.CheckpointFault.TheVariants.{NotJson, WrongShape, WrongVersion, WantOfMemory}

-- the fault of a document
abbrev pub IsShapeFault : Data → CheckpointFault → Type 0
IsShapeFault document NotJson = ⊥
IsShapeFault document WrongShape = reading document ≡ Misshapen
IsShapeFault document (WrongVersion found) = reading document ≡ OtherVersion found
IsShapeFault document WantOfMemory = Unit {0}

-- the fault of a document of version 1
abbrev pub IsFirstShapeFault : Data → CheckpointFault → Type 0
IsFirstShapeFault document NotJson = ⊥
IsFirstShapeFault document WrongShape = first_version document ≡ Misshapen
IsFirstShapeFault document (WrongVersion found) = ⊥
IsFirstShapeFault document WantOfMemory = Unit {0}
