-- What the bytes of a document are read as.
use Rattle.std.specs.Prelude.{◌≡◌, Some, None, IsUtf8}
use Rattle.serde_json.specs.Data.{Data}
use Rattle.serde_json.specs.Read.{read}
use Rattle.vx_value.specs.Texts.{ByteString}
use Rattle.vx_checkpoint.specs.Document.{Reading, OtherVersion, Misshapen, reading}
use Rattle.vx_checkpoint.specs.declared.checkpoint.CheckpointFault.{CheckpointFault}
use Rattle.vx_checkpoint.specs.declared.checkpoint.CheckpointFault.TheVariants.{NotJson, WrongShape, WrongVersion, WantOfMemory}

-- the bytes are a JSON text, and it says this
abbrev pub Says : ByteString → Reading → Type 0
Says bytes said = IsUtf8 bytes × ((document : Data) × (read bytes ≡ Some document) × (reading document ≡ said))

-- the fault of some bytes
abbrev pub IsFault : ByteString → CheckpointFault → Type 0
IsFault bytes NotJson = IsUtf8 bytes → read bytes ≡ None
IsFault bytes WrongShape = Says bytes Misshapen
IsFault bytes (WrongVersion found) = Says bytes (OtherVersion found)
IsFault bytes WantOfMemory = Unit {0}
