-- Which device a form asks for.
use Rattle.std.specs.Prelude.{◌≡◌, ◌++◌, List, ℕ, Bool, codes, string_bytes, Option, Some, None, IfSome, IsSomeAnd}
use Rattle.vx_ends.specs.declared.port_spec.Form.{Form}
use Rattle.vx_ends.specs.declared.port_spec.Form.TheVariants as form
use Rattle.vx_ends_os.specs.declared.device.Device.{Device}
use Rattle.vx_ends_os.specs.declared.device.Device.TheVariants as device
use Rattle.vx_ends_os.specs.declared.checkpoint_file.CheckpointFile.{CheckpointFile}
use Rattle.vx_ends_os.specs.declared.file_in.FileIn.{FileIn}
use Rattle.vx_ends_os.specs.declared.os_port.OsPort.{OsPort}
use Rattle.vx_ends_os.specs.Documents.{SameDocument, SaysNoMore}

-- a checkpoint's document stands at that place, and is written beside it first
pub record StandsAt (at : List ℕ) (file : CheckpointFile) : Type 0 where
  pub place : file.place ≡ at
  pub beside : string_bytes file.beside ≡ at ++ codes ".new"

-- the file at that path is read, once or as it grows, with that checkpoint
pub record Reads (path : List ℕ) (once : Bool) (checkpoint : List ℕ) (file : FileIn) : Type 0 where
  pub reads : file.checkpoint.mark.path ≡ path
  pub ends : file.once ≡ once
  pub keeps : StandsAt checkpoint file.checkpoint

-- the device is of the form, and stands on what that names
abbrev pub IsDeviceOf : Form → Device → Type 0
IsDeviceOf form.Stdin (device.Input stdin) = Unit {0}
IsDeviceOf form.Stdin (device.Output output) = ⊥
IsDeviceOf form.Stdin (device.FileIn file) = ⊥
IsDeviceOf form.Stdin (device.FileOut file) = ⊥
IsDeviceOf (form.Console err) (device.Input stdin) = ⊥
IsDeviceOf (form.Console err) (device.Output output) = output.err ≡ err
IsDeviceOf (form.Console err) (device.FileIn file) = ⊥
IsDeviceOf (form.Console err) (device.FileOut file) = ⊥
IsDeviceOf (form.FileIn path once checkpoint) (device.Input stdin) = ⊥
IsDeviceOf (form.FileIn path once checkpoint) (device.Output output) = ⊥
IsDeviceOf (form.FileIn path once checkpoint) (device.FileIn file) = Reads path once checkpoint file
IsDeviceOf (form.FileIn path once checkpoint) (device.FileOut file) = ⊥
IsDeviceOf (form.FileOut path) (device.Input stdin) = ⊥
IsDeviceOf (form.FileOut path) (device.Output output) = ⊥
IsDeviceOf (form.FileOut path) (device.FileIn file) = ⊥
IsDeviceOf (form.FileOut path) (device.FileOut file) = file.path ≡ path

-- the port stands on a device of the form
abbrev pub StandsOn : Form → OsPort → Type 0
StandsOn form port = IsDeviceOf form port.device

-- it is the same file that is read, to its end or as it grows, and its checkpoint has the same place
pub record SameFile (old new : FileIn) : Type 0 where
  pub once : new.once ≡ old.once
  pub checkpoint : SameDocument old.checkpoint new.checkpoint

-- the file that a device reads
abbrev pub file_of : Device → Option FileIn
file_of (device.Input stdin) = None
file_of (device.Output output) = None
file_of (device.FileIn file) = Some file
file_of (device.FileOut file) = None

-- of the file that a device reads the document says no more
abbrev pub LetsSayNoMore : Device → Device → Type 0
LetsSayNoMore old new = IfSome (file_of old) (λ was. IsSomeAnd (file_of new) (SaysNoMore was))
