-- What the document of a checkpoint says, as far as its writer knows.
use Rattle.std.specs.Prelude.{◌≡◌, ◌⊎◌, ℕ, List, IfSome, IsSomeAnd}
use Rattle.vx_ends.specs.declared.position.Position.{Position}
use Rattle.vx_ends_os.specs.declared.checkpoint_file.CheckpointFile.{CheckpointFile}
use Rattle.vx_ends_os.specs.declared.file_in.FileIn.{FileIn}
use Rattle.vx_ends_os.specs.Places.{next_of, offset_at}
use Rattle.vx_ends_os.specs.Ends.{greatest_end}

-- the document is that of the same path, at the same place
abbrev pub SameDocument : CheckpointFile → CheckpointFile → Type 0
SameDocument old new = new ≡ record old { mark = record old.mark { offset = new.mark.offset } }

-- the greatest offset that the document of a file may say, by what was read and written of it
abbrev pub said_of : FileIn → ℕ
said_of file = file.checkpoint.mark.offset

-- the document says what it did, or it says 0, and the next byte to take is the first of a file
abbrev pub SaysNoMore : FileIn → FileIn → Type 0
SaysNoMore old new = (said_of new ≡ said_of old) ⊎ ((said_of new ≡ 0) × IsSomeAnd new.place (λ place. next_of place ≡ 0))

-- the document says the offset of the greatest end among some positions, where one is of the file's stream
abbrev pub SaysEnd : List Position → FileIn → FileIn → Type 0
SaysEnd positions old new = IfSome (greatest_end positions) (λ end. IsSomeAnd old.place (λ place. said_of new ≡ offset_at place.from place.base end))
