-- What a turn of a source needs that made a reading.
use Rattle.std.specs.Prelude.{ℕ, Option, IfSome}
use Rattle.vx_record.specs.declared.entry.Entry.TheVariants.{Read}
use Rattle.vx_record.specs.Records.{Record}
use Rattle.vx_record.specs.Abandoning.{MayStillCome}
use Rattle.vx_record.specs.Sourcing.{MayRead}
use Rattle.vx_sourcecore.specs.declared.source.Cut.{Cut}
use Rattle.vx_sourcecore.specs.Turns.{Reading}
use Rattle.vx_sourcecore.specs.NewLines.{AreNew}

-- a reading may be noted now, and where its lines were cut, they are those that the record has it complete
pub record MayNoteRead (h : Record) (i : ℕ) (cut : Option Cut) (reading : Reading) : Type 0 where
  pub row : MayRead h i reading.stream reading.took
  pub left : MayStillCome h (Read i reading.stream reading.took)
  pub lines : IfSome cut (λ cut. AreNew h i reading.stream reading.took cut.new)
