use Rattle.vx_ledger.specs.Copies.{numbers_of}
use Rattle.vx_record.specs.declared.entry.Entry.TheVariants.{Split}
use Rattle.vx_places.specs.Numbers.{noted}
use Rattle.vx_moves.proofs.split.note_split.Given as goal

abbrev pub ghost-note : goal.ghost-note
ghost-note a =
    let shown = a._shown.now in
    let was = shown.2.now.value in Split shown.0 shown.1 (numbers_of was.finalizers) was.event (noted shown.3.now)
