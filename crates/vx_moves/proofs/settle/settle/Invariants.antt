use Rattle.vx_record.specs.declared.entry.Entry.TheVariants.{Spent}
use Rattle.vx_moves.proofs.settle.settle.Given as goal

abbrev pub ghost-note : goal.ghost-note
ghost-note g a = Spent a._shown.now.0 a._shown.now.1.now.number a._shown.now.2
