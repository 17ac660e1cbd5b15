use Rattle.vx_record.specs.declared.entry.Entry.TheVariants.{Notice}
use Rattle.vx_moves.proofs.settle.give_notice.Given as goal

abbrev pub ghost-note : goal.ghost-note
ghost-note g a = Notice a._shown.now.batch a._shown.now.status
