use Rattle.vx_record.specs.declared.entry.Entry.TheVariants.{Confirm}
use Rattle.vx_moves.proofs.engine.EngineState.confirm.Given as goal

abbrev pub ghost-note : goal.ghost-note
ghost-note g a = Confirm a._shown.now.0 a._shown.now.1.now a._shown.now.2
