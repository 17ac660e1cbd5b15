use Rattle.vx_record.specs.declared.entry.Entry.TheVariants.{Home}
use Rattle.vx_moves.proofs.engine.EngineState.return_task.Given as goal

abbrev pub ghost-note : goal.ghost-note
ghost-note g a = Home a._shown.now
