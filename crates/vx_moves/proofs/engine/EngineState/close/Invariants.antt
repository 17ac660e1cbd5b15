use Rattle.vx_record.specs.declared.entry.Entry.TheVariants.{Closed}
use Rattle.vx_moves.proofs.engine.EngineState.close.Given as goal

abbrev pub ghost-note : goal.ghost-note
ghost-note g a = Closed a._shown.now
