use Rattle.vx_record.specs.declared.entry.Entry.TheVariants.{Abandon}
use Rattle.vx_moves.proofs.engine.EngineState.abandon.Given as goal

abbrev pub ghost-note : goal.ghost-note
ghost-note g a = Abandon a._shown.now
