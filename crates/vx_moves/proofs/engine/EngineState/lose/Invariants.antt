use Rattle.vx_record.specs.declared.entry.Entry.TheVariants.{SourceLost}
use Rattle.vx_moves.proofs.engine.EngineState.lose.Given as goal

abbrev pub ghost-note : goal.ghost-note
ghost-note g a = SourceLost a._shown.now.0 a._shown.now.1 a._shown.now.2
