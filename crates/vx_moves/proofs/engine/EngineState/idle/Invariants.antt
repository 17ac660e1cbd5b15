use Rattle.vx_record.specs.declared.entry.Entry.TheVariants.{Idle}
use Rattle.vx_moves.proofs.engine.EngineState.idle.Given as goal

abbrev pub ghost-note : goal.ghost-note
ghost-note g a = Idle a._shown.now.0 a._shown.now.1
