use Rattle.vx_record.specs.declared.entry.Entry.TheVariants.{Tick}
use Rattle.vx_moves.proofs.engine.EngineState.merge_tick.Given as goal

abbrev pub ghost-note : goal.ghost-note
ghost-note g a = Tick a._shown.now.0 a._shown.now.1
