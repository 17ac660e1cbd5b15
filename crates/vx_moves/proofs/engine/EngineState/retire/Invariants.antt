use Rattle.vx_record.specs.declared.entry.Entry.TheVariants.{Retired}
use Rattle.vx_moves.proofs.engine.EngineState.retire.Given as goal

abbrev pub ghost-note : goal.ghost-note
ghost-note g a = Retired a._shown.now
