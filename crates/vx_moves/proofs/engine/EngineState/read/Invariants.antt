use Rattle.vx_sourcecore.specs.Turns.{reading_of}
use Rattle.vx_tasks.specs.Out.{read_entry}
use Rattle.vx_moves.proofs.engine.EngineState.read.Given as goal

abbrev pub ghost-note : goal.ghost-note
ghost-note g a = read_entry a._shown.now.0 (reading_of a._shown.now.1.now)
