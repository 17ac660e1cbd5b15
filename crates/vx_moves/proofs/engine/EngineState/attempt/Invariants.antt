use Rattle.std.specs.Prelude.{take}
use Rattle.vx_record.specs.declared.entry.Entry.TheVariants.{Attempt}
use Rattle.vx_record.specs.Copies.{joined}
use Rattle.vx_record.specs.Lists.{held}
use Rattle.vx_moves.proofs.engine.EngineState.attempt.Given as goal

abbrev pub ghost-note : goal.ghost-note
ghost-note g a = Attempt a._shown.now.0 (joined (held a.self.now a._shown.now.0)) (take a._shown.now.2 a._shown.now.1.now.value) a._shown.now.3
