use Rattle.vx_record.specs.declared.entry.Entry.TheVariants.{Take}
use Rattle.vx_record.specs.Places.Place.{Contents}
use Rattle.vx_record.specs.Shifts.{at}
use Rattle.vx_record.specs.Spending.{oldest}
use Rattle.vx_moves.proofs.engine.EngineState.take.Given as goal

abbrev pub ghost-note : goal.ghost-note
ghost-note g a = Take a._shown.now.0 a._shown.now.1 (oldest (at a.self.now (Contents a._shown.now.0 a._shown.now.1)))
