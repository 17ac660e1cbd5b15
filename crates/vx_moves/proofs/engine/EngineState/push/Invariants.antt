use Rattle.vx_record.specs.declared.entry.Entry.TheVariants.{Push}
use Rattle.vx_record.specs.Places.Place.{Waiting}
use Rattle.vx_record.specs.Shifts.{at}
use Rattle.vx_record.specs.Spending.{oldest}
use Rattle.vx_moves.proofs.engine.EngineState.push.Given as goal

abbrev pub ghost-note : goal.ghost-note
ghost-note g a =
    Push a._shown.now.0 a._shown.now.1 a._shown.now.2 (oldest (at a.self.now (Waiting a._shown.now.0 a._shown.now.1)))
