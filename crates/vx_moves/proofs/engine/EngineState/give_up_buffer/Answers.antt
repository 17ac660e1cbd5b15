use Rattle.vx_record.specs.Places.Place.{Contents}
use Rattle.vx_moves.proofs.Spending.{gives_up_more}
use Rattle.vx_moves.proofs.engine.EngineState.give_up_buffer.Goals as goal

pub loop-preserved : goal.loop-preserved
loop-preserved g c = let one = c.give_up_buffered.ensures.spent c.loop-test.true in gives_up_more (Contents c.args.i one.0) c.loop.invariant one.1
