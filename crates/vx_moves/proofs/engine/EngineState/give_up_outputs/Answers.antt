use Rattle.vx_record.specs.Places.Place.{Outputs}
use Rattle.vx_moves.proofs.Spending.{gives_up_more}
use Rattle.vx_moves.proofs.engine.EngineState.give_up_outputs.Goals as goal

pub loop-preserved : goal.loop-preserved
loop-preserved g c = gives_up_more (Outputs c.args.i) c.loop.invariant (c.give_up_output.ensures.spent c.loop-test.true)
