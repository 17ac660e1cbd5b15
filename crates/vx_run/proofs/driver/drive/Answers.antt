use Rattle.vx_run.proofs.Pacing.{timely_both}
use Rattle.vx_run.proofs.driver.drive.Goals as goal

pub loop-preserved : goal.loop-preserved
loop-preserved g c = record {
  hub = c.turn.ensures.hub;
  on = timely_both (g.C.Clock.gave c.args.clock.now) c.args.hub.now.engine.log c.loop.hub.engine.log c.turn.new.hub.engine.log c.loop.invariant.on c.turn.ensures.on;
  moment = c.turn.ensures.moment;
}
