use Rattle.vx_run.proofs.Pacing.{timely_both}
use Rattle.vx_run.proofs.driver.drain.Goals as goal

pub loop-preserved : goal.loop-preserved
loop-preserved g c = record {
  hub = c.lease-leased.ensures.hub;
  on = timely_both (g.C.Clock.gave c.args.clock.now) c.args.hub.now.engine.log c.loop.hub.engine.log c.lease-leased.new.hub.engine.log c.loop.invariant.on c.lease-leased.ensures.on;
  moment = c.lease-leased.ensures.moment;
}
