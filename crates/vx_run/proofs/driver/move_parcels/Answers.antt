use Rattle.std.proofs.Common.{◌∙◌}
use Rattle.vx_record.proofs.Adding.{adds_both}
use Rattle.vx_run.specs.Moments.{IsTimeless}
use Rattle.vx_run.proofs.driver.move_parcels.Goals as goal

pub loop-moved-preserved : goal.loop-moved-preserved
loop-moved-preserved g c = record {
  hub = c.push.ensures.hub;
  on = adds_both IsTimeless c.args.hub.now.engine.log c.loop-moved.hub.engine.log c.push.new.hub.engine.log c.loop-moved.invariant.on c.push.ensures.on;
  latest = c.push.ensures.latest ∙ c.loop-moved.invariant.latest;
}
