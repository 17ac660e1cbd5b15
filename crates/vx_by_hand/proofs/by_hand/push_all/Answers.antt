use Rattle.std.proofs.Common.{◌∙◌}
use Rattle.vx_by_hand.proofs.Spared.{each_both}
use Rattle.vx_by_hand.proofs.by_hand.push_all.Goals as goal

pub loop-instance-preserved : goal.loop-instance-preserved
loop-instance-preserved g c =
    let inv = c.loop-instance.invariant in
    record {
      hub = c.push.ensures.hub;
      size = c.push.ensures.size ∙ inv.size;
      spares = each_both c.args.hub.now.engine.log c.loop-instance.hub.engine.log c.push.new.hub.engine.log inv.spares c.push.ensures.spares;
    }
