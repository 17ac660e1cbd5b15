use Rattle.vx_run.proofs.Tallied.{counted_more}
use Rattle.vx_run.proofs.running.tallies.Goals as goal

pub loop-instance-preserved : goal.loop-instance-preserved
loop-instance-preserved g c =
    counted_more c.args.hub.now.engine.log c.loop-instance.instance c.loop-instance.list c.push.new.self c.tally.result c.in-Ok.ensures.ok c.loop-instance.invariant (c.tally.ensures c.requires.fed)
