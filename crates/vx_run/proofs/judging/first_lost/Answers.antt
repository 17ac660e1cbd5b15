use Rattle.std.proofs.Common.{◌∙◌, sym, None}
use Rattle.vx_record.specs.Ceasing.{lost_at}
use Rattle.vx_run.proofs.Judged.{one_further}
use Rattle.vx_run.proofs.judging.first_lost.Goals as goal

pub loop-instance-preserved : goal.loop-instance-preserved
loop-instance-preserved g c = one_further (lost_at c.args.hub.now.engine.log) None c.loop-instance.instance c.loop-instance.invariant (sym c.lost.ensures ∙ c.in_default.is)
