use Rattle.std.proofs.Common.{◌∙◌, sym, false}
use Rattle.vx_record.specs.Confirms.{is_unconfirmed}
use Rattle.vx_run.proofs.Judged.{one_further}
use Rattle.vx_run.proofs.judging.first_unconfirmed.Goals as goal

pub loop-instance-preserved : goal.loop-instance-preserved
loop-instance-preserved g c = one_further (is_unconfirmed c.args.hub.now.engine.log) false c.loop-instance.instance c.loop-instance.invariant (sym c.unconfirmed.ensures ∙ c.if-unconfirmed.false)
