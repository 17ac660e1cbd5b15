use Rattle.std.proofs.Common.{◌∙◌}
use Rattle.vx_ready.proofs.Knowing.{sink_is}
use Rattle.vx_ready.proofs.sources.is_sink.Goals as goal

pub returns : goal.returns
returns g c = c.is_sink_class.ensures ∙ sink_is g.P.Port.observed c.args.engine.now c.requires.stands c.args.i c.get.result.now c.get.ensures
