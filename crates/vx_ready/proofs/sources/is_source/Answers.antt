use Rattle.std.proofs.Common.{◌∙◌}
use Rattle.vx_ready.proofs.Knowing.{source_is}
use Rattle.vx_ready.proofs.sources.is_source.Goals as goal

pub returns : goal.returns
returns g c = c.is_source_class.ensures ∙ source_is g.P.Port.observed c.args.engine.now c.requires.stands c.args.i c.get.result.now c.get.ensures
