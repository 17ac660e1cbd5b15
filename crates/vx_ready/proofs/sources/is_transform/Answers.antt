use Rattle.std.proofs.Common.{◌∙◌}
use Rattle.vx_ready.proofs.Knowing.{transform_is}
use Rattle.vx_ready.proofs.sources.is_transform.Goals as goal

pub returns : goal.returns
returns g c = c.is_transform_class.ensures ∙ transform_is g.P.Port.observed c.args.engine.now c.requires.stands c.args.i c.get.result.now c.get.ensures
