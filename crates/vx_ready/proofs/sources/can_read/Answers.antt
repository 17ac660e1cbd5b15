use Rattle.std.proofs.Common.{◌∙◌}
use Rattle.vx_ready.proofs.Knowing.{reads_at}
use Rattle.vx_ready.proofs.sources.can_read.Goals as goal

pub returns : goal.returns
returns g c = c.both.ensures ∙ reads_at g.P.Port.observed c.args.engine.now c.requires.stands c.args.i c.get.result.now c.get.ensures c.gives_more.result c.args.now c.gives_more.ensures
