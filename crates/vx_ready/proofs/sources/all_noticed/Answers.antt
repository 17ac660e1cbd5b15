use Rattle.vx_ready.proofs.Knowing.{noticed_is}
use Rattle.vx_ready.proofs.sources.all_noticed.Goals as goal

pub returns : goal.returns
returns g c = noticed_is g.P.Port.observed c.args.engine.now c.requires.stands c.args.i c.get.result.now c.get.ensures
