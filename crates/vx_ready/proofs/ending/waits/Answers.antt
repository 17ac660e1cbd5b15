use Rattle.vx_ready.proofs.Naming.{waits_is}
use Rattle.vx_ready.proofs.ending.waits.Goals as goal

pub returns : goal.returns
returns g c = waits_is g.P.Port.observed c.args.engine.now c.args.j c.args.i c.awaits.result c.requires.stands c.awaits.ensures.awaits
