use Rattle.vx_ready.proofs.Done.{held_is}
use Rattle.vx_hub.proofs.collecting.count_held.Goals as goal

pub returns : goal.returns
returns g c = held_is g.P.Port.observed c.args.engine.now c.args.i c.holds.result c.requires.stands c.holds.ensures.held
