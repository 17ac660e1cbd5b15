use Rattle.vx_ready.proofs.Done.{kept_there, held_is}
use Rattle.vx_ready.proofs.finishing.count_held.Goals as goal

pub holds-requires-clause-kept : goal.holds-requires-clause-kept
holds-requires-clause-kept g c = let r = c.requires in kept_there g.P.Port.observed c.args.engine.now r.stands c.args.i r.within r.settled r.alone

pub returns : goal.returns
returns g c = held_is g.P.Port.observed c.args.engine.now c.args.i c.holds.result c.requires.stands c.holds.ensures.held
