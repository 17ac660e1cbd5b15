use Rattle.vx_hub.proofs.Leases.{taken_none, taken_more}
use Rattle.vx_hub.proofs.collecting.collect.Goals as goal

pub loop-taken-init : goal.loop-taken-init
loop-taken-init g c = taken_none c.requires.stands c.requires.served c.requires.collecting

pub loop-taken-preserved : goal.loop-taken-preserved
loop-taken-preserved g c = taken_more c.loop-taken.invariant (c.take_one.ensures.took c.if-not-take_one.false)
