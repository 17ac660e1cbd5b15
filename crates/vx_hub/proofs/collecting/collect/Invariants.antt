use Rattle.vx_hub.proofs.Leases.{HasCollected}
use Rattle.vx_hub.proofs.collecting.collect.Given as goal

abbrev pub invariant-loop-taken : goal.invariant-loop-taken
invariant-loop-taken g l = HasCollected g.P.Port.observed l.i l.now l.taken l.fn.engine l.engine
