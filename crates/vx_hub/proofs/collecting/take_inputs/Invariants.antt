use Rattle.vx_hub.proofs.Gathering.{HasGatheredSome}
use Rattle.vx_hub.proofs.collecting.take_inputs.Given as goal

abbrev pub invariant-loop : goal.invariant-loop
invariant-loop g l = HasGatheredSome g.P.Port.observed l.i l.now l.counter l.fn.engine l.engine
