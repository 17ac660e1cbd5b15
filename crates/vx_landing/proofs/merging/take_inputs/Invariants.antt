use Rattle.vx_landing.specs.Merging.{HasTakenSome}
use Rattle.vx_landing.proofs.merging.take_inputs.Given as goal

abbrev pub invariant-loop-taken : goal.invariant-loop-taken
invariant-loop-taken g l = HasTakenSome g.P.Port.observed l.i l.now l.taken l.fn.engine l.engine
