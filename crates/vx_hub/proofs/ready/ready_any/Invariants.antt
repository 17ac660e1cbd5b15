use Rattle.vx_hub.proofs.Leases.{NoneBelow}
use Rattle.vx_hub.proofs.ready.ready_any.Given as goal

abbrev pub invariant-loop-i : goal.invariant-loop-i
invariant-loop-i g l = NoneBelow l.engine l.now l.i
