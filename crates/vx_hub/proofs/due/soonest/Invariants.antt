use Rattle.vx_hub.specs.Waiting.{IsSoonest}
use Rattle.vx_hub.proofs.due.soonest.Given as goal

abbrev pub invariant-loop-i : goal.invariant-loop-i
invariant-loop-i g l = IsSoonest l.engine l.i l.soonest
