use Rattle.vx_hub.specs.Ending.{GivesUpBelow}
use Rattle.vx_hub.proofs.ending.give_up_all.Given as goal

abbrev pub invariant-loop-i : goal.invariant-loop-i
invariant-loop-i g l = GivesUpBelow g.P.Port.observed l.i l.initial.engine l.engine
