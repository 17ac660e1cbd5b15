use Rattle.vx_moves.specs.Spends.{unspent}
use Rattle.vx_moves.proofs.GivingUp.{GivesUpKept}
use Rattle.vx_moves.proofs.engine.EngineState.give_up_keeper.Given as goal

abbrev pub invariant-loop : goal.invariant-loop
invariant-loop g l = GivesUpKept g.P.Port.observed l.i l.fn.self l.self

abbrev pub decreases-loop : goal.decreases-loop
decreases-loop g l = unspent l.self.log
