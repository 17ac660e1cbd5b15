use Rattle.vx_moves.specs.Spends.{unspent}
use Rattle.vx_moves.proofs.Spending.{GivesUp}
use Rattle.vx_moves.proofs.engine.EngineState.give_up_buffer.Given as goal

abbrev pub invariant-loop : goal.invariant-loop
invariant-loop g l = GivesUp g.P.Port.observed l.i l.fn.self l.self

abbrev pub decreases-loop : goal.decreases-loop
decreases-loop g l = unspent l.self.log
