use Rattle.vx_moves.specs.Merging.{SpendsDiscarded}
use Rattle.vx_moves.specs.Spends.{unspent}
use Rattle.vx_moves.proofs.engine.EngineState.spend_discarded.Given as goal

abbrev pub invariant-loop : goal.invariant-loop
invariant-loop g l = SpendsDiscarded g.P.Port.observed l.i l.fn.self l.self

abbrev pub decreases-loop : goal.decreases-loop
decreases-loop g l = unspent l.self.log
