use Rattle.vx_moves.proofs.Spending.{spends_both}
use Rattle.vx_moves.proofs.engine.EngineState.give_up_keeper.Goals as goal

pub loop-preserved : goal.loop-preserved
loop-preserved g c =
    let one = c.give_up_kept.ensures in
    record { spent = spends_both c.loop.invariant.spent one.spent; over = one.over; unleased = one.unleased; joins = one.joins }

pub returns-clause-spent : goal.returns-clause-spent
returns-clause-spent g c = spends_both c.loop.invariant.spent c.give_up_kept.ensures.spent
