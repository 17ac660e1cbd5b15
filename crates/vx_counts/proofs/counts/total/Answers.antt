use Rattle.vx_counts.proofs.Totals.{total_more}
use Rattle.vx_counts.proofs.counts.total.Goals as goal

pub loop-position-preserved : goal.loop-position-preserved
loop-position-preserved c =
    total_more c.args.positions.now c.loop-position.position-index (record { stream = 0; end = 0 }) c.loop-position.total c.saturating_add-total.result
    c.loop-position-test.true c.loop-position.invariant c.saturating_add-total.ensures
