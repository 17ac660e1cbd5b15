use Rattle.vx_ready.proofs.Closed.{retries_at}
use Rattle.vx_ready.proofs.Knowing.{going, owes_none}
use Rattle.vx_ready.proofs.batches.retry_from.Goals as goal

pub returns : goal.returns
returns g c =
    let bare = owes_none g.P.Port.observed c.args.engine.now c.requires.stands c.args.i c.get-state.result.now c.get-state.ensures c.requires.settled in
    let goes = going g.P.Port.observed c.args.engine.now c.requires.stands c.args.i c.get-state.result.now c.get-state.ensures c.requires.settled in
    retries_at g.P.Port.observed c.args.engine.now c.requires.stands c.args.i c.get-state.result.now c.get-state.ensures bare goes c.requires.sink c.requires.filled c.schedule_of-schedule.result c.retry_moment.result c.schedule_of-schedule.ensures c.retry_moment.ensures
