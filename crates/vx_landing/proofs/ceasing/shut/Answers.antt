use Rattle.vx_landing.proofs.Answering.{back_shut}
use Rattle.vx_landing.proofs.ceasing.shut.Goals as goal

pub returns-clause-back : goal.returns-clause-back
returns-clause-back g c f h i back =
    let e = c.close.ensures in back_shut g.P.Port.observed h i c.args.task.port c.close.new.self c.args.task.role (record { shut = e.closed; bytes = e.bytes; counts = e.counts }) f back
