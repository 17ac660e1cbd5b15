use Rattle.vx_tasks.proofs.Saying.{observed_closed}
use Rattle.vx_tasks.proofs.work.close.Goals as goal

pub returns-clause-observed : goal.returns-clause-observed
returns-clause-observed g c h i observed = observed_closed (g.P.Port.observed c.args.port.now) (g.P.Port.observed c.close.new.self) h i c.close.ensures.bytes c.close.ensures.counts observed
