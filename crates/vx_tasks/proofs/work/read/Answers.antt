use Rattle.vx_tasks.proofs.Saying.{turn_observed, observed_untaken}
use Rattle.vx_tasks.proofs.Tallying.{once_turned}
use Rattle.vx_tasks.proofs.work.read.Goals as goal

pub returns-in-Ok-clause-observed : goal.returns-in-Ok-clause-observed
returns-in-Ok-clause-observed g c h i parcels device observed = turn_observed (g.P.Port.observed c.args.port.now) (g.P.Port.observed c.turn.new.port) h i c.in-Ok.turned device c.in-Ok.ensures.did c.in-Ok.ensures.counts observed

pub returns-in-Err-clause-observed : goal.returns-in-Err-clause-observed
returns-in-Err-clause-observed g c h i parcels device observed = observed_untaken (g.P.Port.observed c.args.port.now) (g.P.Port.observed c.turn.new.port) h i c.in-Err.ensures.unmoved c.in-Err.ensures.uncounted observed

pub returns-in-Ok-clause-starts : goal.returns-in-Ok-clause-starts
returns-in-Ok-clause-starts g c = once_turned (g.P.Port.observed c.args.port.now) (g.P.Port.observed c.turn.new.port) c.in-Ok.turned c.in-Ok.ensures.counts
