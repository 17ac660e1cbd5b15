use Rattle.vx_ready.proofs.Closed.{closed_filled}
use Rattle.vx_ready.proofs.Working.{attempts_there, waiting_there}
use Rattle.vx_ready.proofs.jobs.attempt_job.Goals as goal

pub retry_from-requires-clause-filled : goal.retry_from-requires-clause-filled
retry_from-requires-clause-filled g c = closed_filled c.args.engine.now.log c.args.i c.args.now c.requires.closed

pub returns-then-retry_from-now-clause-some : goal.returns-then-retry_from-now-clause-some
returns-then-retry_from-now-clause-some g c = attempts_there c.args.engine.now.log c.args.i c.args.now c.retry_from.result c.requires.closed c.retry_from.ensures c.if-retry_from-now.true

pub returns-clause-none : goal.returns-clause-none
returns-clause-none g c = waiting_there c.args.engine.now.log c.args.i c.args.now c.retry_from.result c.requires.sink c.requires.closed c.retry_from.ensures c.if-retry_from-now.false
