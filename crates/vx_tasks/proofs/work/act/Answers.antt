use Rattle.vx_tasks.proofs.work.act.Goals as goal

pub returns-in-Read-Source-clause-observed : goal.returns-in-Read-Source-clause-observed
returns-in-Read-Source-clause-observed g c h i ported observed = c.read.ensures.observed h i c.args.held.now.items (rw c.in-Read-Source.is-1 at ported) observed

pub returns-in-Read-Generator-clause-observed : goal.returns-in-Read-Generator-clause-observed
returns-in-Read-Generator-clause-observed g c h i ported observed =
    c.make.ensures.observed (g.P.Port.observed c.args.port.now) h i c.args.held.now.items (rw c.in-Read-Generator.is-1 at ported) observed

pub returns-in-Attempt-Sink-clause-observed : goal.returns-in-Attempt-Sink-clause-observed
returns-in-Attempt-Sink-clause-observed g c h i ported observed = c.send.ensures.observed h i (rw c.in-Attempt-Sink.is-1 at ported) observed

pub returns-in-Attempt-Blackhole-clause-observed : goal.returns-in-Attempt-Blackhole-clause-observed
returns-in-Attempt-Blackhole-clause-observed g c h i ported observed =
    c.write_nothing.ensures.observed (g.P.Port.observed c.args.port.now) h i c.args.held.now.items (rw c.in-Attempt-Blackhole.is-1 at ported) observed
