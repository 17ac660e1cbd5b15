use Rattle.std.proofs.Common.{◌∙◌}
use Rattle.vx_ready.proofs.Working.{some_then, sink_so, source_until, transform_until, sink_until}
use Rattle.vx_ready.proofs.waits.waits_until.Goals as goal

pub returns-in-Source-clause-waits : goal.returns-in-Source-clause-waits
returns-in-Source-clause-waits g c settled open_at = c.source_waits.ensures ∙ source_until g.P.Port.observed c.args.engine.now c.requires.stands c.args.i c.get.result.now c.get.ensures c.in-Source.is

pub returns-in-Source-clause-settled : goal.returns-in-Source-clause-settled
returns-in-Source-clause-settled g c = some_then c.source_waits.result (c.is_settled.ensures.settled c.if-not-is_settled.false)

pub returns-in-Source-clause-open : goal.returns-in-Source-clause-open
returns-in-Source-clause-open g c = some_then c.source_waits.result (c.is_open.ensures.open c.if-not-is_open.false)

pub returns-in-Transform-clause-waits : goal.returns-in-Transform-clause-waits
returns-in-Transform-clause-waits g c settled open_at = transform_until g.P.Port.observed c.args.engine.now c.requires.stands c.args.i c.get.result.now c.get.ensures c.in-Transform.is

pub sink_waits-requires-clause-sink : goal.sink_waits-requires-clause-sink
sink_waits-requires-clause-sink g c = sink_so g.P.Port.observed c.args.engine.now c.requires.stands c.args.i c.get.result.now c.get.ensures c.in-Sink.is

pub returns-in-Sink-clause-waits : goal.returns-in-Sink-clause-waits
returns-in-Sink-clause-waits g c settled open_at = c.sink_waits.ensures ∙ sink_until g.P.Port.observed c.args.engine.now c.requires.stands c.args.i c.get.result.now c.get.ensures c.in-Sink.is

pub returns-in-Sink-clause-settled : goal.returns-in-Sink-clause-settled
returns-in-Sink-clause-settled g c = some_then c.sink_waits.result (c.is_settled.ensures.settled c.if-not-is_settled.false)

pub returns-in-Sink-clause-open : goal.returns-in-Sink-clause-open
returns-in-Sink-clause-open g c = some_then c.sink_waits.result (c.is_open.ensures.open c.if-not-is_open.false)
