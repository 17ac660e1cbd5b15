use Rattle.std.proofs.Common.{◌≡◌, ◌∙◌, true, false, sym}
use Rattle.std.proofs.lemmas.Option.{IfSome_then}
use Rattle.vx_ready.proofs.Working.{none_map, some_then, source_so, source_works, source_leased, source_none, transform_so, transform_works, transform_leased, transform_none, sink_so, sink_works, sink_leased, sink_none}
use Rattle.vx_ready.proofs.jobs.first_job.Goals as goal

pub returns-then-merges-clause-none : goal.returns-then-merges-clause-none
returns-then-merges-clause-none g c settled open_at alone = let no : true ≡ false = sym c.if-merges.true ∙ c.merges.ensures ∙ alone in cc

pub source_job-requires-clause-source : goal.source_job-requires-clause-source
source_job-requires-clause-source g c = source_so g.P.Port.observed c.args.engine.now c.requires.stands c.args.i c.get.result.now c.get.ensures c.in-Source.is

pub returns-in-Source-clause-some : goal.returns-in-Source-clause-some
returns-in-Source-clause-some g c = IfSome_then c.source_job.result c.source_job.ensures.some (λ job does.
    source_works g.P.Port.observed c.args.engine.now c.requires.stands c.args.i c.get.result.now c.get.ensures (c.is_settled.ensures.settled c.if-not-is_settled.false) (c.is_open.ensures.open c.if-not-is_open.false) c.args.now job c.in-Source.is does)

pub returns-in-Source-clause-leasable : goal.returns-in-Source-clause-leasable
returns-in-Source-clause-leasable g c = IfSome_then c.source_job.result c.source_job.ensures.some (λ job does.
    source_leased g.P.Port.observed c.args.engine.now c.requires.stands c.args.i c.get.result.now c.get.ensures (c.is_settled.ensures.settled c.if-not-is_settled.false) (c.is_open.ensures.open c.if-not-is_open.false) c.args.now job c.in-Source.is does)

pub returns-in-Source-clause-alone : goal.returns-in-Source-clause-alone
returns-in-Source-clause-alone g c = some_then c.source_job.result (sym c.merges.ensures ∙ c.if-merges.false)

pub returns-in-Source-clause-none : goal.returns-in-Source-clause-none
returns-in-Source-clause-none g c settled open_at alone = none_map _ _ c.source_job.result
    (source_none g.P.Port.observed c.args.engine.now c.requires.stands c.args.i c.get.result.now c.get.ensures settled open_at c.args.now c.in-Source.is) c.source_job.ensures.none

pub transform_job-requires-clause-alone : goal.transform_job-requires-clause-alone
transform_job-requires-clause-alone g c = sym c.merges.ensures ∙ c.if-merges.false

pub transform_job-requires-clause-transform : goal.transform_job-requires-clause-transform
transform_job-requires-clause-transform g c = transform_so g.P.Port.observed c.args.engine.now c.requires.stands c.args.i c.get.result.now c.get.ensures c.in-Transform.is

pub returns-in-Transform-clause-some : goal.returns-in-Transform-clause-some
returns-in-Transform-clause-some g c = IfSome_then c.transform_job.result c.transform_job.ensures.some (λ job does.
    transform_works g.P.Port.observed c.args.engine.now c.requires.stands c.args.i c.get.result.now c.get.ensures (c.is_settled.ensures.settled c.if-not-is_settled.false) (c.is_open.ensures.open c.if-not-is_open.false) c.args.now job c.in-Transform.is does)

pub returns-in-Transform-clause-leasable : goal.returns-in-Transform-clause-leasable
returns-in-Transform-clause-leasable g c = IfSome_then c.transform_job.result c.transform_job.ensures.some (λ job does.
    transform_leased g.P.Port.observed c.args.engine.now c.requires.stands c.args.i c.get.result.now c.get.ensures (c.is_settled.ensures.settled c.if-not-is_settled.false) (c.is_open.ensures.open c.if-not-is_open.false) c.args.now job c.in-Transform.is does)

pub returns-in-Transform-clause-alone : goal.returns-in-Transform-clause-alone
returns-in-Transform-clause-alone g c = some_then c.transform_job.result (sym c.merges.ensures ∙ c.if-merges.false)

pub returns-in-Transform-clause-none : goal.returns-in-Transform-clause-none
returns-in-Transform-clause-none g c settled open_at alone = none_map _ _ c.transform_job.result
    (transform_none g.P.Port.observed c.args.engine.now c.requires.stands c.args.i c.get.result.now c.get.ensures settled open_at c.args.now c.in-Transform.is) c.transform_job.ensures.none

pub sink_job-requires-clause-sink : goal.sink_job-requires-clause-sink
sink_job-requires-clause-sink g c = sink_so g.P.Port.observed c.args.engine.now c.requires.stands c.args.i c.get.result.now c.get.ensures c.in-Sink.is

pub returns-in-Sink-clause-some : goal.returns-in-Sink-clause-some
returns-in-Sink-clause-some g c = IfSome_then c.sink_job.result c.sink_job.ensures.some (λ job does.
    sink_works g.P.Port.observed c.args.engine.now c.requires.stands c.args.i c.get.result.now c.get.ensures (c.is_settled.ensures.settled c.if-not-is_settled.false) (c.is_open.ensures.open c.if-not-is_open.false) c.args.now job c.in-Sink.is does)

pub returns-in-Sink-clause-leasable : goal.returns-in-Sink-clause-leasable
returns-in-Sink-clause-leasable g c = IfSome_then c.sink_job.result c.sink_job.ensures.some (λ job does.
    sink_leased g.P.Port.observed c.args.engine.now c.requires.stands c.args.i c.get.result.now c.get.ensures (c.is_settled.ensures.settled c.if-not-is_settled.false) (c.is_open.ensures.open c.if-not-is_open.false) c.args.now job c.in-Sink.is does)

pub returns-in-Sink-clause-alone : goal.returns-in-Sink-clause-alone
returns-in-Sink-clause-alone g c = some_then c.sink_job.result (sym c.merges.ensures ∙ c.if-merges.false)

pub returns-in-Sink-clause-none : goal.returns-in-Sink-clause-none
returns-in-Sink-clause-none g c settled open_at alone = none_map _ _ c.sink_job.result
    (sink_none g.P.Port.observed c.args.engine.now c.requires.stands c.args.i c.get.result.now c.get.ensures settled open_at c.args.now c.in-Sink.is) c.sink_job.ensures.none
