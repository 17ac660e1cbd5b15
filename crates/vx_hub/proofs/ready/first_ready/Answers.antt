use Rattle.vx_record.specs.Installs.{sink_at, transform_at}
use Rattle.vx_hub.proofs.Unready.{none_of_class, none_at_all, first_transform, sink_unsourced, transform_unsourced, each_some, none_then}
use Rattle.vx_hub.proofs.ready.first_ready.Goals as goal

pub returns-in-Some-filled_of-clause-first : goal.returns-in-Some-filled_of-clause-first
returns-in-Some-filled_of-clause-first g c =
    let engine = c.args.engine.now in
    first_transform engine c.args.now c.in-Some-filled_of.ready.instance c.in-Some-filled_of.ensures.class
    (none_of_class c.requires.stands c.args.now (c.are_dry.ensures c.if-are_dry.false) sink_at (sink_unsourced engine.log) c.in_default.ensures.none)

pub returns-clause-first : goal.returns-clause-first
returns-clause-first g c =
    let engine = c.args.engine.now in
    let dry = c.are_dry.ensures c.if-are_dry.false in
    each_some c.ready_source.result (λ ready. record {
      sinks = λ off. none_of_class c.requires.stands c.args.now dry sink_at (sink_unsourced engine.log) c.in_default.ensures.none;
      transforms = λ is. none_of_class c.requires.stands c.args.now dry transform_at (transform_unsourced engine.log) c.in_default-filled_of.ensures.none;
    })

pub returns-clause-none : goal.returns-clause-none
returns-clause-none g c =
    let engine = c.args.engine.now in
    let dry = c.are_dry.ensures c.if-are_dry.false in
    none_then c.ready_source.result c.ready_source.ensures.none (λ none. none_at_all c.requires.stands c.args.sources.now c.requires.sources c.args.now c.requires.latest
    (none_of_class c.requires.stands c.args.now dry sink_at (sink_unsourced engine.log) c.in_default.ensures.none)
    (none_of_class c.requires.stands c.args.now dry transform_at (transform_unsourced engine.log) c.in_default-filled_of.ensures.none) none)
