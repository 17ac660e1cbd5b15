use Rattle.std.proofs.Common.{◌∙◌, sym}
use Rattle.vx_ready.proofs.Working.{merge_there, no_inputs, unready_there, unsent_there}
use Rattle.vx_ready.proofs.Checking.{none_taken_there}
use Rattle.vx_ready.proofs.merging.can_merge.Goals as goal

pub returns-then-is_sent-clause-leasable : goal.returns-then-is_sent-clause-leasable
returns-then-is_sent-clause-leasable g c is =
    let r = c.requires in
    merge_there g.P.Port.observed c.args.engine.now r.stands c.args.i r.within (c.is_settled.ensures.settled c.if-not-is_settled.false) (c.is_open.ensures.open c.if-not-is_open.false)
    c.args.now r.joins (sym c.is_sent.ensures ∙ c.if-is_sent.true) (c.has_inputs.ensures.some is)

pub returns-then-is_sent-clause-none : goal.returns-then-is_sent-clause-none
returns-then-is_sent-clause-none g c off settled open_at = no_inputs c.args.engine.now.log c.args.i (c.has_inputs.ensures.none off)

pub returns-then-is_sent-clause-unready : goal.returns-then-is_sent-clause-unready
returns-then-is_sent-clause-unready g c off settled open_at =
    let r = c.requires in
    unready_there g.P.Port.observed c.args.engine.now r.stands c.args.i r.within settled open_at c.args.now r.joins
    (no_inputs c.args.engine.now.log c.args.i (c.has_inputs.ensures.none off))

pub returns-else-is_sent-clause-none : goal.returns-else-is_sent-clause-none
returns-else-is_sent-clause-none g c off settled open_at = unsent_there c.args.engine.now.log c.args.i (sym c.is_sent.ensures ∙ c.if-is_sent.false)

pub returns-else-is_sent-clause-unready : goal.returns-else-is_sent-clause-unready
returns-else-is_sent-clause-unready g c off settled open_at =
    let r = c.requires in
    unready_there g.P.Port.observed c.args.engine.now r.stands c.args.i r.within settled open_at c.args.now r.joins
    (unsent_there c.args.engine.now.log c.args.i (sym c.is_sent.ensures ∙ c.if-is_sent.false))

pub returns-then-is_sent-clause-early : goal.returns-then-is_sent-clause-early
returns-then-is_sent-clause-early g c off settled open_at fit host tick =
    let r = c.requires in
    c.has_inputs.ensures.early off fit host (none_taken_there g.P.Port.observed c.args.engine.now r.stands c.args.i r.within settled r.joins) tick.due

pub returns-else-is_sent-clause-early : goal.returns-else-is_sent-clause-early
returns-else-is_sent-clause-early g c off settled open_at fit host tick = let no = sym tick.sent ∙ (sym c.is_sent.ensures ∙ c.if-is_sent.false) in cc
