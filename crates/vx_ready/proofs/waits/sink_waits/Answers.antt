use Rattle.std.proofs.Common.{◌∙◌, sym, ap, ◌<◌, ◌||◌, length, arith}
use Rattle.vx_record.specs.Lists.{held}
use Rattle.vx_ready.proofs.Closed.{ready_is, waits_again, waits_ended, waits_for_none}
use Rattle.vx_ready.proofs.Knowing.{going, owes_none}
use Rattle.vx_moves.proofs.Merging.{sink_alone}
use Rattle.vx_ready.proofs.waits.sink_waits.Goals as goal

pub count_held-held-requires-clause-alone : goal.count_held-held-requires-clause-alone
count_held-held-requires-clause-alone g c = sink_alone c.args.engine.now.log c.args.i c.requires.sink

pub returns-then-held-eq0 : goal.returns-then-held-eq0
returns-then-held-eq0 g c = waits_for_none c.args.engine.now.log c.args.i c.count_held-held.result c.count_held-held.ensures c.if-held-eq0.true

pub returns-then-ready : goal.returns-then-ready
returns-then-ready g c =
    let bare = owes_none g.P.Port.observed c.args.engine.now c.requires.stands c.args.i c.get-state.result.now c.get-state.ensures c.requires.settled in
    let goes = going g.P.Port.observed c.args.engine.now c.requires.stands c.args.i c.get-state.result.now c.get-state.ensures c.requires.settled in
    let filled : 0 < length (held c.args.engine.now.log c.args.i) = omega (arith, c.if-held-eq0.false, c.count_held-held.ensures) in
    waits_again g.P.Port.observed c.args.engine.now c.requires.stands c.args.i c.get-state.result.now c.get-state.ensures bare goes c.requires.sink filled c.retry_from.result c.retry_from.ensures
    (sym c.if-ready.true ∙ ready_is g.P.Port.observed c.args.engine.now c.requires.stands c.args.i c.get-state.result.now c.get-state.ensures bare goes c.requires.sink filled c.count_held-held.result c.is_full-full.result c.either-due.result c.either-ready.result c.is_last.result
    c.count_held-held.ensures c.is_full-full.ensures (c.either-due.ensures ∙ ap (λ b. c.is_full-full.result || b) c.failed_before.ensures) c.is_last.ensures c.either-ready.ensures)

pub returns : goal.returns
returns g c =
    let bare = owes_none g.P.Port.observed c.args.engine.now c.requires.stands c.args.i c.get-state.result.now c.get-state.ensures c.requires.settled in
    let goes = going g.P.Port.observed c.args.engine.now c.requires.stands c.args.i c.get-state.result.now c.get-state.ensures c.requires.settled in
    let filled : 0 < length (held c.args.engine.now.log c.args.i) = omega (arith, c.if-held-eq0.false, c.count_held-held.ensures) in
    waits_ended g.P.Port.observed c.args.engine.now c.requires.stands c.args.i c.get-state.result.now c.get-state.ensures bare goes c.requires.sink filled c.times_out.result c.times_out.ensures
    (sym c.if-ready.false ∙ ready_is g.P.Port.observed c.args.engine.now c.requires.stands c.args.i c.get-state.result.now c.get-state.ensures bare goes c.requires.sink filled c.count_held-held.result c.is_full-full.result c.either-due.result c.either-ready.result c.is_last.result
    c.count_held-held.ensures c.is_full-full.ensures (c.either-due.ensures ∙ ap (λ b. c.is_full-full.result || b) c.failed_before.ensures) c.is_last.ensures c.either-ready.ensures)
