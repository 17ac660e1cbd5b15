use Rattle.std.proofs.Common.{◌∙◌, sym, refl, ap, true, false, ◌||◌, arith}
use Rattle.vx_record.specs.SinkBatches.{is_last_batch}
use Rattle.vx_ready.proofs.Closed.{closed_some}
use Rattle.vx_ready.proofs.Knowing.{going, owes_none}
use Rattle.vx_moves.proofs.Merging.{sink_alone}
use Rattle.vx_ready.proofs.batches.is_batch_closed.Goals as goal

pub count_held-held-requires-clause-alone : goal.count_held-held-requires-clause-alone
count_held-held-requires-clause-alone g c = sink_alone c.args.engine.now.log c.args.i c.requires.sink

pub returns-then-due : goal.returns-then-due
returns-then-due g c =
    let bare = owes_none g.P.Port.observed c.args.engine.now c.requires.stands c.args.i c.get-state.result.now c.get-state.ensures c.requires.settled in
    let goes = going g.P.Port.observed c.args.engine.now c.requires.stands c.args.i c.get-state.result.now c.get-state.ensures c.requires.settled in
    c.if-due.true ∙ closed_some g.P.Port.observed c.args.engine.now c.requires.stands c.args.i c.get-state.result.now c.get-state.ensures bare goes c.requires.sink (omega (arith, c.if-held-eq0.false, c.count_held-held.ensures))
    c.args.now c.count_held-held.result c.is_full_or_old-full.result true (is_last_batch c.args.engine.now.log c.args.i) c.count_held-held.ensures c.is_full_or_old-full.ensures
    (sym c.if-due.true ∙ c.either-due.ensures ∙ ap (λ b. c.is_full_or_old-full.result || b) c.failed_before.ensures) refl

pub returns-else-due : goal.returns-else-due
returns-else-due g c =
    let bare = owes_none g.P.Port.observed c.args.engine.now c.requires.stands c.args.i c.get-state.result.now c.get-state.ensures c.requires.settled in
    let goes = going g.P.Port.observed c.args.engine.now c.requires.stands c.args.i c.get-state.result.now c.get-state.ensures c.requires.settled in
    closed_some g.P.Port.observed c.args.engine.now c.requires.stands c.args.i c.get-state.result.now c.get-state.ensures bare goes c.requires.sink (omega (arith, c.if-held-eq0.false, c.count_held-held.ensures))
    c.args.now c.count_held-held.result c.is_full_or_old-full.result false c.is_last.result c.count_held-held.ensures c.is_full_or_old-full.ensures
    (sym c.if-due.false ∙ c.either-due.ensures ∙ ap (λ b. c.is_full_or_old-full.result || b) c.failed_before.ensures) c.is_last.ensures
