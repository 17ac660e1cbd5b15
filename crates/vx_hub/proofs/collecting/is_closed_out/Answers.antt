use Rattle.std.proofs.Common.{◌∙◌, sym, refl, true, false, arith}
use Rattle.vx_record.specs.SinkBatches.{is_last_batch}
use Rattle.vx_ready.specs.Jobs.{is_full_or_old}
use Rattle.vx_ready.proofs.Closed.{closed_some}
use Rattle.vx_hub.proofs.collecting.is_closed_out.Goals as goal

pub returns-then-due : goal.returns-then-due
returns-then-due g c =
    let engine = c.args.engine.now in
    let state = c.get-state.result.now in
    let clear = c.requires.clear in
    let held = c.count_held-held.result in
    c.if-due.true ∙ closed_some g.P.Port.observed engine c.requires.stands c.args.i state c.get-state.ensures clear.settled clear.going clear.sink (omega (arith, c.if-held-eq0.false, c.count_held-held.ensures))
    c.args.now held (is_full_or_old state.batching state.facts.since held c.args.now) true (is_last_batch engine.log c.args.i) c.count_held-held.ensures refl (sym c.if-due.true ∙ c.is_due-due.ensures) refl

pub returns-else-due : goal.returns-else-due
returns-else-due g c =
    let state = c.get-state.result.now in
    let clear = c.requires.clear in
    let held = c.count_held-held.result in
    closed_some g.P.Port.observed c.args.engine.now c.requires.stands c.args.i state c.get-state.ensures clear.settled clear.going clear.sink (omega (arith, c.if-held-eq0.false, c.count_held-held.ensures))
    c.args.now held (is_full_or_old state.batching state.facts.since held c.args.now) false c.is_last.result c.count_held-held.ensures refl (sym c.if-due.false ∙ c.is_due-due.ensures) c.is_last.ensures
