use Rattle.std.proofs.Common.{List, [], ◌∷◌, Option, sym, subst}
use Rattle.vx_record.specs.Answering.{MayFlush}
use Rattle.vx_keeping.specs.Answers.{kept_behind}
use Rattle.vx_keeping.specs.Kept.{Kept}
use Rattle.vx_record.specs.Inputs.{flush}
use Rattle.vx_keeping.proofs.Answering.{to_answer_flush}
use Rattle.vx_moves.specs.Keepers.{keeper_at, IsKeeper}
use Rattle.vx_moves.proofs.Discarding.{answered_only, none_waits_then, noted_flush, noted_joins}
use Rattle.vx_moves.proofs.Merging.{failed_kept, fit_both, fit_then, flush_made, flushed_all, keeper_there, made_fit, made_runs, on_error, one_wider}
use Rattle.vx_moves.proofs.engine.EngineState.merge_flush.Goals as goal

pub flush-requires-clause-there : goal.flush-requires-clause-there
flush-requires-clause-there g c =
    let d = c.args.self.now in
    keeper_there d.keepers.items d.places d.log c.args.i c.requires.stands.keepers c.requires.may.joins

pub returns-in_err-flush-clause-stands : goal.returns-in_err-flush-clause-stands
returns-in_err-flush-clause-stands g c = failed_kept c.args.i c.requires.stands c.in_err-flush.ensures.short

pub reserve_made-requires-clause-fit : goal.reserve_made-requires-clause-fit
reserve_made-requires-clause-fit g c =
    let d = c.args.self.now in
    let i = c.args.i in
    let none = (to_answer_flush d.log i c.requires.none).0 in
    let made = flush_made {slots = c.flush.new.keepers} i c.requires.stands c.in_ok-flush.ensures.made none in
    made_fit d.log i (flush ∷ []) (keeper_at c.flush.new.keepers.items i) made.keeps.made

pub returns-in_err-reserve_made-clause-stands : goal.returns-in_err-reserve_made-clause-stands
returns-in_err-reserve_made-clause-stands g c =
    let i = c.args.i in
    let none = (to_answer_flush c.args.self.now.log i c.requires.none).0 in
    c.in_err-reserve_made.ensures.short (flush ∷ []) (flush_made i c.requires.stands c.in_ok-flush.ensures.made none) c.requires.may.unticked

pub note_made-requires-clause-made : goal.note_made-requires-clause-made
note_made-requires-clause-made g c =
    let i = c.args.i in
    let given = to_answer_flush c.args.self.now.log i c.requires.none in
    rw (c.reserve_made.ensures.unchanged, given.1)
    (rw c.reserve_made.ensures.unchanged at
    (c.in_ok-reserve_made.ensures.made (flush ∷ []) (flush_made i c.requires.stands c.in_ok-flush.ensures.made given.0)))

pub note_made-requires-clause-may : goal.note_made-requires-clause-may
note_made-requires-clause-may g c =
    let d = c.args.self.now in
    let i = c.args.i in
    let may = c.requires.may in
    let given = to_answer_flush d.log i c.requires.none in
    let made = flush_made {slots = c.flush.new.keepers} i c.requires.stands c.in_ok-flush.ensures.made given.0 in
    let same = c.reserve_made.ensures.unchanged in
    let kept = c.in_ok-reserve_made.ensures.kept in
    let o = keeper_at c.flush.new.keepers.items i in
    record {
      joins = rw same may.joins;
      going = rw same may.going;
      out = rw same may.out;
      runs = rw same (made_runs d.log i o c.requires.stands.legal (rw given.1 made.keeps.made) c.requires.holds);
      flush = λ _. rw same
          (subst (λ (slots : List (Option Kept)). IsKeeper (λ k. MayFlush d.log i (kept_behind d.log i k.shelf.outputs k.discarded)) slots i) (sym {A = List (Option Kept)} kept)
          (flushed_all d.log i o c.requires.stands.legal made.keeps.made c.in_ok-flush.ensures.none c.requires.last));
    }

pub spend_discarded-requires-clause-joins : goal.spend_discarded-requires-clause-joins
spend_discarded-requires-clause-joins g c =
    let k = c.reserve_made.new.self in
    noted_joins k.log c.note_made.new.self.log c.args.i c.args.i (keeper_at k.keepers.items c.args.i) c.note_made.ensures.noted (rw c.reserve_made.ensures.unchanged c.requires.may.joins)

pub returns-clause-only : goal.returns-clause-only
returns-clause-only g c =
    let k = c.reserve_made.new.self in
    rw c.reserve_made.ensures.unchanged at
    (answered_only k.log c.note_made.new.self.log c.spend_discarded.new.self.log c.args.i c.note_made.ensures.stands.legal c.spend_discarded.ensures.only
    (keeper_at k.keepers.items c.args.i) c.note_made.ensures.noted)

pub returns-clause-noted : goal.returns-clause-noted
returns-clause-noted g c =
    let d = c.args.self.now in
    let i = c.args.i in
    let o = keeper_at c.flush.new.keepers.items i in
    let made = flush_made {slots = c.flush.new.keepers} i c.requires.stands c.in_ok-flush.ensures.made (to_answer_flush d.log i c.requires.none).0 in
    let may = flushed_all d.log i o c.requires.stands.legal made.keeps.made c.in_ok-flush.ensures.none c.requires.last in
    noted_flush d.log c.note_made.new.self.log c.spend_discarded.new.self.log i c.note_made.ensures.stands.legal c.spend_discarded.ensures.only o c.spend_discarded.ensures.stands.legal
    (rw (c.reserve_made.ensures.unchanged, c.in_ok-reserve_made.ensures.kept) at c.note_made.ensures.noted) may c.spend_discarded.ensures.spent

pub returns-clause-answered : goal.returns-clause-answered
returns-clause-answered g c =
    none_waits_then c.args.i c.note_made.new.self.log c.spend_discarded.new.self.log c.spend_discarded.ensures.only c.note_made.ensures.answered

pub returns-clause-fit : goal.returns-clause-fit
returns-clause-fit g c =
    let i = c.args.i in
    let noted = rw c.in_ok-reserve_made.ensures.kept at c.note_made.ensures.fit in
    let first = fit_both i c.args.self.now.keepers.items c.flush.new.keepers.items c.note_made.new.self.keepers.items (λ was is flushes. flushes.stays)
    c.in_ok-flush.ensures.made noted in
    fit_both i c.args.self.now.keepers.items c.note_made.new.self.keepers.items c.spend_discarded.new.self.keepers.items (λ was is stays. stays) first c.spend_discarded.ensures.fit

pub returns-in_err-flush-clause-unfit : goal.returns-in_err-flush-clause-unfit
returns-in_err-flush-clause-unfit g c =
    on_error c.from_residual.result (one_wider c.args.i c.args.self.now.keepers.items c.flush.new.keepers.items (λ was is fails. fails.gets) c.in_err-flush.ensures.short)

pub returns-in_err-reserve_made-clause-unfit : goal.returns-in_err-reserve_made-clause-unfit
returns-in_err-reserve_made-clause-unfit g c =
    on_error c.from_residual-in_err-reserve_made.result (fit_then c.args.i c.args.self.now.keepers.items c.flush.new.keepers.items c.reserve_made.new.self.keepers.items (λ was is flushes. flushes.stays) c.in_ok-flush.ensures.made
    c.in_err-reserve_made.ensures.fails)
