use Rattle.std.proofs.Common.{[], ◌∷◌, refl}
use Rattle.vx_condition.specs.Steps.{ticks}
use Rattle.vx_record.specs.declared.entry.Entry.TheVariants.{Tick}
use Rattle.vx_record.proofs.Adding.{adds_both, adds_none, adds_one}
use Rattle.vx_moves.specs.Keepers.{keeper_at}
use Rattle.vx_moves.specs.Merging.{IsMergeOf}
use Rattle.vx_moves.proofs.Discarding.{answered_only, none_waits_then, noted_answer, noted_joins}
use Rattle.vx_moves.proofs.Merging.{due_runs, failed_kept, fit_both, fit_then, keeper_there, made_fit, on_error, one_wider, tick_made, tick_waits, ticked}
use Rattle.vx_moves.proofs.engine.EngineState.merge_tick.Goals as goal

pub tick-requires-clause-there : goal.tick-requires-clause-there
tick-requires-clause-there g c =
    let d = c.args.self.now in
    keeper_there d.keepers.items d.places d.log c.args.i c.requires.stands.keepers c.requires.may.joins

pub returns-in_err-tick-clause-stands : goal.returns-in_err-tick-clause-stands
returns-in_err-tick-clause-stands g c = failed_kept c.args.i c.requires.stands c.in_err-tick.ensures.short

pub reserve_made-requires-clause-fit : goal.reserve_made-requires-clause-fit
reserve_made-requires-clause-fit g c =
    let d = c.args.self.now in
    let i = c.args.i in
    let made = tick_made {slots = c.tick.new.keepers} i c.requires.stands c.args.now c.in_ok-tick.ensures.made c.requires.none in
    made_fit d.log i (record { step = ticks c.args.now; copies = [] } ∷ []) (keeper_at c.tick.new.keepers.items i) made.keeps.made

pub returns-in_err-reserve_made-clause-stands : goal.returns-in_err-reserve_made-clause-stands
returns-in_err-reserve_made-clause-stands g c =
    c.in_err-reserve_made.ensures.short (record { step = ticks c.args.now; copies = [] } ∷ [])
    (tick_made c.args.i c.requires.stands c.args.now c.in_ok-tick.ensures.made c.requires.none) c.requires.may.unticked

pub note_made-requires-clause-made : goal.note_made-requires-clause-made
note_made-requires-clause-made g c =
    let i = c.args.i in
    let made = c.in_ok-reserve_made.ensures.made (record { step = ticks c.args.now; copies = [] } ∷ [])
    (tick_made i c.requires.stands c.args.now c.in_ok-tick.ensures.made c.requires.none) in
    let same = c.reserve_made.ensures.unchanged in
    rw c.note.ensures (ticked i c.args.now made (rw same c.requires.may) (rw same c.requires.due) (rw same c.requires.none))

pub note_made-requires-clause-may : goal.note_made-requires-clause-may
note_made-requires-clause-may g c =
    let h = c.args.self.now.log in
    let i = c.args.i in
    let may = c.requires.may in
    let same = c.reserve_made.ensures.unchanged in
    record {
      joins = rw (c.note.ensures, same) may.joins;
      going = rw (c.note.ensures, same) may.going;
      out = rw (c.note.ensures, same) may.out;
      runs = rw (c.note.ensures, same) (due_runs h i c.args.now c.requires.due);
      flush = λ none. absurd (tick_waits h i c.args.now (rw (c.note.ensures, same) at none));
    }

pub spend_discarded-requires-clause-joins : goal.spend_discarded-requires-clause-joins
spend_discarded-requires-clause-joins g c =
    let k = c.reserve_made.new.self.keepers.items in
    noted_joins c.note.new.self c.note_made.new.self.log c.args.i c.args.i (keeper_at k c.args.i) c.note_made.ensures.noted
    (rw (c.note.ensures, c.reserve_made.ensures.unchanged) c.requires.may.joins)

pub returns-clause-only : goal.returns-clause-only
returns-clause-only g c =
    let h = c.args.self.now.log in
    let i = c.args.i in
    let e = Tick i c.args.now in
    let k = c.reserve_made.new.self.keepers.items in
    let same = c.reserve_made.ensures.unchanged in
    let made = c.in_ok-reserve_made.ensures.made (record { step = ticks c.args.now; copies = [] } ∷ [])
    (tick_made i c.requires.stands c.args.now c.in_ok-tick.ensures.made c.requires.none) in
    let legal = rw same at ((ticked i c.args.now made (rw same c.requires.may) (rw same c.requires.due) (rw same c.requires.none)).legal) in
    let one = adds_one (IsMergeOf i) h h (e ∷ h) e (adds_none (IsMergeOf i) h h refl) legal.0 refl refl in
    let answer = answered_only c.note.new.self c.note_made.new.self.log c.spend_discarded.new.self.log i c.note_made.ensures.stands.legal c.spend_discarded.ensures.only
    (keeper_at k i) c.note_made.ensures.noted in
    adds_both (IsMergeOf i) h (e ∷ h) c.spend_discarded.new.self.log one (rw (c.note.ensures, same) at answer)

pub returns-clause-noted : goal.returns-clause-noted
returns-clause-noted g c =
    let k = c.reserve_made.new.self.keepers.items in
    rw (c.note.ensures, c.reserve_made.ensures.unchanged) at
    (noted_answer c.note.new.self c.note_made.new.self.log c.spend_discarded.new.self.log c.args.i c.note_made.ensures.stands.legal c.spend_discarded.ensures.only
    (keeper_at k c.args.i) c.note_made.ensures.noted c.spend_discarded.ensures.spent)

pub returns-clause-answered : goal.returns-clause-answered
returns-clause-answered g c =
    none_waits_then c.args.i c.note_made.new.self.log c.spend_discarded.new.self.log c.spend_discarded.ensures.only c.note_made.ensures.answered

pub returns-clause-fit : goal.returns-clause-fit
returns-clause-fit g c =
    let i = c.args.i in
    let noted = rw c.in_ok-reserve_made.ensures.kept at c.note_made.ensures.fit in
    let first = fit_both i c.args.self.now.keepers.items c.tick.new.keepers.items c.note_made.new.self.keepers.items (λ was is acts. acts.stays)
    c.in_ok-tick.ensures.made noted in
    fit_both i c.args.self.now.keepers.items c.note_made.new.self.keepers.items c.spend_discarded.new.self.keepers.items (λ was is stays. stays) first c.spend_discarded.ensures.fit

pub returns-in_err-tick-clause-unfit : goal.returns-in_err-tick-clause-unfit
returns-in_err-tick-clause-unfit g c =
    on_error c.from_residual.result (one_wider c.args.i c.args.self.now.keepers.items c.tick.new.keepers.items (λ was is fails. fails.gets) c.in_err-tick.ensures.short)

pub returns-in_err-reserve_made-clause-unfit : goal.returns-in_err-reserve_made-clause-unfit
returns-in_err-reserve_made-clause-unfit g c =
    on_error c.from_residual-in_err-reserve_made.result (fit_then c.args.i c.args.self.now.keepers.items c.tick.new.keepers.items c.reserve_made.new.self.keepers.items (λ was is acts. acts.stays) c.in_ok-tick.ensures.made
    c.in_err-reserve_made.ensures.fails)
