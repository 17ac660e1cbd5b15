use Rattle.vx_keeping.specs.Keeping.{taken_in}
use Rattle.vx_keeping.proofs.Answering.{to_answer_taken}
use Rattle.vx_moves.specs.Keepers.{keeper_at}
use Rattle.vx_moves.proofs.Discarding.{answered_only, none_waits_then, noted_answer, noted_joins}
use Rattle.vx_moves.proofs.Merging.{failed_kept, fit_both, fit_then, keeper_there, made_fit, made_runs, on_error, one_wider, taken_made}
use Rattle.vx_moves.proofs.engine.EngineState.merge_taken.Goals as goal

pub answer-requires-clause-there : goal.answer-requires-clause-there
answer-requires-clause-there g c =
    let d = c.args.self.now in
    keeper_there d.keepers.items d.places d.log c.args.i c.requires.stands.keepers c.requires.may.joins

pub returns-in_err-answer-clause-stands : goal.returns-in_err-answer-clause-stands
returns-in_err-answer-clause-stands g c = failed_kept c.args.i c.requires.stands c.in_err-answer.ensures.short

pub reserve_made-requires-clause-fit : goal.reserve_made-requires-clause-fit
reserve_made-requires-clause-fit g c =
    let d = c.args.self.now in
    let i = c.args.i in
    let made = taken_made {slots = c.answer.new.keepers} i c.requires.stands c.args.now c.requires.may.moment c.in_ok-answer.ensures.made in
    made_fit d.log i (taken_in d.log i) (keeper_at c.answer.new.keepers.items i) made.keeps.made

pub returns-in_err-reserve_made-clause-stands : goal.returns-in_err-reserve_made-clause-stands
returns-in_err-reserve_made-clause-stands g c =
    let i = c.args.i in
    c.in_err-reserve_made.ensures.short (taken_in c.args.self.now.log i)
    (taken_made i c.requires.stands c.args.now c.requires.may.moment c.in_ok-answer.ensures.made) c.requires.may.unticked

pub note_made-requires-clause-made : goal.note_made-requires-clause-made
note_made-requires-clause-made g c =
    let h = c.args.self.now.log in
    let i = c.args.i in
    rw (c.reserve_made.ensures.unchanged, to_answer_taken h i c.requires.may.unticked c.requires.took)
    (rw c.reserve_made.ensures.unchanged at
    (c.in_ok-reserve_made.ensures.made (taken_in h i) (taken_made i c.requires.stands c.args.now c.requires.may.moment c.in_ok-answer.ensures.made)))

pub note_made-requires-clause-may : goal.note_made-requires-clause-may
note_made-requires-clause-may g c =
    let mid = c.reserve_made.new.self in
    let i = c.args.i in
    let may = c.requires.may in
    let same = c.reserve_made.ensures.unchanged in
    let made = c.in_ok-reserve_made.ensures.made (taken_in c.args.self.now.log i) (taken_made i c.requires.stands c.args.now may.moment c.in_ok-answer.ensures.made) in
    let all = to_answer_taken c.args.self.now.log i may.unticked c.requires.took in
    record {
      joins = rw same may.joins;
      going = rw same may.going;
      out = rw same may.out;
      runs = made_runs mid.log i (keeper_at mid.keepers.items i) made.legal (rw (same, all) (rw same at made.keeps.made)) (rw same c.requires.holds);
      flush = λ none. absurd (c.requires.took (rw same at none));
    }

pub spend_discarded-requires-clause-joins : goal.spend_discarded-requires-clause-joins
spend_discarded-requires-clause-joins g c =
    let k = c.reserve_made.new.self in
    noted_joins k.log c.note_made.new.self.log c.args.i c.args.i (keeper_at k.keepers.items c.args.i) c.note_made.ensures.noted (rw c.reserve_made.ensures.unchanged c.requires.may.joins)

pub returns-clause-only : goal.returns-clause-only
returns-clause-only g c =
    let k = c.reserve_made.new.self in
    rw c.reserve_made.ensures.unchanged at
    (answered_only k.log c.note_made.new.self.log c.spend_discarded.new.self.log c.args.i c.note_made.ensures.stands.legal c.spend_discarded.ensures.only
    (keeper_at k.keepers.items c.args.i) c.note_made.ensures.noted)

pub returns-clause-noted : goal.returns-clause-noted
returns-clause-noted g c =
    let k = c.reserve_made.new.self in
    rw c.reserve_made.ensures.unchanged at
    (noted_answer k.log c.note_made.new.self.log c.spend_discarded.new.self.log c.args.i c.note_made.ensures.stands.legal c.spend_discarded.ensures.only
    (keeper_at k.keepers.items c.args.i) c.note_made.ensures.noted c.spend_discarded.ensures.spent)

pub returns-clause-answered : goal.returns-clause-answered
returns-clause-answered g c =
    none_waits_then c.args.i c.note_made.new.self.log c.spend_discarded.new.self.log c.spend_discarded.ensures.only c.note_made.ensures.answered

pub returns-clause-fit : goal.returns-clause-fit
returns-clause-fit g c =
    let i = c.args.i in
    let noted = rw c.in_ok-reserve_made.ensures.kept at c.note_made.ensures.fit in
    let first = fit_both i c.args.self.now.keepers.items c.answer.new.keepers.items c.note_made.new.self.keepers.items (λ was is answers. answers.stays)
    c.in_ok-answer.ensures.made noted in
    fit_both i c.args.self.now.keepers.items c.note_made.new.self.keepers.items c.spend_discarded.new.self.keepers.items (λ was is stays. stays) first c.spend_discarded.ensures.fit

pub returns-in_err-answer-clause-unfit : goal.returns-in_err-answer-clause-unfit
returns-in_err-answer-clause-unfit g c =
    on_error c.from_residual.result (one_wider c.args.i c.args.self.now.keepers.items c.answer.new.keepers.items (λ was is fails. fails.gets) c.in_err-answer.ensures.short)

pub returns-in_err-reserve_made-clause-unfit : goal.returns-in_err-reserve_made-clause-unfit
returns-in_err-reserve_made-clause-unfit g c =
    on_error c.from_residual-in_err-reserve_made.result (fit_then c.args.i c.args.self.now.keepers.items c.answer.new.keepers.items c.reserve_made.new.self.keepers.items (λ was is answers. answers.stays) c.in_ok-answer.ensures.made
    c.in_err-reserve_made.ensures.fails)
