use Rattle.std.proofs.Common.{◌∙◌, ◌∷◌, refl, sym}
use Rattle.vx_record.specs.declared.entry.Entry.TheVariants.{Tick}
use Rattle.vx_record.proofs.Adding.{adds_none}
use Rattle.vx_moves.specs.Merging.{IsMergeOf}
use Rattle.vx_moves.proofs.Leaving.{each_stays}
use Rattle.vx_landing.proofs.Merged.{answer_spent, flush_may, flush_spent, may_merge}
use Rattle.vx_landing.proofs.merging.act.Goals as goal

pub merge_flush-requires-clause-may : goal.merge_flush-requires-clause-may
merge_flush-requires-clause-may g c = may_merge c.requires.stands c.requires.merging

pub merge_flush-requires-clause-holds : goal.merge_flush-requires-clause-holds
merge_flush-requires-clause-holds g c =
    (flush_may c.args.engine.now.log c.args.i c.requires.stands.legal (sym c.must_flush.ensures ∙ c.if-must_flush.true)).0

pub merge_flush-requires-clause-none : goal.merge_flush-requires-clause-none
merge_flush-requires-clause-none g c = c.requires.none

pub merge_flush-requires-clause-last : goal.merge_flush-requires-clause-last
merge_flush-requires-clause-last g c =
    (flush_may c.args.engine.now.log c.args.i c.requires.stands.legal (sym c.must_flush.ensures ∙ c.if-must_flush.true)).1

pub returns-then-must_flush-clause-spent : goal.returns-then-must_flush-clause-spent
returns-then-must_flush-clause-spent g c = flush_spent c.args.i c.args.engine.now.log c.merge_flush.new.self.log c.merge_flush.result c.merge_flush.ensures.noted

pub merge_tick-requires-clause-may : goal.merge_tick-requires-clause-may
merge_tick-requires-clause-may g c = may_merge c.requires.stands c.requires.merging

pub returns-then-is_check_due-clause-spent : goal.returns-then-is_check_due-clause-spent
returns-then-is_check_due-clause-spent g c =
    answer_spent c.args.i (Tick c.args.i c.args.now ∷ c.args.engine.now.log) c.merge_tick.new.self.log c.merge_tick.result c.merge_tick.ensures.noted

pub returns-clause-only : goal.returns-clause-only
returns-clause-only g c = let h = c.args.engine.now.log in adds_none (IsMergeOf c.args.i) h h refl

pub returns-clause-leaves : goal.returns-clause-leaves
returns-clause-leaves g c = record { states = each_stays c.args.engine.now.states; capacities = λ j. (refl, refl); run = refl }
