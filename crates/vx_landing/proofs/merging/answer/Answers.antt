use Rattle.vx_record.proofs.Adding.{adds_both}
use Rattle.vx_moves.specs.Merging.{IsMergeOf}
use Rattle.vx_landing.proofs.Answering.{leaves_both}
use Rattle.vx_landing.proofs.Merged.{may_merge, merging_of, merging_on}
use Rattle.vx_landing.proofs.Owing.{discards_none}
use Rattle.vx_landing.proofs.merging.answer.Goals as goal

pub act-requires-clause-merging : goal.act-requires-clause-merging
act-requires-clause-merging g c = merging_of c.requires.taking

pub act-requires-clause-none : goal.act-requires-clause-none
act-requires-clause-none g c = c.requires.none c.if-not-took.true

pub act-requires-clause-spent : goal.act-requires-clause-spent
act-requires-clause-spent g c = c.requires.taking.spent

pub merge_taken-requires-clause-may : goal.merge_taken-requires-clause-may
merge_taken-requires-clause-may g c = may_merge c.requires.stands (merging_of c.requires.taking)

pub merge_taken-requires-clause-holds : goal.merge_taken-requires-clause-holds
merge_taken-requires-clause-holds g c = (c.requires.some c.if-not-took.false).holds

pub merge_taken-requires-clause-took : goal.merge_taken-requires-clause-took
merge_taken-requires-clause-took g c = (c.requires.some c.if-not-took.false).given

pub act-requires-in-Ok-clause-merging : goal.act-requires-in-Ok-clause-merging
act-requires-in-Ok-clause-merging g c =
    merging_on c.args.i c.args.now c.args.engine.now.log c.merge_taken.new.self.log c.merge_taken.ensures.only (merging_of c.requires.taking)

pub act-requires-in-Ok-clause-spent : goal.act-requires-in-Ok-clause-spent
act-requires-in-Ok-clause-spent g c = discards_none c.merge_taken.new.self.log c.args.i c.in-Ok.ensures.noted.spent

pub returns-in-Ok-clause-only : goal.returns-in-Ok-clause-only
returns-in-Ok-clause-only g c =
    adds_both (IsMergeOf c.args.i) c.args.engine.now.log c.merge_taken.new.self.log c.act-in-Ok.new.engine.log c.merge_taken.ensures.only c.act-in-Ok.ensures.only

pub returns-in-Ok-clause-leaves : goal.returns-in-Ok-clause-leaves
returns-in-Ok-clause-leaves g c = leaves_both c.merge_taken.ensures.leaves c.act-in-Ok.ensures.leaves
