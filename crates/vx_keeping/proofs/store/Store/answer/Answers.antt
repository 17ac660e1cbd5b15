use Rattle.std.proofs.Common.{refl, ◌∙◌}
use Rattle.vx_keeping.specs.Given.{arrived_all}
use Rattle.vx_keeping.proofs.Storing.{stored_answered, makes_all}
use Rattle.vx_keeping.proofs.store.Store.answer.Goals as goal

pub returns-in_err-answer-clause-same : goal.returns-in_err-answer-clause-same
returns-in_err-answer-clause-same g c = stored_answered c.args.self.now c.answer.new.self c.answer.new.taken c.answer.new.shelf c.answer.new.left c.answer.ensures.same

pub returns-in_err-gather_made-clause-same : goal.returns-in_err-gather_made-clause-same
returns-in_err-gather_made-clause-same g c = λ w.
    stored_answered c.args.self.now c.answer.new.self c.answer.new.taken c.answer.new.shelf c.answer.new.left c.answer.ensures.same w ∙ c.gather_made.ensures.same w

pub returns-clause-made : goal.returns-clause-made
returns-clause-made g c = λ bare.
    let old = c.args.self.now in
    let mid = record old { maker = c.answer.new.self; taken = c.answer.new.taken; shelf = c.answer.new.shelf; discarded = c.answer.new.left } in
    let e = c.gather_made.ensures in
    makes_all old mid c.gather_made.new.self e.maker (arrived_all c.args.now old.taken.items) old.taken.items old.discarded.items c.answer.new.left.items c.in_ok-answer.ensures.given c.in_ok-gather_made.ensures.gathers refl (λ same. same)
    (λ w. stored_answered old c.answer.new.self c.answer.new.taken c.answer.new.shelf c.answer.new.left c.answer.ensures.same w ∙ e.same w) refl bare

pub returns-clause-same : goal.returns-clause-same
returns-clause-same g c = λ w.
    stored_answered c.args.self.now c.answer.new.self c.answer.new.taken c.answer.new.shelf c.answer.new.left c.answer.ensures.same w ∙ c.gather_made.ensures.same w
