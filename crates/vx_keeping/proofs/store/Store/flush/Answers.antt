use Rattle.std.proofs.Common.{[], ◌∷◌, refl, ◌∙◌}
use Rattle.vx_reduce.specs.Inputs.{at_end}
use Rattle.vx_keeping.proofs.Making.{ok_weaker}
use Rattle.vx_keeping.proofs.Storing.{stored_acted, makes_all, kept_all, bare_all, none_by}
use Rattle.vx_keeping.proofs.store.Store.flush.Goals as goal

pub returns-in_err-flush-clause-same : goal.returns-in_err-flush-clause-same
returns-in_err-flush-clause-same g c = stored_acted c.args.self.now c.flush.new.self c.flush.new.shelf c.flush.ensures.same

pub returns-clause-made : goal.returns-clause-made
returns-clause-made g c =
    let old = c.args.self.now in
    let mid = record old { maker = c.flush.new.self; shelf = c.flush.new.shelf } in
    let new = c.gather_made.new.self in
    let e = c.gather_made.ensures in
    ok_weaker c.gather_made.result (λ off bare taken. makes_all old mid new e.maker (at_end ∷ []) [] [] [] c.in_ok-flush.ensures.given off refl (λ none. refl)
    (λ w. stored_acted old c.flush.new.self c.flush.new.shelf c.flush.ensures.same w ∙ e.same w) taken bare) e.gathers

pub returns-clause-discarded : goal.returns-clause-discarded
returns-clause-discarded g c =
    let old = c.args.self.now in
    let mid = record old { maker = c.flush.new.self; shelf = c.flush.new.shelf } in
    let new = c.gather_made.new.self in
    let e = c.gather_made.ensures in
    ok_weaker c.gather_made.result (λ off bare taken. kept_all old mid new e.maker (at_end ∷ []) [] [] c.in_ok-flush.ensures.given off refl refl
    (λ w. stored_acted old c.flush.new.self c.flush.new.shelf c.flush.ensures.same w ∙ e.same w) bare taken) e.gathers

pub returns-clause-none : goal.returns-clause-none
returns-clause-none g c =
    let mid = record c.args.self.now { maker = c.flush.new.self; shelf = c.flush.new.shelf } in
    ok_weaker c.gather_made.result (λ off none. none_by mid c.gather_made.new.self _ off none) c.gather_made.ensures.gathers

pub returns-clause-bare : goal.returns-clause-bare
returns-clause-bare g c =
    let old = c.args.self.now in
    let mid = record old { maker = c.flush.new.self; shelf = c.flush.new.shelf } in
    let e = c.gather_made.ensures in
    ok_weaker c.gather_made.result (λ off bare. bare_all old mid c.gather_made.new.self e.maker (at_end ∷ []) [] [] c.in_ok-flush.ensures.given off bare) e.gathers

pub returns-clause-same : goal.returns-clause-same
returns-clause-same g c = λ w. stored_acted c.args.self.now c.flush.new.self c.flush.new.shelf c.flush.ensures.same w ∙ c.gather_made.ensures.same w
