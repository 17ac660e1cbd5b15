use Rattle.std.proofs.Common.{Option, ◌∷◌, ap, sym, subst}
use Rattle.std.specs.Prelude.{IfSome}
use Rattle.std.proofs.lemmas.List.Sorted.{sum_by-IsPermutation}
use Rattle.vx_reduce.specs.declared.reduce.Reduce.{Reduce}
use Rattle.vx_reduce.specs.Groups.{copies_held}
use Rattle.vx_reduce.proofs.Surrender.{some_weaker}
use Rattle.vx_keeping.specs.Kept.{copies_made}
use Rattle.vx_keeping.specs.Given.{SameCopies}
use Rattle.vx_keeping.specs.Making.{made_of}
use Rattle.vx_keeping.proofs.maker.Maker.surrender.Goals as goal

pub returns-in-Reduce-clause-some : goal.returns-in-Reduce-clause-some
returns-in-Reduce-clause-some c =
    subst (λ (m : Option Reduce). IfSome c.surrender.result (λ copy. SameCopies (copies_made m) (copy ∷ copies_held c.surrender.new.self.groups))) (sym (ap made_of c.in-Reduce.is))
    (some_weaker _ _ c.surrender.result (λ copy moved w. sym (sum_by-IsPermutation w (copies_held c.in-Reduce.reduce.groups) (copy ∷ copies_held c.surrender.new.self.groups) moved)) c.surrender.ensures.some)
