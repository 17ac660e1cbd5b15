use Rattle.std.proofs.Common.{Option, Some, OnOk, [], ◌∷◌, ◌++◌, refl, ap, sym, subst, ◌∙◌}
use Rattle.std.specs.List.{sum_by}
use Rattle.vx_reduce.specs.declared.reduce.Reduce.{Reduce}
use Rattle.vx_reduce.specs.Groups.{copies_held}
use Rattle.vx_reduce.specs.Inputs.{at_end}
use Rattle.vx_transform.specs.Shelves.{copies_on}
use Rattle.vx_keeping.specs.Kept.{copies_made}
use Rattle.vx_keeping.specs.Making.{made_of, Gives}
use Rattle.vx_keeping.proofs.Inputs.{given_flush}
use Rattle.vx_keeping.proofs.Weights.{moves_same}
use Rattle.vx_keeping.proofs.Making.{ok_four}
use Rattle.vx_keeping.proofs.maker.Maker.flush.Goals as goal

pub returns-in-Reduce-clause-given : goal.returns-in-Reduce-clause-given
returns-in-Reduce-clause-given g c =
    let e = c.flush.ensures in
    subst (λ (m : Option Reduce). OnOk c.flush.result (Gives (at_end ∷ []) m (Some c.flush.new.self) c.args.shelf.now c.flush.new.shelf [] [])) (sym (ap made_of c.in-Reduce.is))
    (ok_four c.flush.result (λ on out flushed groups. (given_flush c.in-Reduce.reduce c.flush.new.self c.args.shelf.now c.flush.new.shelf on out flushed groups e.moves, refl)) e.goes_on e.puts_out e.flushed e.groups)

pub returns-in-Reduce-clause-same : goal.returns-in-Reduce-clause-same
returns-in-Reduce-clause-same g c = λ w.
    ap (λ m. sum_by w (copies_made (made_of m) ++ copies_on c.args.shelf.now)) c.in-Reduce.is
    ∙ moves_same 1 (copies_held c.in-Reduce.reduce.groups) (copies_held c.flush.new.self.groups) c.args.shelf.now c.flush.new.shelf c.flush.ensures.moves w
