use Rattle.std.proofs.Common.{Option, Some, OnOk, [], ◌∷◌, ◌++◌, refl, ap, sym, subst, ◌∙◌}
use Rattle.std.specs.List.{sum_by}
use Rattle.vx_reduce.specs.declared.reduce.Reduce.{Reduce}
use Rattle.vx_reduce.specs.Groups.{copies_held}
use Rattle.vx_reduce.specs.Inputs.{ticked}
use Rattle.vx_transform.specs.Shelves.{copies_on}
use Rattle.vx_keeping.specs.Kept.{copies_made}
use Rattle.vx_keeping.specs.Making.{made_of, Gives}
use Rattle.vx_keeping.proofs.Inputs.{given_tick}
use Rattle.vx_keeping.proofs.Weights.{moves_same}
use Rattle.vx_keeping.proofs.Making.{ok_three}
use Rattle.vx_keeping.proofs.maker.Maker.tick.Goals as goal

pub returns-in-Reduce-clause-given : goal.returns-in-Reduce-clause-given
returns-in-Reduce-clause-given g c =
    let e = c.tick.ensures in
    subst (λ (m : Option Reduce). OnOk c.tick.result (Gives (ticked c.args.now ∷ []) m (Some c.tick.new.self) c.args.shelf.now c.tick.new.shelf [] [])) (sym (ap made_of c.in-Reduce.is))
    (ok_three c.tick.result (λ checked on out. (given_tick c.args.now c.in-Reduce.reduce c.tick.new.self c.args.shelf.now c.tick.new.shelf checked on out e.moves, refl)) e.checked e.goes_on e.puts_out)

pub returns-in-Reduce-clause-same : goal.returns-in-Reduce-clause-same
returns-in-Reduce-clause-same g c = λ w.
    ap (λ m. sum_by w (copies_made (made_of m) ++ copies_on c.args.shelf.now)) c.in-Reduce.is
    ∙ moves_same 1 (copies_held c.in-Reduce.reduce.groups) (copies_held c.tick.new.self.groups) c.args.shelf.now c.tick.new.shelf c.tick.ensures.moves w
