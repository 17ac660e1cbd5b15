use Rattle.std.proofs.Common.{◌+◌, List, ◌∷◌, drop, sym, ap, subst, arith, ◌∙◌}
use Rattle.std.proofs.lemmas.List.{drop_more, drop_all}
use Rattle.vx_value.specs.Texts.{ByteString}
use Rattle.vx_reading.specs.Trying.{Tries}
use Rattle.vx_reading.specs.declared.placed.Placed.{Placed}
use Rattle.vx_reading.proofs.Refusing.{texts_of, placed_texts}
use Rattle.vx_reading.proofs.Trying.{tries_none, tries_both}
use Rattle.vx_reading.proofs.tried.try_settings.Invariants.{texts_in}
use Rattle.vx_reading.proofs.tried.try_settings.Goals as goal

pub loop-placed-preserved : goal.loop-placed-preserved
loop-placed-preserved c refused conditions rest =
    let all = c.as_slice-placed-items.result.now in
    c.loop-placed.invariant refused conditions
    (subst (λ (xs : List Placed). Tries (texts_in xs) (texts_in xs) c.loop-placed.refused refused c.loop-placed.conditions conditions)
    (sym (drop_more all c.loop-placed.placed-index c.placed-item.result c.loop-placed-test.true ∙ ap (λ x. x ∷ drop (c.loop-placed.placed-index + 1) all) (sym c.placed-item.is)))
    (tries_both c.in_ok-try_one.ensures rest))

pub returns : goal.returns
returns c =
    let all = c.as_slice-placed-items.result.now in
    let are = ap texts_in c.as_slice-placed-items.ensures.value ∙ ap texts_of c.in_ok-all.ensures ∙ placed_texts c.args.settings.now in
    subst (λ (xs : List ByteString). Tries xs xs c.args.refused.now c.loop-placed.refused c.args.conditions.now c.loop-placed.conditions) are
    (c.loop-placed.invariant c.loop-placed.refused c.loop-placed.conditions
    (subst (λ (xs : List Placed). Tries (texts_in xs) (texts_in xs) c.loop-placed.refused c.loop-placed.refused c.loop-placed.conditions c.loop-placed.conditions)
    (sym (drop_all c.loop-placed.placed-index all (grind (arith, c.loop-placed-test.false)))) (tries_none c.loop-placed.refused c.loop-placed.conditions)))
