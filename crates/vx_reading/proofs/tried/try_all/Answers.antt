use Rattle.std.proofs.Common.{List, [], ◌∷◌, map, sym, ap, ◌∙◌, subst, drop, arith, ◌+◌}
use Rattle.std.proofs.lemmas.List.{drop_more, drop_all}
use Rattle.vx_plan.specs.declared.component.Component.{Component}
use Rattle.vx_reading.specs.Conditions.{conditions_by, all_conditions}
use Rattle.vx_reading.specs.Trying.{Tries}
use Rattle.vx_reading.proofs.Trying.{tries_none, tries_both}
use Rattle.vx_reading.proofs.tried.try_all.Goals as goal

pub loop-component-preserved : goal.loop-component-preserved
loop-component-preserved c refused conditions rest =
    let all = c.as_slice-component-items.result.now in
    c.loop-component.invariant refused conditions
    (subst (λ (xs : List Component). Tries (all_conditions xs) (map conditions_by xs) c.loop-component.refused refused c.loop-component.conditions conditions)
    (sym (drop_more all c.loop-component.component-index c.component-item.result c.loop-component-test.true ∙ ap (λ x. x ∷ drop (c.loop-component.component-index + 1) all) (sym c.component-item.is)))
    (tries_both c.in_ok-try_component.ensures rest))

pub returns : goal.returns
returns c =
    let all = c.as_slice-component-items.result.now in
    subst (λ (xs : List Component). Tries (all_conditions xs) (map conditions_by xs) [] c.loop-component.refused [] c.loop-component.conditions) c.as_slice-component-items.ensures
    (c.loop-component.invariant c.loop-component.refused c.loop-component.conditions
    (subst (λ (xs : List Component). Tries (all_conditions xs) (map conditions_by xs) c.loop-component.refused c.loop-component.refused c.loop-component.conditions c.loop-component.conditions)
    (sym (drop_all c.loop-component.component-index all (grind (arith, c.loop-component-test.false)))) (tries_none c.loop-component.refused c.loop-component.conditions)))
