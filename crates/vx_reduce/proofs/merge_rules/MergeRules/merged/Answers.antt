use Rattle.std.proofs.Common.{◌≡◌, ◌++◌, ◌∷◌, IsTrue, map, refl, sym, ◌∙◌, ap, subst}
use Rattle.vx_value.specs.Values.{named_datum}
use Rattle.vx_value.specs.Datum.{NamedDatum}
use Rattle.std.proofs.Common.{List}
use Rattle.vx_value.specs.Events.{names_rise}
use Rattle.vx_condition.specs.Merging.{merged_with}
use Rattle.vx_reduce.proofs.Merged.{merged-rise, below-rise}
use Rattle.vx_reduce.proofs.merge_rules.MergeRules.merged.Goals as goal

pub steps-init : goal.steps-init
steps-init c = record {
  all = rw (c.new-fields.ensures, c.as_slice-group.ensures.fields, c.as_slice-event.ensures.fields) refl;
  rise = merged-rise c.args.self.now.group_by c.args.self.now.strategies c.args.group.now c.args.event.now c.as_slice-group.ensures.rising;
  group = rw c.as_slice-group.ensures.fields c.as_slice-group.ensures.rising;
  event = rw c.as_slice-event.ensures.fields c.as_slice-event.ensures.rising;
}

pub push-requires : goal.push-requires
push-requires c =
    let some = rw c.in-Some.is at c.in_ok-step.ensures.some in
    let all = ap (λ fs. c.steps.fields ++ fs) (sym some) ∙ c.steps.invariant.all in
    below-rise c.steps.fields (merged_with c.args.self.now.group_by c.args.self.now.strategies (map named_datum c.in-Some.step.group.now) (map named_datum c.in-Some.step.event.now)) (named_datum c.in-Some.step.field)
    (subst (λ (fs : List NamedDatum). IsTrue (names_rise fs)) (sym all) c.steps.invariant.rise)
