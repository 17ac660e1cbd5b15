use Rattle.std.proofs.Common.{◌≡◌, ◌∷◌, true, false, map, Some, None, IsTrue, refl, sym, ◌∙◌, ap, ap₂, subst}
use Rattle.std.specs.Ordering.{nat_cmp, is_lt, is_gt, is_eq}
use Rattle.std.specs.Cmp.Lexicographic.{slice_cmp}
use Rattle.vx_value.specs.Texts.{text_lt, same_text}
use Rattle.vx_value.proofs.Order.{answer_less, observed_same, answer_more, less_not_same'}
use Rattle.vx_value.specs.Values.{named_datum}
use Rattle.vx_reduce.proofs.Merged.{first_after}
use Rattle.vx_reduce.proofs.MergeSteps.{both_found, first_after-none, first_after-first, step-new, step-same, step-keep, same_first}
use Rattle.vx_reduce.proofs.merge_rules.MergeRules.step.Goals as goal

pub returns-in_default-split_first-clause-some : goal.returns-in_default-split_first-clause-some
returns-in_default-split_first-clause-some c =
    step-new c.args.self.now.group_by c.args.self.now.strategies c.args.group.now c.args.event.now c.in-Some.later.now c.in-Some.comes.now c.in_ok-field.field c.in-Some.ensures.cases.0
    (first_after-none c.in-Some.comes.now.name c.args.group.now c.in_default-split_first.ensures.cases) c.requires.group c.requires.event c.in_ok-field.ensures.name c.in_ok-field.ensures.value

pub returns-in-Less-clause-some : goal.returns-in-Less-clause-some
returns-in-Less-clause-some c =
    let cmp = c.cmp.ensures ∙ ap₂ (slice_cmp nat_cmp) c.as_str.ensures c.as_str-2.ensures in
    let less : text_lt c.in-Some-split_first.first.now.name c.in-Some.comes.now.name ≡ true = sym (answer_less c.in-Some-split_first.first.now.name c.in-Some.comes.now.name c.cmp.result cmp) ∙ ap is_lt c.in-Less.is in
    both_found _ _ _ c.keep-in-Less.result
    (λ step kept same.
    let name = same_first c.args.group.now c.in-Some-split_first.rest.now step.group.now c.in-Some-split_first.first.now step.field c.in-Some-split_first.ensures.cases.0 kept in
    rw same (step-keep c.args.self.now.group_by c.args.self.now.strategies c.args.group.now c.args.event.now step.field step.group.now kept
    (first_after-first step.field.name c.args.event.now c.in-Some.comes.now c.in-Some.later.now c.in-Some.ensures.cases.0 (rw name at less)) c.requires.event))
    c.keep-in-Less.ensures.some c.keep-in-Less.ensures.event

pub returns-in_ok-field-in-Equal-clause-some : goal.returns-in_ok-field-in-Equal-clause-some
returns-in_ok-field-in-Equal-clause-some c =
    let cmp = c.cmp.ensures ∙ ap₂ (slice_cmp nat_cmp) c.as_str.ensures c.as_str-2.ensures in
    let less : text_lt c.in-Some-split_first.first.now.name c.in-Some.comes.now.name ≡ false = sym (answer_less c.in-Some-split_first.first.now.name c.in-Some.comes.now.name c.cmp.result cmp) ∙ ap is_lt c.in-Equal.is in
    let same : same_text c.in-Some-split_first.first.now.name c.in-Some.comes.now.name ≡ true = sym (observed_same c.in-Some-split_first.first.now.name c.in-Some.comes.now.name c.cmp.result cmp) ∙ ap is_eq c.in-Equal.is in
    step-same c.args.self.now.group_by c.args.self.now.strategies c.args.group.now c.in-Some-split_first.rest.now c.args.event.now c.in-Some.later.now c.in-Some-split_first.first.now c.in-Some.comes.now c.in_ok-field-in-Equal.field
    c.in-Some.ensures.cases.0 c.in-Some-split_first.ensures.cases.0 less same c.requires.event c.in_ok-field-in-Equal.ensures.name c.in_ok-field-in-Equal.ensures.value

pub returns-in_ok-field-in-Greater-clause-some : goal.returns-in_ok-field-in-Greater-clause-some
returns-in_ok-field-in-Greater-clause-some c =
    let cmp = c.cmp.ensures ∙ ap₂ (slice_cmp nat_cmp) c.as_str.ensures c.as_str-2.ensures in
    let more : text_lt c.in-Some.comes.now.name c.in-Some-split_first.first.now.name ≡ true = sym (answer_more c.in-Some-split_first.first.now.name c.in-Some.comes.now.name c.cmp.result cmp) ∙ ap is_gt c.in-Greater.is in
    step-new c.args.self.now.group_by c.args.self.now.strategies c.args.group.now c.args.event.now c.in-Some.later.now c.in-Some.comes.now c.in_ok-field-in-Greater.field c.in-Some.ensures.cases.0
    (first_after-first c.in-Some.comes.now.name c.args.group.now c.in-Some-split_first.first.now c.in-Some-split_first.rest.now c.in-Some-split_first.ensures.cases.0 more) c.requires.group c.requires.event c.in_ok-field-in-Greater.ensures.name c.in_ok-field-in-Greater.ensures.value
