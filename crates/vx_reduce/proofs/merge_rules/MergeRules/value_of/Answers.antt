use Rattle.std.proofs.Common.{◌≡◌, sym, ◌∙◌, ap}
use Rattle.std.proofs.lemmas.Result.{IfOk-weaker}
use Rattle.vx_value.specs.Values.{datum_of}
use Rattle.vx_condition.specs.Merging.{is_grouping, strategy_of, begun, combined}
use Rattle.vx_reduce.proofs.merge_rules.MergeRules.value_of.Goals as goal

pub returns-then-keeps : goal.returns-then-keeps
returns-then-keeps c =
    let keeps = ap (λ n. is_grouping c.args.self.now.group_by n) (sym c.as_str.ensures) ∙ sym c.is_grouping-keeps.ensures ∙ c.if-keeps.true in
    IfOk-weaker c.copy.result _ _ (λ v h. rw (c.in-None.is, keeps) (ap datum_of h)) c.copy.ensures

pub returns-else-keeps : goal.returns-else-keeps
returns-else-keeps c =
    let merges = ap (λ n. is_grouping c.args.self.now.group_by n) (sym c.as_str.ensures) ∙ sym c.is_grouping-keeps.ensures ∙ c.if-keeps.false in
    let how = c.how_of-how.ensures ∙ ap (λ n. strategy_of c.args.self.now.strategies n) c.as_str-2.ensures in
    IfOk-weaker c.begun.result _ _ (λ v h. rw (c.in-None.is, merges) (h ∙ ap (λ how. begun how (datum_of c.args.field.now.value)) how)) c.begun.ensures

pub returns-then-keeps-2 : goal.returns-then-keeps-2
returns-then-keeps-2 c =
    let keeps = ap (λ n. is_grouping c.args.self.now.group_by n) (sym c.as_str.ensures) ∙ sym c.is_grouping-keeps.ensures ∙ c.if-keeps-2.true in
    IfOk-weaker c.copy-then-keeps-2.result _ _ (λ v h. rw (c.in-Some.is, keeps) (ap datum_of h)) c.copy-then-keeps-2.ensures

pub returns-else-keeps-2 : goal.returns-else-keeps-2
returns-else-keeps-2 c =
    let merges = ap (λ n. is_grouping c.args.self.now.group_by n) (sym c.as_str.ensures) ∙ sym c.is_grouping-keeps.ensures ∙ c.if-keeps-2.false in
    let how = c.how_of-how.ensures ∙ ap (λ n. strategy_of c.args.self.now.strategies n) c.as_str-2.ensures in
    IfOk-weaker c.combined.result _ _ (λ v h. rw (c.in-Some.is, merges) (h ∙ ap (λ how. combined how (datum_of c.in-Some.so_far.now) (datum_of c.args.field.now.value)) how)) c.combined.ensures
