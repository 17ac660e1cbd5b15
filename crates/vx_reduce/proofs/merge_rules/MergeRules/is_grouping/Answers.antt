use Rattle.std.proofs.Common.{◌≡◌, true, false, arith, sym, ◌∙◌}
use Rattle.vx_value.specs.Texts.{same_text}
use Rattle.vx_value.proofs.Order.{answer_equal}
use Rattle.vx_reduce.proofs.StepsAt.{grouping_at}
use Rattle.vx_reduce.proofs.merge_rules.MergeRules.is_grouping.Goals as goal

pub returns-then-eq : goal.returns-then-eq
returns-then-eq c =
    let same : c.eq.result ≡ same_text c.index-names-0.result c.args.name.now = rw (c.as_str.ensures, answer_equal) at c.eq.ensures in
    sym (c.loop-path.invariant ∙ grouping_at c.args.self.now.group_by c.args.name.now c.index-names-0.result c.loop-path.path-index c.path-item.result true
    (rw c.as_slice-path-items.ensures at c.loop-path-test.true) (rw c.as_slice-path-items.ensures at c.path-item.is)
    (omega (arith, c.names.ensures.some)) (rw c.names.ensures.names at c.index-names-0.is) (sym same ∙ c.if-eq.true))

pub loop-path-preserved : goal.loop-path-preserved
loop-path-preserved c =
    let same : c.eq.result ≡ same_text c.index-names-0.result c.args.name.now = rw (c.as_str.ensures, answer_equal) at c.eq.ensures in
    c.loop-path.invariant ∙ grouping_at c.args.self.now.group_by c.args.name.now c.index-names-0.result c.loop-path.path-index c.path-item.result false
    (rw c.as_slice-path-items.ensures at c.loop-path-test.true) (rw c.as_slice-path-items.ensures at c.path-item.is)
    (omega (arith, c.names.ensures.some)) (rw c.names.ensures.names at c.index-names-0.is) (sym same ∙ c.if-eq.false)
