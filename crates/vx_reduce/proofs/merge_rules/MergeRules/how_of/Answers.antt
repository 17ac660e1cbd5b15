use Rattle.std.proofs.Common.{◌≡◌, true, false, sym, ◌∙◌}
use Rattle.vx_value.specs.Texts.{same_text}
use Rattle.vx_value.proofs.Order.{answer_equal}
use Rattle.vx_reduce.proofs.StepsAt.{strategy_at}
use Rattle.vx_reduce.proofs.merge_rules.MergeRules.how_of.Goals as goal

pub returns-then-eq : goal.returns-then-eq
returns-then-eq c =
    let same : c.eq.result ≡ same_text c.strategy-item.result.field c.args.name.now = rw (c.as_str.ensures, answer_equal) at c.eq.ensures in
    sym (c.loop-strategy.invariant ∙ strategy_at c.args.self.now.strategies c.args.name.now c.loop-strategy.strategy-index c.strategy-item.result true
    (rw c.as_slice-strategy-items.ensures at c.loop-strategy-test.true) (rw c.as_slice-strategy-items.ensures at c.strategy-item.is) (sym same ∙ c.if-eq.true))

pub loop-strategy-preserved : goal.loop-strategy-preserved
loop-strategy-preserved c =
    let same : c.eq.result ≡ same_text c.strategy-item.result.field c.args.name.now = rw (c.as_str.ensures, answer_equal) at c.eq.ensures in
    c.loop-strategy.invariant ∙ strategy_at c.args.self.now.strategies c.args.name.now c.loop-strategy.strategy-index c.strategy-item.result false
    (rw c.as_slice-strategy-items.ensures at c.loop-strategy-test.true) (rw c.as_slice-strategy-items.ensures at c.strategy-item.is) (sym same ∙ c.if-eq.false)
