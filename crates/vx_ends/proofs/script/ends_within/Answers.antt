use Rattle.std.proofs.Common.{sym, ◌∙◌}
use Rattle.vx_ends.proofs.ScriptLemmas.{ended_at, open_on}
use Rattle.vx_ends.proofs.script.ends_within.Goals as goal

pub returns-then-ends_stream : goal.returns-then-ends_stream
returns-then-ends_stream c =
    sym (ended_at _ _ _ _ c.loop-step-test.true c.step-item.is (sym c.ends_stream.ensures ∙ c.if-ends_stream.true))

pub loop-step-preserved : goal.loop-step-preserved
loop-step-preserved c =
    open_on _ _ _ _ c.loop-step-test.true c.step-item.is c.loop-step.invariant (sym c.ends_stream.ensures ∙ c.if-ends_stream.false)
