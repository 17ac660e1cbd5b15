use Rattle.std.proofs.Common.{sym, ◌∙◌}
use Rattle.vx_json.proofs.Runs.{digits-next}
use Rattle.vx_json.proofs.run.digits_len.Goals as goal

pub loop-i-preserved : goal.loop-i-preserved
loop-i-preserved c = digits-next c.args.bytes.now c.loop-i.i c.loop-i-test.true (sym c.is_digit.ensures ∙ c.if-not-is_digit.false) c.loop-i.invariant
