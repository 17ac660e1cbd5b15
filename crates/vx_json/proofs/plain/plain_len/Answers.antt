use Rattle.std.proofs.Common.{sym, ◌∙◌}
use Rattle.vx_json.proofs.Runs.{plain-next}
use Rattle.vx_json.proofs.plain.plain_len.Goals as goal

pub loop-i-preserved : goal.loop-i-preserved
loop-i-preserved c = plain-next c.args.bytes.now c.loop-i.i c.loop-i-test.true (sym c.is_plain.ensures ∙ c.if-not-is_plain.false) c.loop-i.invariant
