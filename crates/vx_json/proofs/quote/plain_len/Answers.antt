use Rattle.vx_json.proofs.Escaping.{plain-more}
use Rattle.vx_json.proofs.quote.plain_len.Goals as goal

pub loop-i-preserved : goal.loop-i-preserved
loop-i-preserved c = plain-more c.args.text.now c.loop-i.i c.loop-i-test.true (c.is_plain.ensures c.if-not-is_plain.false) c.loop-i.invariant
