use Rattle.std.proofs.Common.{sym, ◌∙◌}
use Rattle.vx_json.proofs.Spellings.{spelled-next}
use Rattle.vx_json.proofs.leaf.number_len.Goals as goal

pub loop-i-preserved : goal.loop-i-preserved
loop-i-preserved c = spelled-next c.args.bytes.now c.loop-i.i c.args.place c.loop-i.place c.in-Some.next c.loop-i-test.true c.loop-i.invariant (sym c.number_move.ensures ∙ c.in-Some.is)
