use Rattle.std.proofs.Common.{arith}
use Rattle.vx_ready.proofs.Surveys.{none_further, none_sends, one_sends}
use Rattle.vx_ready.proofs.ending.is_named.Goals as goal

pub returns-then-may_send : goal.returns-then-may_send
returns-then-may_send g c = one_sends g.P.Port.observed c.args.engine.now c.requires.stands c.args.i c.loop-j.j c.may_send.result (omega arith) c.may_send.ensures c.if-may_send.true

pub loop-j-preserved : goal.loop-j-preserved
loop-j-preserved g c = none_further c.args.engine.now.log c.args.i c.loop-j.j c.may_send.result c.may_send.ensures c.if-may_send.false c.loop-j.invariant

pub returns : goal.returns
returns g c = none_sends g.P.Port.observed c.args.engine.now c.requires.stands c.args.i c.loop-j.j (omega arith) c.loop-j.invariant
