use Rattle.std.proofs.Common.{arith}
use Rattle.vx_ready.proofs.Surveys.{dry_further, dry_all, one_gives}
use Rattle.vx_ready.proofs.ending.are_all_dry.Goals as goal

pub returns-then-gives : goal.returns-then-gives
returns-then-gives g c = one_gives g.P.Port.observed c.args.engine.now c.requires.stands c.loop-j.j c.gives.result (omega arith) c.gives.ensures c.if-gives.true

pub loop-j-preserved : goal.loop-j-preserved
loop-j-preserved g c = dry_further c.args.engine.now.log c.loop-j.j c.gives.result c.gives.ensures c.if-gives.false c.loop-j.invariant

pub returns : goal.returns
returns g c = dry_all g.P.Port.observed c.args.engine.now c.requires.stands c.loop-j.j (omega arith) c.loop-j.invariant
