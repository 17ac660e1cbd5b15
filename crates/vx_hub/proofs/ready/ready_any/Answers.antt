use borrow.Author.Count.{below_more}
use Rattle.std.proofs.Common.{arith}
use Rattle.vx_hub.specs.Leases.{NoneFoundAt}
use Rattle.vx_hub.proofs.Leases.{none_ready}
use Rattle.vx_hub.proofs.ready.ready_any.Goals as goal

pub returns-clause-none : goal.returns-clause-none
returns-clause-none g c = none_ready c.args.now c.loop-i.i c.requires.stands c.requires.latest (omega arith) c.loop-i.invariant

pub loop-i-preserved : goal.loop-i-preserved
loop-i-preserved g c = below_more (NoneFoundAt c.args.engine.now c.args.now) c.loop-i.i c.loop-i.invariant c.in_default.ensures.none
