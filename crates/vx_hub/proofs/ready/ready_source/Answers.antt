use Rattle.std.proofs.Common.{arith}
use Rattle.vx_hub.specs.Leases.{NoneFoundAt}
use Rattle.vx_hub.proofs.Unready.{found_more, found_all}
use Rattle.vx_hub.proofs.ready.ready_source.Goals as goal

pub loop-k-preserved : goal.loop-k-preserved
loop-k-preserved g c = found_more (NoneFoundAt c.args.engine.now c.args.now) c.args.sources.now c.loop-k.k c.loop-k-test.true c.in_default.ensures.none c.loop-k.invariant

pub returns-clause-none : goal.returns-clause-none
returns-clause-none g c = found_all (NoneFoundAt c.args.engine.now c.args.now) c.args.sources.now c.loop-k.k (omega arith) c.loop-k.invariant
