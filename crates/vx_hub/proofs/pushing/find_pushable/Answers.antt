use Rattle.std.proofs.Common.{arith}
use Rattle.vx_places.proofs.Looking.{oldest_below}
use Rattle.vx_hub.proofs.pushing.find_pushable.Goals as goal

pub returns-clause-none : goal.returns-clause-none
returns-clause-none g c pass =
    let below = oldest_below c.args.engine.now.places c.args.i pass.target pass.child c.count_waiting-k-end.result
    c.count_waiting-k-end.ensures.many pass.oldest in
    let past = c.loop-k-test.false in
    c.loop-k.invariant pass (omega (arith, below, past))
