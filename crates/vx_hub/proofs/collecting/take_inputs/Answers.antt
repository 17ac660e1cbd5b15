use Rattle.std.proofs.Common.{arith}
use Rattle.vx_hub.proofs.Gathering.{gathered_none, gathered_more, gathered_all}
use Rattle.vx_hub.proofs.collecting.take_inputs.Goals as goal

pub loop-init : goal.loop-init
loop-init g c = gathered_none c.requires.stands c.requires.served c.requires.fresh c.requires.gathering c.requires.some

pub take_input-requires-clause-few : goal.take_input-requires-clause-few
take_input-requires-clause-few g c = let many = c.loop.invariant.many in let below = c.loop-test.true in omega (arith, many, below)

pub loop-preserved : goal.loop-preserved
loop-preserved g c = gathered_more c.loop.invariant (c.take_input.ensures.took c.if-not-take_input.false)

pub returns-then-not-take_input-clause-took : goal.returns-then-not-take_input-clause-took
returns-then-not-take_input-clause-took g c = let none = c.take_input.ensures.none c.if-not-take_input.true in rw none.0 (gathered_all c.loop.invariant none.1)

pub returns-clause-took : goal.returns-clause-took
returns-clause-took g c = let all = c.loop-test.false in c.loop.invariant.took (omega (arith, all))
