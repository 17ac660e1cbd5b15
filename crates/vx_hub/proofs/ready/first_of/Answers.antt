use borrow.Author.Count.{below_more}
use Rattle.std.proofs.Common.{◌≡◌, true, arith}
use Rattle.vx_hub.specs.Leases.{NoneFoundAt, class_test}
use Rattle.vx_hub.proofs.ready.first_of.Goals as goal

pub returns-clause-none : goal.returns-clause-none
returns-clause-none g c i within = c.loop-i.invariant i (omega (arith, within))

pub loop-i-preserved : goal.loop-i-preserved
loop-i-preserved g c = below_more (λ k. class_test c.args.class c.args.engine.now.log k ≡ true → NoneFoundAt c.args.engine.now
    c.args.now k) c.loop-i.i c.loop-i.invariant c.in_default.ensures.none
