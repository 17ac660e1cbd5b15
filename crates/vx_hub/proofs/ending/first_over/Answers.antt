use borrow.Author.Count.{below_more}
use Rattle.std.proofs.Common.{arith}
use Rattle.vx_record.specs.Ending.{MayRetire}
use Rattle.vx_hub.proofs.ending.first_over.Goals as goal

pub loop-i-preserved : goal.loop-i-preserved
loop-i-preserved g c well = below_more (λ k. MayRetire c.args.engine.now.log k → ⊥) c.loop-i.i
    (c.loop-i.invariant well) (c.may_retire.ensures.not c.if-may_retire.false well)

pub returns-clause-none : goal.returns-clause-none
returns-clause-none g c well i l = c.loop-i.invariant well i (let size = c.requires.stands.states.size in omega (arith, size, l))
