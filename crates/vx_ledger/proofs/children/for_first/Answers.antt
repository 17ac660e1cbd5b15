use Rattle.std.proofs.Common.{arith}
use Rattle.vx_ledger.proofs.CopyLaws.{children_of_more}
use Rattle.vx_ledger.proofs.children.for_first.Goals as goal

pub loop-preserved : goal.loop-preserved
loop-preserved c =
    let more = children_of_more c.loop.counter c.args.first c.args.parent.now in (
      grind (arith, more, c.in-Ok.ensures, c.push_reserved.ensures.items, c.loop.invariant.0, c.loop.invariant.1),
      omega (arith, c.len-number.ensures),
      omega (arith, c.push_reserved.ensures.len),
      omega (arith, c.push_reserved.ensures.capacity),
    )
