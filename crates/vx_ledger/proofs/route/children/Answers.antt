use Rattle.std.proofs.Common.{arith, refl}
use Rattle.vx_ledger.proofs.RouteLaws.{children_for_step}
use Rattle.vx_ledger.proofs.route.children.Goals as goal

pub loop-target-preserved : goal.loop-target-preserved
loop-target-preserved c =
    let step = children_for_step c.args.targets.now c.loop-target.target-index c.args.first c.args.parcel.now (omega arith) in (
      rw (c.push_reserved.ensures.items, c.loop-target.invariant.0, c.in-Ok.ensures, c.loop-target.invariant.1, step) refl,
      omega (arith, c.len-number.ensures),
      omega (arith, c.push_reserved.ensures.len),
      omega (arith, c.push_reserved.ensures.capacity),
    )
