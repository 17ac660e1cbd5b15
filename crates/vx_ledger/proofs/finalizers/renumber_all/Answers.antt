use Rattle.std.proofs.Common.{arith, ◌<◌, length}
use Rattle.vx_ledger.proofs.CopyLaws.{renumbered_step}
use Rattle.vx_ledger.proofs.finalizers.renumber_all.Goals as goal

pub loop-finalizer-preserved : goal.loop-finalizer-preserved
loop-finalizer-preserved c =
    let xs = c.deref_mut-finalizer-items.result.now in
    let i = c.loop-finalizer.finalizer-index in
    let l : i < length xs = omega arith in
    let step = renumbered_step c.args.first i xs c.loop-finalizer.finalizer-items c.finalizer-item.result l c.loop-finalizer.invariant.1 c.finalizer-item.is in
    (omega arith, rw (c.set_number.ensures, c.loop-finalizer.invariant.0) (rw c.finalizer-item.is at step))
