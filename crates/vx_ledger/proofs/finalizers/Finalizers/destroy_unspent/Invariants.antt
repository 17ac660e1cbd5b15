use Rattle.std.proofs.Common.{length}
use Rattle.vx_ledger.proofs.finalizers.Finalizers.destroy_unspent.Given as goal

abbrev pub decreases-loop-finalizer : goal.decreases-loop-finalizer
decreases-loop-finalizer l = length l.rest
