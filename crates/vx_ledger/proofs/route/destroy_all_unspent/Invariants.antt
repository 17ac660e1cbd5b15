use Rattle.std.proofs.Common.{length}
use Rattle.vx_ledger.proofs.route.destroy_all_unspent.Given as goal

abbrev pub decreases-loop-child : goal.decreases-loop-child
decreases-loop-child l = length l.rest.items
