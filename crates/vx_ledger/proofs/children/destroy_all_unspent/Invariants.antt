use Rattle.std.proofs.Common.{length}
use Rattle.vx_ledger.proofs.children.destroy_all_unspent.Given as goal

abbrev pub decreases-loop-list : goal.decreases-loop-list
decreases-loop-list l = length l.rest.items
