use Rattle.std.proofs.Common.{length}
use Rattle.vx_hub.proofs.Begun.{AreRoledSo}
use Rattle.vx_hub.proofs.making.role_all.Given as goal

abbrev pub invariant-loop-picker : goal.invariant-loop-picker
invariant-loop-picker l = AreRoledSo l.fn.roles.items l.fn.pickers.items l.pickers.items l.roles.items

abbrev pub decreases-loop-picker : goal.decreases-loop-picker
decreases-loop-picker l = length l.pickers.items
