use Rattle.std.proofs.Common.{◌≡◌, take}
use Rattle.vx_tasks.specs.Doing.{written}
use Rattle.vx_tasks.proofs.work.encode.Given as goal

abbrev pub invariant-loop-i : goal.invariant-loop-i
invariant-loop-i l = l.out ≡ written l.codec (take l.i l.parcels.items)
