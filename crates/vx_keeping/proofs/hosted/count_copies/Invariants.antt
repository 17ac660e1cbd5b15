use Rattle.std.proofs.Common.{◌≡◌, length, take}
use Rattle.vx_transform.specs.Shelves.{copies_dropped}
use Rattle.vx_keeping.proofs.hosted.count_copies.Given as goal

abbrev pub invariant-loop-i : goal.invariant-loop-i
invariant-loop-i l = l.count ≡ length (copies_dropped (take l.i l.taken.items))
