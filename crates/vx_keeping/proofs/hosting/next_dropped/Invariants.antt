use Rattle.std.proofs.Common.{◌≡◌, ◌<◌, ◌++◌, length}
use Rattle.vx_transform.specs.Shelves.{copies_dropped}
use Rattle.vx_keeping.specs.Given.{SameCopies}
use Rattle.vx_keeping.proofs.hosting.next_dropped.Given as goal

abbrev pub invariant-loop-copy : goal.invariant-loop-copy
invariant-loop-copy l = record {
  same : SameCopies (copies_dropped l.fn.taken.items ++ copies_dropped l.fn.shelf.dropped) (copies_dropped l.taken.items ++ copies_dropped l.shelf.dropped);
  outputs : l.shelf.outputs ≡ l.fn.shelf.outputs;
  room : l.taken.room ≡ l.fn.taken.room;
  some : 0 < l.taken.room;
}

abbrev pub decreases-loop-copy : goal.decreases-loop-copy
decreases-loop-copy l = length l.shelf.dropped
