use Rattle.std.proofs.Common.{◌≡◌, ◌++◌, All, length, drop}
use Rattle.vx_transform.specs.Moves.{NamesPorts}
use Rattle.vx_transform.specs.Shelves.{copies_put_out}
use Rattle.vx_keeping.specs.Given.{SameCopies, IsSound}
use Rattle.vx_keeping.proofs.hosting.gather_full.Given as goal

abbrev pub invariant-loop-shelf : goal.invariant-loop-shelf
invariant-loop-shelf l = record {
  same : SameCopies (copies_put_out (l.fn.ready.items ++ l.fn.shelf.outputs)) (copies_put_out (l.ready.items ++ l.shelf.outputs));
  sound : All (NamesPorts 65) l.fn.shelf.outputs → All IsSound l.fn.ready.items → All (NamesPorts 65) l.shelf.outputs × All IsSound l.ready.items;
  begins : l.ready.items ≡ l.fn.ready.items ++ drop (length l.fn.ready.items) l.ready.items;
  dropped : l.shelf.dropped ≡ l.fn.shelf.dropped;
}

abbrev pub decreases-loop-shelf : goal.decreases-loop-shelf
decreases-loop-shelf l = length l.shelf.outputs
