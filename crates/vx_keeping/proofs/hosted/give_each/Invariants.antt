use Rattle.std.proofs.Common.{◌≡◌, ◌≤◌, ◌+◌, ◌++◌, All, length}
use Rattle.vx_transform.specs.Moves.{NamesPorts}
use Rattle.vx_transform.specs.Shelves.{copies_dropped, copies_on}
use Rattle.vx_keeping.specs.Given.{SameCopies}
use Rattle.vx_keeping.proofs.hosted.give_each.Given as goal

abbrev pub invariant-loop-parcel : goal.invariant-loop-parcel
invariant-loop-parcel g l = record {
  same : SameCopies
      (g.T.Transform.held l.fn.transform ++ (copies_dropped l.fn.taken.items ++ copies_on l.fn.shelf))
      (g.T.Transform.held l.transform ++ (copies_dropped l.taken.items ++ copies_on l.shelf));
  few : length (g.T.Transform.held l.transform) + length (copies_dropped l.taken.items)
      ≤ length (g.T.Transform.held l.fn.transform) + length (copies_dropped l.fn.taken.items);
  named : All (NamesPorts 65) l.fn.shelf.outputs → All (NamesPorts 65) l.shelf.outputs;
  ports : g.T.Transform.port_count l.transform ≡ g.T.Transform.port_count l.fn.transform;
  room : l.taken.room ≡ l.fn.taken.room;
}

abbrev pub decreases-loop-parcel : goal.decreases-loop-parcel
decreases-loop-parcel g l = length l.taken.items
