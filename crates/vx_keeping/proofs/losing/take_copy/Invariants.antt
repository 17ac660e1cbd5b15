use Rattle.std.proofs.Common.{◌≡◌, length}
use Rattle.vx_transform.specs.Shelves.{copies_dropped}
use Rattle.vx_keeping.proofs.losing.take_copy.Given as goal

-- only parcels without copies are gone
abbrev pub invariant-loop-parcel : goal.invariant-loop-parcel
invariant-loop-parcel l = record {
  copies : copies_dropped l.fn.line.items ≡ copies_dropped l.line.items;
  room : l.line.room ≡ l.fn.line.room;
}

abbrev pub decreases-loop-parcel : goal.decreases-loop-parcel
decreases-loop-parcel l = length l.line.items
