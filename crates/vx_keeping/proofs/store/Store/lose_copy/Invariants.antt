use Rattle.std.proofs.Common.{◌≡◌, ◌<◌}
use Rattle.vx_keeping.specs.Given.{SameCopies}
use Rattle.vx_keeping.specs.Stored.{copies_stored, parcels_count}
use Rattle.vx_keeping.proofs.store.Store.lose_copy.Given as goal

abbrev pub invariant-loop-copy : goal.invariant-loop-copy
invariant-loop-copy l = record {
  same : SameCopies (copies_stored l.fn.self) (copies_stored l.self);
  room : l.self.taken.room ≡ l.fn.self.taken.room;
  some : 0 < l.self.taken.room;
}

abbrev pub decreases-loop-copy : goal.decreases-loop-copy
decreases-loop-copy l = parcels_count l.self.ready.items l.self.shelf
