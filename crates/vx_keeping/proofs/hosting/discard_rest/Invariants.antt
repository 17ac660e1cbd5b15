use Rattle.std.proofs.Common.{◌≡◌, ◌<◌, ◌++◌, length, drop}
use Rattle.std.specs.List.{sum_by}
use Rattle.vx_ledger.specs.Copies.{Copy}
use Rattle.vx_transform.specs.Shelves.{copies_dropped}
use Rattle.vx_keeping.specs.Given.{SameCopies}
use Rattle.vx_keeping.proofs.hosting.discard_rest.Given as goal

abbrev pub invariant-loop-taken : goal.invariant-loop-taken
invariant-loop-taken l = record {
  same : SameCopies
      (copies_dropped l.fn.taken.items ++ (copies_dropped l.fn.shelf.dropped ++ l.fn.discarded.items))
      (copies_dropped l.taken.items ++ (copies_dropped l.shelf.dropped ++ l.discarded.items));
  begins : l.discarded.items ≡ l.fn.discarded.items ++ drop (length l.fn.discarded.items) l.discarded.items;
  outputs : l.shelf.outputs ≡ l.fn.shelf.outputs;
  room : l.taken.room ≡ l.fn.taken.room;
  some : 0 < l.taken.room;
}

-- how many copies are left
abbrev pub decreases-loop-taken : goal.decreases-loop-taken
decreases-loop-taken l = sum_by (λ (copy : Copy). 1) (copies_dropped l.taken.items ++ copies_dropped l.shelf.dropped)
