use Rattle.std.proofs.Common.{◌≡◌, ◌++◌}
use Rattle.std.specs.List.{sum_by}
use Rattle.vx_ledger.specs.Copies.{Copy}
use Rattle.vx_transform.specs.Shelves.{copies_dropped}
use Rattle.vx_keeping.specs.Given.{SameCopies}
use Rattle.vx_keeping.proofs.host_list.leave_line.Given as goal

abbrev pub invariant-loop-taken : goal.invariant-loop-taken
invariant-loop-taken l = record {
  same : SameCopies (copies_dropped l.fn.taken.items ++ l.fn.left.items) (copies_dropped l.taken.items ++ l.left.items);
  room : l.taken.room ≡ l.fn.taken.room;
}

-- how many copies are left
abbrev pub decreases-loop-taken : goal.decreases-loop-taken
decreases-loop-taken l = sum_by (λ (copy : Copy). 1) (copies_dropped l.taken.items)
