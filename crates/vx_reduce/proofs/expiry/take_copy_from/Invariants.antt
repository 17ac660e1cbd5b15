use Rattle.std.proofs.Common.{◌≡◌, ℕ, length}
use Rattle.std.specs.Map.{values_of}
use Rattle.vx_reduce.specs.Groups.{copies_held}
use Rattle.vx_reduce.specs.Indexes.{IsIndexed}
use Rattle.vx_reduce.proofs.expiry.take_copy_from.Given as goal

-- the groups so far had no copies
abbrev pub invariant-groups : goal.invariant-groups
invariant-groups l = record {
  indexed : (next : ℕ) → IsIndexed l.fn.index.entries l.fn.entries.entries next → IsIndexed l.index.entries l.entries.entries next;
  same : copies_held (values_of l.entries.entries) ≡ copies_held (values_of l.fn.entries.entries);
}

abbrev pub decreases-groups : goal.decreases-groups
decreases-groups l = length l.entries.entries
