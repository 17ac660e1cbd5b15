use Rattle.std.proofs.Common.{◌≡◌, ◌++◌, length}
use Rattle.vx_keeping.proofs.giving.gather.Given as goal

abbrev pub invariant-loop-shelf : goal.invariant-loop-shelf
invariant-loop-shelf l = record {
  all : l.ready.items ++ l.shelf.outputs ≡ l.fn.ready.items ++ l.fn.shelf.outputs;
  dropped : l.shelf.dropped ≡ l.fn.shelf.dropped;
}

abbrev pub decreases-loop-shelf : goal.decreases-loop-shelf
decreases-loop-shelf l = length l.shelf.outputs
