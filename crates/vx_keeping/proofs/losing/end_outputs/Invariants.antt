use Rattle.std.proofs.Common.{◌≡◌, [], length}
use Rattle.vx_transform.specs.Shelves.{copies_put_out}
use Rattle.vx_keeping.proofs.losing.end_outputs.Given as goal

abbrev pub invariant-loop-output : goal.invariant-loop-output
invariant-loop-output l = copies_put_out l.rest.items ≡ []

abbrev pub decreases-loop-output : goal.decreases-loop-output
decreases-loop-output l = length l.rest.items
