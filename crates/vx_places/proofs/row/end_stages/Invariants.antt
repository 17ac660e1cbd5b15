use Rattle.vx_places.specs.Calls.{AreEmpty}
use Rattle.std.proofs.Common.{length}
use Rattle.vx_places.proofs.row.end_stages.Given as goal

abbrev pub invariant-loop-stage : goal.invariant-loop-stage
invariant-loop-stage l = AreEmpty l.rest.items

abbrev pub decreases-loop-stage : goal.decreases-loop-stage
decreases-loop-stage l = length l.rest.items
