use Rattle.std.proofs.Common.{length}
use Rattle.vx_places.specs.Calls.{EachVacant}
use Rattle.vx_places.proofs.rows.end_rows.Given as goal

abbrev pub invariant-loop-row : goal.invariant-loop-row
invariant-loop-row l = EachVacant l.rest.items

abbrev pub decreases-loop-row : goal.decreases-loop-row
decreases-loop-row l = length l.rest.items
