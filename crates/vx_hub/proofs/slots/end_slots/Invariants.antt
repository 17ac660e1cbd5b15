use Rattle.std.proofs.Common.{length}
use Rattle.vx_hub.specs.Making.{AreBare}
use Rattle.vx_hub.proofs.slots.end_slots.Given as goal

abbrev pub invariant-loop-slot : goal.invariant-loop-slot
invariant-loop-slot l = AreBare l.rest.items

abbrev pub decreases-loop-slot : goal.decreases-loop-slot
decreases-loop-slot l = length l.rest.items
