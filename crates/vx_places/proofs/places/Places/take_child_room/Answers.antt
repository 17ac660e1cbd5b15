use Rattle.vx_places.proofs.Marking.{still_all}
use Rattle.vx_places.proofs.Steps.{waits_none}
use Rattle.vx_places.proofs.places.Places.take_child_room.Goals as goal

pub returns-clause-same : goal.returns-clause-same
returns-clause-same c = rw c.self.view_is at (waits_none c.take_child_room.ensures.waits)

pub invariant_of-self : goal.invariant_of-self
invariant_of-self c = still_all c.take_child_room.ensures.size c.self.invariant (waits_none c.take_child_room.ensures.waits).here
