use Rattle.vx_places.proofs.Marking.{still_all}
use Rattle.vx_places.proofs.places.Places.reserve_outputs.Goals as goal

pub invariant_of-self : goal.invariant_of-self
invariant_of-self c = still_all c.reserve_outputs.ensures.size c.self.invariant c.reserve_outputs.ensures.same.here
