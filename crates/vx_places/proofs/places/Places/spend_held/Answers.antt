use Rattle.vx_record.specs.Places.Place.{Held}
use Rattle.vx_places.proofs.Marking.{still_at}
use Rattle.vx_places.proofs.places.Places.spend_held.Goals as goal

pub mark-requires-clause-others : goal.mark-requires-clause-others
mark-requires-clause-others c = rw c.deref.ensures.value (still_at c.in_ok-lost.ensures.size c.self.invariant (Held c.args.instance) c.in_ok-lost.ensures.loses.others)
