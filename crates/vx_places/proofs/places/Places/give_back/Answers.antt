use Rattle.vx_record.specs.Places.Place.{Held}
use Rattle.vx_places.proofs.Marking.{still_back}
use Rattle.vx_places.proofs.places.Places.give_back.Goals as goal

pub mark-requires-clause-others : goal.mark-requires-clause-others
mark-requires-clause-others c = rw c.deref.ensures.value (still_back c.give_back.ensures.size c.self.invariant (Held c.args.instance) c.give_back.ensures.lends.others)
