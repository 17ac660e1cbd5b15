use Rattle.vx_record.specs.Places.Place.{Held}
use Rattle.vx_places.proofs.Marking.{still_at}
use Rattle.vx_places.proofs.places.Places.lend.Goals as goal

pub mark-requires-clause-others : goal.mark-requires-clause-others
mark-requires-clause-others c = rw c.deref.ensures.value (still_at c.lend-held.ensures.size c.self.invariant (Held c.args.instance) c.lend-held.ensures.lends.others)
