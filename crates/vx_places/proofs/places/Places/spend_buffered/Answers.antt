use Rattle.vx_record.specs.Places.Place.{Contents}
use Rattle.vx_places.proofs.Marking.{still_at}
use Rattle.vx_places.proofs.places.Places.spend_buffered.Goals as goal

pub mark-requires-clause-others : goal.mark-requires-clause-others
mark-requires-clause-others c = rw c.deref.ensures.value (still_at c.in_ok-lost.ensures.size c.self.invariant (Contents c.args.instance c.args.stage) c.in_ok-lost.ensures.loses.others)
