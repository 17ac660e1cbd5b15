use Rattle.vx_record.specs.Places.Place.{Outputs}
use Rattle.vx_places.proofs.Marking.{still_back}
use Rattle.vx_places.proofs.places.Places.put_output_back.Goals as goal

pub mark-requires-clause-others : goal.mark-requires-clause-others
mark-requires-clause-others c = rw c.deref.ensures.value (still_back c.unpop_output.ensures.size c.self.invariant (Outputs c.args.instance) c.unpop_output.ensures.takes.others)
