use Rattle.vx_places.proofs.Steps.{births_put}
use Rattle.vx_record.specs.Places.Place.{Outputs}
use Rattle.vx_places.proofs.Marking.{still_at}
use Rattle.vx_places.proofs.places.Places.put_out.Goals as goal

pub returns-clause-puts : goal.returns-clause-puts
returns-clause-puts c = rw c.self.view_is at (births_put c.args.outputs c.append_outputs.ensures.puts c.append_outputs.ensures.added)

pub mark-requires-clause-others : goal.mark-requires-clause-others
mark-requires-clause-others c = rw c.deref.ensures.value (still_at c.append_outputs.ensures.size c.self.invariant (Outputs c.args.instance) c.append_outputs.ensures.puts.others)
