use Rattle.std.proofs.Common.{length}
use Rattle.vx_places.specs.Looks.{HasSent}
use Rattle.vx_places.proofs.Marking.{before_next}
use Rattle.vx_places.proofs.places.Places.next_unsent.Goals as goal

pub returns-clause-sent : goal.returns-clause-sent
returns-clause-sent c = rw c.self.view_is at (before_next (HasSent c.self.inside.rows.items) c.self.inside.marks.unsent.items c.args.from (length c.self.inside.rows.items) c.next_marked.result c.self.invariant.unsent_size (rw c.deref.ensures.value at c.next_marked.ensures) (λ i. c.self.invariant.sent i tt))
