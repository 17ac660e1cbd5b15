use Rattle.std.proofs.Common.{length}
use Rattle.vx_places.specs.Marks.{IsUnfilled}
use Rattle.vx_places.proofs.Marking.{before_next}
use Rattle.vx_places.proofs.places.Places.next_filled.Goals as goal

pub returns-clause-unfilled : goal.returns-clause-unfilled
returns-clause-unfilled c = rw c.self.view_is at (before_next (IsUnfilled c.self.inside.rows.items) c.self.inside.marks.filled.items c.args.from (length c.self.inside.rows.items) c.next_marked.result c.self.invariant.filled_size (rw c.deref.ensures.value at c.next_marked.ensures) (λ i. c.self.invariant.unfilled i tt))
