use Rattle.vx_places.proofs.Steps.{children_divide}
use Rattle.vx_places.proofs.Marking.{other_child, still_but}
use Rattle.vx_places.proofs.places.Places.put_children.Goals as goal

pub returns-clause-divides : goal.returns-clause-divides
returns-clause-divides c = rw c.self.view_is at (children_divide c.put_children.ensures.waits)

pub mark-requires-clause-others : goal.mark-requires-clause-others
mark-requires-clause-others c = rw c.deref.ensures.value (still_but c.put_children.ensures.size c.self.invariant c.args.instance (λ p other. c.put_children.ensures.waits.others p (other_child c.args.instance p other)))
