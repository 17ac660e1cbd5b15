use Rattle.std.proofs.Common.{arith, ◌≡◌, ◌+◌}
use Rattle.vx_ledger.specs.Copies.{copies_of}
use Rattle.vx_ledger.specs.Routing.{copies_in}
use Rattle.vx_ledger.proofs.RouteLaws.{copies_of-copies_in_push}
use Rattle.vx_component_calls.proofs.ledgers.spend_children.Goals as goal

pub spend_parcel-requires : goal.spend_parcel-requires
spend_parcel-requires g c = λ b p.
    let rest : copies_of b p (copies_in c.loop-child.rest) ≡ copies_of b p (copies_in c.pop.new.self) + copies_of b p c.in-Some.child.parcel.finalizers = rw c.in-Some.ensures.some (copies_of-copies_in_push b p c.pop.new.self c.in-Some.child) in
    omega (arith, rest, c.loop-child.invariant b p)

pub loop-child-preserved : goal.loop-child-preserved
loop-child-preserved g c = λ b p.
    let rest : copies_of b p (copies_in c.loop-child.rest) ≡ copies_of b p (copies_in c.pop.new.self) + copies_of b p c.in-Some.child.parcel.finalizers = rw c.in-Some.ensures.some (copies_of-copies_in_push b p c.pop.new.self c.in-Some.child) in
    omega (arith, rest, c.loop-child.invariant b p, c.spend_parcel.ensures b p)
