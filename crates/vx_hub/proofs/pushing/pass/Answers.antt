use Rattle.std.proofs.Common.{refl, ap, inr, arith}
use Rattle.vx_hub.specs.Pushing.{pushes}
use Rattle.vx_hub.proofs.Moving.{may_spend_newest, moved_by, moved_spent, spent_enters, grew_by, noted_grew}
use Rattle.vx_hub.proofs.pushing.pass.Goals as goal

pub returns-in-Some : goal.returns-in-Some
returns-in-Some g c = record {
  moved = moved_by c.push.ensures.steps c.push.ensures.leaves refl;
  entered = ap pushes c.push.ensures.steps.noted;
  one = omega arith;
  grew = grew_by c.push.ensures.steps.noted;
}

pub spend_newest-requires-clause-may : goal.spend_newest-requires-clause-may
spend_newest-requires-clause-may g c =
    may_spend_newest c.requires.stands c.args.i c.args.next.target c.args.next.stage c.requires.going c.requires.room c.requires.drops c.in-None.is

pub returns-in-None : goal.returns-in-None
returns-in-None g c = let spent = c.spend_newest.ensures.spent in
    record { moved = moved_spent spent (inr refl); entered = spent_enters spent.noted; one = omega arith; grew = noted_grew spent.noted }
