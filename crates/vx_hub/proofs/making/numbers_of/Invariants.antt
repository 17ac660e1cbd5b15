use Rattle.vx_hub.specs.Kinds.{kind_test}
use Rattle.vx_hub.proofs.Listing.{AreThoseTo}
use Rattle.vx_hub.proofs.making.numbers_of.Given as goal

abbrev pub invariant-loop-i : goal.invariant-loop-i
invariant-loop-i l = AreThoseTo (kind_test l.kind) l.plan.components l.i l.those.items
