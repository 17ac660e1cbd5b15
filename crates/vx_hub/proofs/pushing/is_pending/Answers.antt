use Rattle.std.proofs.Common.{inr}
use Rattle.vx_hub.proofs.pushing.is_pending.Goals as goal

pub returns-in-Some-clause-work : goal.returns-in-Some-clause-work
returns-in-Some-clause-work g c so = let next = c.in-Some._next in let is = c.in-Some.ensures in
    inr (record { child = next.child; target = next.target; stage = next.stage; oldest = is.oldest; room = is.room; drops = is.drops })
