use Rattle.std.proofs.Common.{arith}
use Rattle.vx_hub.proofs.Moving.{none_past}
use Rattle.vx_hub.proofs.pushing.room_of.Goals as goal

pub returns-then-target-len-clause-none : goal.returns-then-target-len-clause-none
returns-then-target-len-clause-none g c stage = let size = c.len.ensures in let past = c.if-target-len.true in
    none_past c.requires.stands c.args.target stage (omega (arith, size, past))
