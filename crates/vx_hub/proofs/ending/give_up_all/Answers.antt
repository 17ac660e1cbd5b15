use Rattle.vx_hub.proofs.Endings.{one_more, still_over}
use Rattle.vx_hub.proofs.ending.give_up_all.Goals as goal

pub give_up_at-requires-clause-over : goal.give_up_at-requires-clause-over
give_up_at-requires-clause-over g c = still_over c.loop-i.invariant c.requires.over

pub loop-i-preserved : goal.loop-i-preserved
loop-i-preserved g c = one_more c.loop-i.invariant c.give_up_at.ensures
