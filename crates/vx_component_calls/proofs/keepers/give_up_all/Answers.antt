use Rattle.std.proofs.Common.{[], ◌∷◌}
use Rattle.vx_component_calls.proofs.KeptCounts.{part_live, rest_live}
use Rattle.vx_component_calls.proofs.keepers.give_up_all.Goals as goal

pub spend-requires : goal.spend-requires
spend-requires g c =
    part_live c.loop-copy.keeper c.give_up.new.self c.loop-copy.batches (c.in-Some.copy ∷ []) c.in-Some.ensures.some.same c.loop-copy.invariant

pub loop-copy-preserved : goal.loop-copy-preserved
loop-copy-preserved g c =
    rest_live c.loop-copy.keeper c.give_up.new.self c.loop-copy.batches c.spend.new.self (c.in-Some.copy ∷ []) c.in-Some.ensures.some.same
    c.spend.ensures.exchange c.loop-copy.invariant
