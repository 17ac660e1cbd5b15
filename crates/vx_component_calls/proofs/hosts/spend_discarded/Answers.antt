use Rattle.std.proofs.Common.{[], ◌∷◌}
use Rattle.vx_component_calls.proofs.KeptCounts.{part_live, rest_live}
use Rattle.vx_component_calls.proofs.hosts.spend_discarded.Goals as goal

pub spend-requires : goal.spend-requires
spend-requires g c =
    part_live c.args.keeper.now c.next_discarded.new.self c.args.batches.now (c.in-Some.copy ∷ []) c.in-Some.ensures.some.same c.requires

pub returns : goal.returns
returns g c =
    rest_live c.args.keeper.now c.next_discarded.new.self c.args.batches.now c.spend.new.self (c.in-Some.copy ∷ []) c.in-Some.ensures.some.same
    c.spend.ensures.exchange c.requires
