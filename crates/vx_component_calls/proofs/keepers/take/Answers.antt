use Rattle.vx_component_calls.proofs.KeptCounts.{taken_live}
use Rattle.vx_component_calls.proofs.keepers.take.Goals as goal

pub returns : goal.returns
returns g c =
    taken_live c.args.keeper.now c.take.new.self c.args.batches.now c.born.new.self c.in-Ok.finalizers c.take.ensures.same c.in-Ok.ensures.exchange c.requires
