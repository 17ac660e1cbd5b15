use Rattle.vx_transform.specs.Shelves.{copies_put_out}
use Rattle.vx_component_calls.proofs.KeptCounts.{part_live, rest_live}
use Rattle.vx_component_calls.proofs.keepers.put_out.Goals as goal

pub spend_outputs-requires : goal.spend_outputs-requires
spend_outputs-requires g c =
    part_live c.args.keeper.now c.put_out-outputs.new.self c.args.batches.now (copies_put_out c.put_out-outputs.result) c.put_out-outputs.ensures.same c.requires

pub returns : goal.returns
returns g c =
    rest_live c.args.keeper.now c.put_out-outputs.new.self c.args.batches.now c.spend_outputs.new.batches (copies_put_out c.put_out-outputs.result)
    c.put_out-outputs.ensures.same c.spend_outputs.ensures c.requires
