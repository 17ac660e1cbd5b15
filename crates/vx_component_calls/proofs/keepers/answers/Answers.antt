use Rattle.vx_component_calls.proofs.KeptCounts.{live_still}
use Rattle.vx_component_calls.proofs.keepers.answers.Goals as goal

pub put_out-requires : goal.put_out-requires
put_out-requires g c = live_still c.args.keeper.now c.answer.new.keeper c.args.batches.now c.answer.ensures c.requires
