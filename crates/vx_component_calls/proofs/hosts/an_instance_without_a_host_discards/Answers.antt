use Rattle.vx_component_calls.proofs.KeptCounts.{live_still}
use Rattle.vx_component_calls.proofs.hosts.an_instance_without_a_host_discards.Goals as goal

pub put_out-requires : goal.put_out-requires
put_out-requires g c = live_still c.take_two.new.keeper c.answer_by.new.keeper c.take_two.new.batches c.answer_by.ensures c.take_two.ensures
