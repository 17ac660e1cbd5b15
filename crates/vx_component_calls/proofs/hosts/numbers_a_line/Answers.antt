use Rattle.vx_component_calls.proofs.KeptCounts.{live_still}
use Rattle.vx_component_calls.proofs.hosts.numbers_a_line.Goals as goal

pub put_out_two-requires : goal.put_out_two-requires
put_out_two-requires g c = live_still c.take-2.new.keeper c.answer_by.new.keeper c.take-2.new.batches c.answer_by.ensures c.take-2.ensures
