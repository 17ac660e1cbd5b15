use Rattle.vx_component_calls.proofs.KeptCounts.{live_still}
use Rattle.vx_component_calls.proofs.keepers.feed.Goals as goal

pub returns-then-not-answer : goal.returns-then-not-answer
returns-then-not-answer g c = live_still c.take_two.new.keeper c.answer.new.keeper c.take_two.new.batches c.answer.ensures c.take_two.ensures

pub put_out-requires : goal.put_out-requires
put_out-requires g c = live_still c.take_two.new.keeper c.answer.new.keeper c.take_two.new.batches c.answer.ensures c.take_two.ensures
