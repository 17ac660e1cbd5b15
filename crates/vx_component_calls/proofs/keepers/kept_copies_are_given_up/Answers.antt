use Rattle.vx_component_calls.proofs.KeptCounts.{live_still}
use Rattle.vx_component_calls.proofs.keepers.kept_copies_are_given_up.Goals as goal

pub give_up_all-requires : goal.give_up_all-requires
give_up_all-requires g c =
    live_still c.fail.new.self c.answer.new.keeper c.take-3.new.batches c.answer.ensures
    (live_still c.take-3.new.keeper c.fail.new.self c.take-3.new.batches c.fail.ensures.same c.take-3.ensures)
