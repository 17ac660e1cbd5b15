use Rattle.std.proofs.Common.{◌≡◌, []}
use Rattle.vx_record.specs.Places.{Place, owner}
use Rattle.vx_record.specs.Places.Place.{Outputs, Waiting, Contents, Held}
use Rattle.vx_record.specs.Shifts.{at}
use Rattle.vx_moves.proofs.Spending.{spends_both}
use Rattle.vx_moves.proofs.engine.EngineState.give_up.Goals as goal

pub returns-clause-spent : goal.returns-clause-spent
returns-clause-spent g c =
    spends_both (spends_both (spends_both c.give_up_outputs.ensures.spent c.give_up_children.ensures.spent) c.give_up_buffer.ensures.spent)
    c.give_up_held.ensures.spent

pub returns-clause-bare : goal.returns-clause-bare
returns-clause-bare g c = bare
  where
    bare : (p : Place) → owner p ≡ c.args.i → at c.give_up_held.new.self.log p ≡ []
    bare (Outputs j) own =
        let i = c.args.i in
        rw own (c.give_up_held.ensures.spent.empty (Outputs i)
        (c.give_up_buffer.ensures.spent.empty (Outputs i) (c.give_up_children.ensures.spent.empty (Outputs i) c.give_up_outputs.ensures.none)))
    bare (Waiting j t) own =
        let i = c.args.i in
        rw own (c.give_up_held.ensures.spent.empty (Waiting i t) (c.give_up_buffer.ensures.spent.empty (Waiting i t) (c.give_up_children.ensures.none t)))
    bare (Contents j s) own = rw own (c.give_up_held.ensures.spent.empty (Contents c.args.i s) (c.give_up_buffer.ensures.none s))
    bare (Held j) own = rw own c.give_up_held.ensures.none
