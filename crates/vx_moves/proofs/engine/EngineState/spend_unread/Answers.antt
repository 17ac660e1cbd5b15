use Rattle.std.proofs.Common.{◌∙◌}
use Rattle.vx_record.specs.Places.Place.{Outputs}
use Rattle.vx_moves.proofs.Leaving.{each_both}
use Rattle.vx_moves.proofs.Spending.{nothing_there, put_so, spendable, spent_step}
use Rattle.vx_moves.proofs.engine.EngineState.spend_unread.Goals as goal

pub settle-requires : goal.settle-requires
settle-requires g c =
    let h = c.args.self.now.log in
    let n = c.in-Some.lost.copy.number in
    let is = spendable c.requires.stands c.requires.may c.in-Some.ensures.loses in
    let so = put_so c.requires.stands c.in-Some.ensures.loses in
    assumption (is, c.unread.ensures.knows h n so.copies so.put so.is c.requires.stands.states is.legal)

pub returns-clause-spent : goal.returns-clause-spent
returns-clause-spent g c _ =
    spent_step c.requires.stands c.requires.may c.in-Some.ensures.loses c.settle.ensures.settled c.spend_output.ensures.size c.spend_output.ensures.capacities
    (c.settle.ensures.size ∙ c.unread.ensures.size) (each_both _ _ _ c.unread.ensures.stays c.settle.ensures.stays)

pub returns-in_default-clause-none : goal.returns-in_default-clause-none
returns-in_default-clause-none g c _ =
    nothing_there c.args.self.now.log c.args.self.now.places (Outputs c.args.i) c.requires.stands.legal c.requires.stands.places c.in_default.ensures.empty
