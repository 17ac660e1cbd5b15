use Rattle.std.proofs.Common.{refl}
use Rattle.vx_record.specs.Places.Place.{Outputs}
use Rattle.vx_moves.proofs.Spending.{given_up, may_give_up, nothing_there, spendable, spent_step}
use Rattle.vx_moves.proofs.engine.EngineState.give_up_output.Goals as goal

pub settle-requires : goal.settle-requires
settle-requires g c =
    let may = may_give_up c.args.self.now.log (Outputs c.args.i) c.requires.over c.requires.unleased in
    let is = spendable c.requires.stands may c.in-Some.ensures.loses in
    assumption (is, given_up is refl c.requires.stands.states)

pub returns-clause-spent : goal.returns-clause-spent
returns-clause-spent g c _ =
    let may = may_give_up c.args.self.now.log (Outputs c.args.i) c.requires.over c.requires.unleased in
    spent_step c.requires.stands may c.in-Some.ensures.loses c.settle.ensures.settled c.spend_output.ensures.size c.spend_output.ensures.capacities
    c.settle.ensures.size c.settle.ensures.stays

pub returns-in_default-clause-none : goal.returns-in_default-clause-none
returns-in_default-clause-none g c _ =
    nothing_there c.args.self.now.log c.args.self.now.places (Outputs c.args.i) c.requires.stands.legal c.requires.stands.places c.in_default.ensures.empty
