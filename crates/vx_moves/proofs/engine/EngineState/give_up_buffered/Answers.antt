use Rattle.std.proofs.Common.{refl}
use Rattle.vx_record.specs.Places.Place.{Contents}
use Rattle.vx_moves.proofs.Spending.{given_up, may_give_up, none_filled_there, spendable, spent_step, stage_some}
use Rattle.vx_moves.proofs.engine.EngineState.give_up_buffered.Goals as goal

pub unreachable-requires : goal.unreachable-requires
unreachable-requires g c =
    let s = c.requires.stands in
    let first = rw c.in-Some.is at c.first_filled.ensures.first in
    stage_some c.args.self.now.log c.args.self.now.places c.args.i c.in-Some.stage s.legal s.places first.0 c.in_default-spend_buffered.ensures.empty

pub settle-requires : goal.settle-requires
settle-requires g c =
    let may = may_give_up c.args.self.now.log (Contents c.args.i c.in-Some.stage) c.requires.over c.requires.unleased in
    let is = spendable c.requires.stands may c.in-Some-spend_buffered.ensures.loses in
    assumption (is, given_up is refl c.requires.stands.states)

pub returns-clause-spent : goal.returns-clause-spent
returns-clause-spent g c _ =
    let may = may_give_up c.args.self.now.log (Contents c.args.i c.in-Some.stage) c.requires.over c.requires.unleased in (
      c.in-Some.stage,
      spent_step c.requires.stands may c.in-Some-spend_buffered.ensures.loses c.settle.ensures.settled c.spend_buffered.ensures.size c.spend_buffered.ensures.capacities
          c.settle.ensures.size c.settle.ensures.stays,
    )

pub returns-in_default-clause-none : goal.returns-in_default-clause-none
returns-in_default-clause-none g c _ =
    let first = rw c.in_default.is at c.first_filled.ensures.first in
    none_filled_there c.args.self.now.log c.args.self.now.places c.args.i c.requires.stands.legal c.requires.stands.places first
