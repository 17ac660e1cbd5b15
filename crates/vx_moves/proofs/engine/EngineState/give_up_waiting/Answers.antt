use Rattle.std.proofs.Common.{refl}
use Rattle.vx_record.specs.Places.Place.{Waiting}
use Rattle.vx_places.proofs.Looking.{none_waits_for}
use Rattle.vx_moves.proofs.Spending.{given_up, may_give_up, seen_none, spendable, spent_step, waits_some}
use Rattle.vx_moves.proofs.engine.EngineState.give_up_waiting.Goals as goal

pub unreachable-requires : goal.unreachable-requires
unreachable-requires g c =
    let s = c.requires.stands in
    waits_some c.args.self.now.log c.args.self.now.places c.args.i c.in-Some.target 0 s.legal s.places c.in-Some.ensures.oldest
    c.in_default-spend_waiting.ensures.empty

pub settle-requires : goal.settle-requires
settle-requires g c =
    let may = may_give_up c.args.self.now.log (Waiting c.args.i c.in-Some.target) c.requires.over c.requires.unleased in
    let is = spendable c.requires.stands may c.in-Some-spend_waiting.ensures.loses in
    assumption (is, given_up is refl c.requires.stands.states)

pub returns-clause-spent : goal.returns-clause-spent
returns-clause-spent g c _ =
    let may = may_give_up c.args.self.now.log (Waiting c.args.i c.in-Some.target) c.requires.over c.requires.unleased in (
      c.in-Some.target,
      spent_step c.requires.stands may c.in-Some-spend_waiting.ensures.loses c.settle.ensures.settled c.spend_waiting.ensures.size c.spend_waiting.ensures.capacities
          c.settle.ensures.size c.settle.ensures.stays,
    )

pub returns-in_default-clause-none : goal.returns-in_default-clause-none
returns-in_default-clause-none g c _ target =
    let rows = c.args.self.now.places in
    seen_none c.args.self.now.log rows (Waiting c.args.i target) c.requires.stands.places (none_waits_for rows c.args.i target c.in_default.ensures.none)
