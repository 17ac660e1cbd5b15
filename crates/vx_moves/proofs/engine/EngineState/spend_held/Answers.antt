use Rattle.std.proofs.Common.{◌∙◌}
use Rattle.vx_record.specs.Places.Place.{Held}
use Rattle.vx_moves.proofs.Leaving.{each_both}
use Rattle.vx_moves.proofs.Moving.{seen_kept}
use Rattle.vx_moves.proofs.Spending.{held_so, nothing_there, spendable, spent_step, taken_so}
use Rattle.vx_moves.proofs.engine.EngineState.spend_held.Goals as goal

pub spend_held-requires-clause-kept : goal.spend_held-requires-clause-kept
spend_held-requires-clause-kept g c = seen_kept c.args.self.now.places c.args.i (rw c.requires.stands.size c.requires.within) c.requires.kept

pub settle-requires : goal.settle-requires
settle-requires g c =
    let h = c.args.self.now.log in
    let n = c.in-Some.lost.copy.number in
    let is = spendable c.requires.stands c.requires.may c.in-Some.ensures.loses in
    let so = held_so h c.args.i n c.args.outcome is.legal is.there in
    let first = taken_so c.requires.stands c.in-Some.ensures.loses in
    assumption (is, c.spent.ensures.knows h n so.0 so.1 (λ sink. first) c.requires.stands.states is.legal)

pub returns-clause-spent : goal.returns-clause-spent
returns-clause-spent g c _ =
    spent_step c.requires.stands c.requires.may c.in-Some.ensures.loses c.settle.ensures.settled c.spend_held.ensures.size c.spend_held.ensures.capacities
    (c.settle.ensures.size ∙ c.spent.ensures.size) (each_both _ _ _ c.spent.ensures.stays c.settle.ensures.stays)

pub returns-in_default-clause-none : goal.returns-in_default-clause-none
returns-in_default-clause-none g c _ =
    nothing_there c.args.self.now.log c.args.self.now.places (Held c.args.i) c.requires.stands.legal c.requires.stands.places c.in_default.ensures.empty
