use Rattle.std.proofs.Common.{refl, sym}
use Rattle.vx_places.proofs.Steps.{lent_comes_back}
use Rattle.vx_moves.proofs.Moving.{held_stands}
use Rattle.vx_moves.proofs.engine.EngineState.give_back.Goals as goal

pub returns-clause-stands : goal.returns-clause-stands
returns-clause-stands g c =
    let s = c.requires.stands in
    let lends = c.give_back.ensures.lends in
    let capacities = c.give_back.ensures.capacities in
    let held = c.requires.held in
    held_stands c.args.i s c.requires.alone (lent_comes_back c.args.self.now.log c.args.i c.args.held.items c.args.self.now.places c.give_back.new.self lends
    held.held held.known s.places)
    (λ p other. sym (lends.others p other)) (λ _. rw lends.was refl) (λ j. sym (capacities.stages j)) (λ j other. sym (capacities.others j other))
    (rw capacities.was c.requires.room)
    c.give_back.ensures.size
