use Rattle.std.proofs.Common.{Some, refl}
use Rattle.vx_places.proofs.Firsts.{first_room_is}
use Rattle.vx_instances.proofs.Aside.{aside_known}
use Rattle.vx_moves.proofs.Leaving.{each_stays}
use Rattle.vx_moves.proofs.Stepping.{never_both}
use Rattle.vx_moves.proofs.Moving.{moves_step}
use Rattle.vx_moves.proofs.engine.EngineState.push.Goals as goal

pub returns-clause-steps : goal.returns-clause-steps
returns-clause-steps g c =
    let d = c.args.self.now in
    let s = c.requires.stands in
    let room = first_room_is d.log d.places c.args.target (Some c.args.stage) s.legal s.places (s.capacities.stages c.args.target) c.requires.room in
    moves_step s c.push.ensures.moves (assumption) tt (λ j joins. tt) tt (λ oldest. record { unleased = c.requires.unleased; oldest = oldest; room = room })
    (never_both c.requires.going) c.note.ensures
    (λ legal. aside_known g.P.Port.observed _ d.log d.states tt legal s.states) c.push.ensures.size refl c.push.ensures.capacities

pub returns-clause-leaves : goal.returns-clause-leaves
returns-clause-leaves g c = record { states = each_stays c.args.self.now.states; capacities = c.push.ensures.capacities; run = refl }
