use Rattle.vx_moves.proofs.Stepping.{plain_step}
use Rattle.vx_moves.proofs.engine.EngineState.lose.Goals as goal

pub returns-clause-steps : goal.returns-clause-steps
returns-clause-steps g c =
    let h = c.args.self.now.log in
    let s = c.requires.stands in
    let after = c.lost-at.ensures.after h c.requires.fit c.requires.may.turn.source s.states in
    plain_step s (assumption) (λ j joins. tt) c.requires.may c.requires.left (rw after at c.note.ensures)
    (rw after at (c.lost-at.ensures.knows h c.args.failed s.states)) c.lost-at.ensures.size
