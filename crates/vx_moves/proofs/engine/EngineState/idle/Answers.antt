use Rattle.vx_moves.proofs.Stepping.{plain_step}
use Rattle.vx_moves.proofs.engine.EngineState.idle.Goals as goal

pub returns-clause-steps : goal.returns-clause-steps
returns-clause-steps g c =
    let s = c.requires.stands in
    plain_step s (assumption) (λ j joins. tt) c.requires.may c.requires.left c.note.ensures (c.idle.ensures.knows c.args.self.now.log s.states) c.idle.ensures.size
