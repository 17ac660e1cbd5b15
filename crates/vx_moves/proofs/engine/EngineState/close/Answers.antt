use Rattle.std.proofs.Common.{refl}
use Rattle.vx_moves.proofs.Stepping.{plain_step}
use Rattle.vx_moves.proofs.engine.EngineState.close.Goals as goal

pub returns-clause-steps : goal.returns-clause-steps
returns-clause-steps g c =
    let s = c.requires.stands in
    plain_step s (assumption) (λ j joins. tt) c.requires.may (λ _. refl) c.note.ensures (c.closed.ensures.knows c.args.self.now.log c.requires.shut s.states) c.closed.ensures.size
