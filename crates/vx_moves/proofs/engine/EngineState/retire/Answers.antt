use Rattle.std.proofs.Common.{refl}
use Rattle.vx_moves.proofs.Stepping.{plain_step}
use Rattle.vx_moves.proofs.engine.EngineState.retire.Goals as goal

pub returns-clause-steps : goal.returns-clause-steps
returns-clause-steps g c =
    let s = c.requires.stands in
    plain_step s (assumption) (λ j joins. tt) c.requires.may (λ _. refl) c.note.ensures (c.retired.ensures.knows c.args.self.now.log s.states) c.retired.ensures.size
