use Rattle.std.proofs.Common.{◌≡◌, length, take, arith}
use Rattle.std.proofs.lemmas.List.{length-take}
use Rattle.vx_record.specs.Records.{capped}
use Rattle.vx_moves.proofs.Stepping.{plain_step}
use Rattle.vx_moves.proofs.engine.EngineState.attempt.Goals as goal

pub returns-clause-steps : goal.returns-clause-steps
returns-clause-steps g c =
    let s = c.requires.stands in
    let all = c.args.all.now.value in
    let many : c.args.sent ≡ capped (length (take c.args.sent all)) = omega (arith, c.ranges.sent.fits, c.requires.fits, length-take c.args.sent all) in
    plain_step s (assumption) (λ j joins. tt) c.requires.may c.requires.left c.note.ensures
    (c.attempted.ensures.knows c.args.self.now.log _ _ many s.states) c.attempted.ensures.size
