use Rattle.std.proofs.Common.{◌∙◌, ap}
use Rattle.std.specs.Prelude.{◌&&◌}
use Rattle.vx_ready.proofs.Knowing.{due_is}
use Rattle.vx_ready.proofs.sources.is_confirm_due.Goals as goal

pub returns : goal.returns
returns g c =
    let state = c.get-state.result.now in
    c.both.ensures ∙ ap (λ b. state.device && b) c.is_due.ensures
    ∙ due_is g.P.Port.observed c.args.engine.now c.requires.stands c.args.i state c.get-state.ensures c.requires.settled
