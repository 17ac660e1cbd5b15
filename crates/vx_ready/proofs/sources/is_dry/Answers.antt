use Rattle.std.proofs.Common.{◌∙◌, ap, ◌&&◌, ◌||◌}
use Rattle.vx_ready.specs.Asking.{source_class}
use Rattle.vx_ready.proofs.Knowing.{dry_is}
use Rattle.vx_ready.proofs.sources.is_dry.Goals as goal

pub returns : goal.returns
returns g c =
    let state = c.get-state.result.now in
    c.takes_none.ensures ∙ ap (λ b. source_class state.class && (state.facts.over || b)) c.is_some.ensures
    ∙ dry_is g.P.Port.observed c.args.engine.now c.requires.stands c.args.i state c.get-state.ensures
