use Rattle.std.proofs.Common.{◌∙◌, ap, sym, slice_get}
use Rattle.vx_moves.specs.declared.engine.EngineState.{EngineState}
use Rattle.vx_hub.proofs.Moving.{planned_drops}
use Rattle.vx_hub.proofs.dropping.drops_newest.Goals as goal

pub returns-in-Some : goal.returns-in-Some
returns-in-Some g c =
    let at = ap (λ (engine : EngineState _). slice_get engine.run.plan.components c.args.target) (sym c.engine.view_is) ∙ sym c.in-Some.ensures in
    c.does_component.ensures ∙ sym (planned_drops c.requires.stands c.args.target at)

pub returns-in-None : goal.returns-in-None
returns-in-None g c =
    let past = ap (λ (engine : EngineState _). slice_get engine.run.plan.components c.args.target) (sym c.engine.view_is) ∙ sym c.in-None.ensures in
    sym (planned_drops c.requires.stands c.args.target past)
