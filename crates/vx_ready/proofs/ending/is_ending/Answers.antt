use Rattle.std.proofs.Common.{◌∙◌, sym, refl, true, false}
use Rattle.vx_record.specs.Routing.{all_dry, is_named}
use Rattle.vx_ready.proofs.Naming.{ending_there}
use Rattle.vx_ready.proofs.ending.is_ending.Goals as goal

pub returns-then-is_source : goal.returns-then-is_source
returns-then-is_source g c =
    let engine = c.args.engine.now in
    ending_there g.P.Port.observed engine c.requires.stands c.args.i c.requires.within true (all_dry engine.log) (is_named engine.log c.args.i) (sym c.if-is_source.true ∙ c.is_source.ensures) refl refl

pub returns-then-not-are_all_dry : goal.returns-then-not-are_all_dry
returns-then-not-are_all_dry g c =
    let engine = c.args.engine.now in
    ending_there g.P.Port.observed engine c.requires.stands c.args.i c.requires.within false false (is_named engine.log c.args.i) (sym c.if-is_source.false ∙ c.is_source.ensures) (sym c.if-not-are_all_dry.true ∙ c.are_all_dry.ensures) refl

pub returns : goal.returns
returns g c =
    let engine = c.args.engine.now in
    ending_there g.P.Port.observed engine c.requires.stands c.args.i c.requires.within false true c.is_named.result (sym c.if-is_source.false ∙ c.is_source.ensures) (sym c.if-not-are_all_dry.false ∙ c.are_all_dry.ensures) c.is_named.ensures
