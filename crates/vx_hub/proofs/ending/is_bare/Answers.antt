use Rattle.std.proofs.Common.{Bool, ◌&&◌, ◌∙◌, refl, sym, ap}
use Rattle.vx_value.specs.Texts.{is_empty}
use Rattle.vx_record.specs.Places.Place.{Held}
use Rattle.vx_record.specs.Shifts.{at}
use Rattle.vx_ready.proofs.Knowing.{state_there}
use Rattle.vx_hub.proofs.Endings.{bare_seen, bare_kept}
use Rattle.vx_hub.proofs.ending.is_bare.Goals as goal

pub returns-then-is_clear : goal.returns-then-is_clear
returns-then-is_clear g c =
    let there = state_there c.args.engine.now.states c.args.i c.requires.within in
    ap (λ (b : Bool). b && c.keeps_none.result) (sym c.if-is_clear.true)
    ∙ bare_kept c.requires.stands c.args.i there.1 c.is_clear.result c.keeps_none.result c.is_clear.ensures.clear c.keeps_none.ensures

pub returns-else-is_clear : goal.returns-else-is_clear
returns-else-is_clear g c =
    let there = state_there c.args.engine.now.states c.args.i c.requires.within in
    let none = is_empty (at c.args.engine.now.log (Held c.args.i)) in
    c.if-is_clear.false
    ∙ ap (λ (b : Bool). b && none) (sym c.if-is_clear.false)
    ∙ bare_kept c.requires.stands c.args.i there.1 c.is_clear.result none c.is_clear.ensures.clear refl

pub returns-else-merges : goal.returns-else-merges
returns-else-merges g c = let there = state_there c.args.engine.now.states c.args.i c.requires.within in
    bare_seen c.requires.stands c.args.i there.1 c.requires.within c.requires.unleased (sym c.merges.ensures ∙ c.if-merges.false) c.is_bare.result c.is_bare.ensures.bare
