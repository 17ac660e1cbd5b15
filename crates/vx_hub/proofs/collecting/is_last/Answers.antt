use Rattle.std.proofs.Common.{◌∙◌, sym, refl, true, false}
use Rattle.vx_record.specs.Routing.{is_ending}
use Rattle.vx_ready.proofs.Closed.{last_is}
use Rattle.vx_hub.proofs.collecting.is_last.Goals as goal

pub returns-then-is_unbuffered : goal.returns-then-is_unbuffered
returns-then-is_unbuffered g c = last_is c.args.engine.now.log c.args.i true c.is_ending.result
    (sym c.if-is_unbuffered.true ∙ c.is_unbuffered.ensures) c.is_ending.ensures

pub returns-else-is_unbuffered : goal.returns-else-is_unbuffered
returns-else-is_unbuffered g c = c.if-is_unbuffered.false
    ∙ last_is c.args.engine.now.log c.args.i false (is_ending c.args.engine.now.log c.args.i) (sym c.if-is_unbuffered.false ∙ c.is_unbuffered.ensures) refl
