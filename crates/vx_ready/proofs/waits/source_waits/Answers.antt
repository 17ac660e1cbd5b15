use Rattle.std.proofs.Common.{◌∙◌, sym, true, false}
use Rattle.vx_ready.proofs.Knowing.{waits_at}
use Rattle.vx_ready.proofs.waits.source_waits.Goals as goal

pub returns-then-gives_more : goal.returns-then-gives_more
returns-then-gives_more g c = waits_at g.P.Port.observed c.args.engine.now c.requires.stands c.args.i c.get.result.now c.get.ensures true (sym c.if-gives_more.true ∙ c.gives_more.ensures)

pub returns-else-gives_more : goal.returns-else-gives_more
returns-else-gives_more g c = waits_at g.P.Port.observed c.args.engine.now c.requires.stands c.args.i c.get.result.now c.get.ensures false (sym c.if-gives_more.false ∙ c.gives_more.ensures)
