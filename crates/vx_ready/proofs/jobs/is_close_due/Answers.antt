use Rattle.std.proofs.Common.{◌∙◌, sym}
use Rattle.vx_ready.proofs.Working.{close_never, close_there}
use Rattle.vx_ready.proofs.jobs.is_close_due.Goals as goal

pub returns-then-has_device : goal.returns-then-has_device
returns-then-has_device g c =
    c.is_done.ensures ∙ close_there g.P.Port.observed c.args.engine.now c.requires.stands c.args.i c.requires.within c.requires.settled c.requires.open (sym c.has_device.ensures ∙ c.if-has_device.true)

pub returns-else-has_device : goal.returns-else-has_device
returns-else-has_device g c = c.if-has_device.false ∙ close_never c.args.engine.now.log c.args.i (sym c.has_device.ensures ∙ c.if-has_device.false)
