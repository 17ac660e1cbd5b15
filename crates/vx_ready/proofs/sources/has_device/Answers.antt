use Rattle.vx_ready.proofs.Knowing.{device_is}
use Rattle.vx_ready.proofs.sources.has_device.Goals as goal

pub returns : goal.returns
returns g c = device_is g.P.Port.observed c.args.engine.now c.requires.stands c.args.i c.get.result.now c.get.ensures
