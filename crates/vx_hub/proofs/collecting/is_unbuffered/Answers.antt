use Rattle.vx_ready.proofs.Done.{unbuffered_is}
use Rattle.vx_hub.proofs.collecting.is_unbuffered.Goals as goal

pub returns : goal.returns
returns g c = unbuffered_is g.P.Port.observed c.args.engine.now c.args.i c.is_empty_buffer.result c.requires.stands c.is_empty_buffer.ensures.buffer
