use Rattle.vx_ready.proofs.Knowing.{sent_same}
use Rattle.vx_ready.proofs.sources.is_sent.Goals as goal

pub returns : goal.returns
returns g c = sent_same g.P.Port.observed c.args.engine.now c.args.i c.is_sent.result c.requires.stands c.is_sent.ensures.sent
