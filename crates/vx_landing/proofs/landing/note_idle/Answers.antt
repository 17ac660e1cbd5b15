use Rattle.std.proofs.Common.{refl}
use Rattle.vx_landing.proofs.Answering.{left_out, noted}
use Rattle.vx_landing.proofs.landing.note_idle.Goals as goal

pub idle-requires-clause-left : goal.idle-requires-clause-left
idle-requires-clause-left g c = left_out c.args.engine.now.log c.args.i c.requires.stands.legal c.requires.out

pub returns : goal.returns
returns g c = noted refl c.idle.ensures.steps c.idle.ensures.leaves
