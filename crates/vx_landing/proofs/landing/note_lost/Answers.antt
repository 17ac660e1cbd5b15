use Rattle.std.proofs.Common.{refl}
use Rattle.vx_landing.proofs.Answering.{left_out, noted}
use Rattle.vx_landing.proofs.landing.note_lost.Goals as goal

pub lose-requires-clause-left : goal.lose-requires-clause-left
lose-requires-clause-left g c = left_out c.args.engine.now.log c.args.i c.requires.stands.legal c.requires.out

pub returns : goal.returns
returns g c = noted refl c.lose.ensures.steps c.lose.ensures.leaves
