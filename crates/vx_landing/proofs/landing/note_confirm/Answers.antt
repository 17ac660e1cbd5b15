use Rattle.std.proofs.Common.{refl}
use Rattle.vx_landing.proofs.Answering.{left_out, noted}
use Rattle.vx_landing.proofs.Serving.{confirm_device}
use Rattle.vx_landing.proofs.landing.note_confirm.Goals as goal

pub confirm-requires-clause-may : goal.confirm-requires-clause-may
confirm-requires-clause-may g c = let r = c.requires in assumption (confirm_device c.args.engine.now.log c.args.i r.stands.legal r.out r.due.1.0)

pub confirm-requires-clause-left : goal.confirm-requires-clause-left
confirm-requires-clause-left g c = left_out c.args.engine.now.log c.args.i c.requires.stands.legal c.requires.out

pub returns : goal.returns
returns g c = noted refl c.confirm.ensures.steps c.confirm.ensures.leaves
