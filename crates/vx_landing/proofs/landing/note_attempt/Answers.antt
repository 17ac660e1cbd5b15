use Rattle.std.proofs.Common.{refl}
use Rattle.vx_landing.proofs.Answering.{left_out, may_attempt, noted}
use Rattle.vx_landing.proofs.landing.note_attempt.Goals as goal

pub attempt-requires-clause-may : goal.attempt-requires-clause-may
attempt-requires-clause-may g c = let r = c.requires in may_attempt r.stands r.out r.once r.may r.whole r.well r.blackhole_ok

pub attempt-requires-clause-left : goal.attempt-requires-clause-left
attempt-requires-clause-left g c = left_out c.args.engine.now.log c.args.i c.requires.stands.legal c.requires.out

pub returns : goal.returns
returns g c = noted refl c.attempt.ensures.steps c.attempt.ensures.leaves
