use Rattle.std.proofs.Common.{refl, inl}
use Rattle.vx_landing.proofs.Answering.{noted, shut_out}
use Rattle.vx_landing.proofs.landing.note_closed.Goals as goal

pub close-requires-clause-may : goal.close-requires-clause-may
close-requires-clause-may g c = let r = c.requires in record { device = r.may.device; unclosed = r.unclosed; over = inl (r.out, r.may.over) }

pub close-requires-clause-shut : goal.close-requires-clause-shut
close-requires-clause-shut g c = shut_out c.requires.stands c.args.i c.requires.out

pub returns : goal.returns
returns g c = noted refl c.close.ensures.steps c.close.ensures.leaves
