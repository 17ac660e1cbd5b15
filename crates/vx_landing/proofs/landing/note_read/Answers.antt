use Rattle.vx_sourcecore.specs.Turns.{cut_of, reading_of}
use Rattle.vx_landing.proofs.Answering.{may_read, noted_read}
use Rattle.vx_landing.proofs.landing.note_read.Goals as goal

pub read-requires-clause-may : goal.read-requires-clause-may
read-requires-clause-may g c = let r = c.requires in may_read r.stands (cut_of c.args.turned.now) (reading_of c.args.turned.now) r.out r.once r.may r.readable r.lines

pub returns : goal.returns
returns g c = noted_read g.P.Port.observed (reading_of c.args.turned.now) c.read.ensures.steps c.read.ensures.leaves
