use Rattle.vx_moves.proofs.Noticing.{tasked}
use Rattle.vx_moves.proofs.settle.give_notice.Goals as goal

pub noticed-requires : goal.noticed-requires
noticed-requires g c = tasked g.P.Port.observed c.args.log.now c.args.notice.instance c.args.notice.batch c.args.states.now c.requires.legal.1
    c.requires.knows c.requires.creator

pub returns-clause-knows : goal.returns-clause-knows
returns-clause-knows g c = rw c.note.ensures (c.noticed.ensures.knows c.args.log.now c.requires.creator c.requires.knows c.requires.legal)
