use Rattle.vx_ready.proofs.Done.{source_done_is}
use Rattle.vx_ready.proofs.finishing.is_source_done.Goals as goal

pub returns : goal.returns
returns g c =
    source_done_is g.P.Port.observed c.args.engine.now c.requires.stands c.args.i c.requires.within c.requires.settled c.is_dry.result c.is_sent.result c.all_noticed.result c.is_confirm_due.result c.both-sent.result c.both-confirmed.result c.both.result
    c.is_dry.ensures c.is_sent.ensures c.all_noticed.ensures c.is_confirm_due.ensures c.both-sent.ensures c.both-confirmed.ensures c.both.ensures
