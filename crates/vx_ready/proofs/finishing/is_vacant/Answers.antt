use Rattle.vx_ready.proofs.Done.{vacant_is}
use Rattle.vx_ready.proofs.finishing.is_vacant.Goals as goal

pub returns : goal.returns
returns g c =
    vacant_is c.args.engine.now.log c.args.i c.is_unbuffered.result c.is_sent.result c.holds_none-none.result c.both-sent.result c.both.result c.is_unbuffered.ensures c.is_sent.ensures c.holds_none-none.ensures c.both-sent.ensures c.both.ensures
