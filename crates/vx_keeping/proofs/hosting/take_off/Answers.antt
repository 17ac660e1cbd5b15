use Rattle.vx_keeping.proofs.Off.{off_same}
use Rattle.vx_keeping.proofs.hosting.take_off.Goals as goal

pub returns-clause-same : goal.returns-clause-same
returns-clause-same c =
    off_same c.args.taken.now.items c.discard_rest.new.taken.items c.args.ready.now.items c.gather_full.new.ready.items c.args.shelf.now c.gather_full.new.shelf c.discard_rest.new.shelf
    c.args.discarded.now.items c.discard_rest.new.discarded.items c.gather_full.ensures.same c.gather_full.ensures.dropped c.discard_rest.ensures.same c.discard_rest.ensures.outputs
