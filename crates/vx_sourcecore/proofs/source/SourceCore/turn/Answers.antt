use Rattle.vx_sourcecore.proofs.Counting.{counts_so, did_so, uncounted_so, unmoved_so}
use Rattle.vx_sourcecore.proofs.Lining.{few_ok}
use Rattle.vx_sourcecore.proofs.Following.{turned_ok}
use Rattle.vx_sourcecore.proofs.source.SourceCore.turn.Goals as goal

pub returns-in-Ok-clause-few : goal.returns-in-Ok-clause-few
returns-in-Ok-clause-few g c = few_ok c.args.self.now c.take.new.self c.take.result c.take.ensures.some c.take.ensures.brings

pub returns-in-Ok-clause-turned : goal.returns-in-Ok-clause-turned
returns-in-Ok-clause-turned g c =
    turned_ok (g.P.Port.observed c.args.port.now).ended (g.P.Port.observed c.start.new.self).ended c.args.self.now c.take.new.self c.take.result c.start.ensures.bytes.ended
    c.take.ensures.some c.take.ensures.open c.take.ensures.brings

pub returns-in-Ok-clause-counts : goal.returns-in-Ok-clause-counts
returns-in-Ok-clause-counts g c =
    counts_so (g.P.Port.observed c.args.port.now).started c.take.result (g.P.Port.observed c.args.port.now) (g.P.Port.observed c.start.new.self) (g.P.Port.observed c.take.new.port)
    c.in-Ok.ensures.counts c.in-Ok.ensures.started c.take.ensures.counts c.take.ensures.did

pub returns-in-Ok-clause-did : goal.returns-in-Ok-clause-did
returns-in-Ok-clause-did g c =
    did_so c.take.result (g.P.Port.observed c.args.port.now) (g.P.Port.observed c.start.new.self) (g.P.Port.observed c.take.new.port)
    c.in-Ok.ensures.bytes c.in-Ok.ensures.cause.later c.in-Ok.ensures.refusals c.in-Ok.ensures.idles c.in-Ok.ensures.started c.take.ensures.did

pub returns-in-Ok-clause-uncounted : goal.returns-in-Ok-clause-uncounted
returns-in-Ok-clause-uncounted g c =
    uncounted_so c.take.result (g.P.Port.observed c.args.port.now) (g.P.Port.observed c.start.new.self) (g.P.Port.observed c.take.new.port) c.in-Ok.ensures.counts c.take.ensures.uncounted

pub returns-in-Ok-clause-unmoved : goal.returns-in-Ok-clause-unmoved
returns-in-Ok-clause-unmoved g c =
    unmoved_so c.take.result (g.P.Port.observed c.args.port.now) (g.P.Port.observed c.start.new.self) (g.P.Port.observed c.take.new.port)
    c.in-Ok.ensures.bytes c.in-Ok.ensures.cause.later c.in-Ok.ensures.refusals c.in-Ok.ensures.idles c.take.ensures.unmoved
