use Rattle.std.proofs.Common.{◌∙◌, subst, sym}
use Rattle.vx_run.specs.Moments.{AreTimely}
use Rattle.vx_run.proofs.Counting.{each_of, force_of}
use Rattle.vx_run.proofs.Going.{began_with, size_stays}
use Rattle.vx_run.proofs.running.begin.Goals as goal

pub finish-requires-clause-moment : goal.finish-requires-clause-moment
finish-requires-clause-moment g c = subst (g.C.Clock.gave c.args.clock.now) (sym c.in-Ok.ensures.latest) c.now.ensures

pub finish-requires-clause-moments : goal.finish-requires-clause-moments
finish-requires-clause-moments g c = subst (AreTimely (g.C.Clock.gave c.args.clock.now)) (sym c.in-Ok.ensures.first) (c.now.ensures, tt)

pub returns-in-Ok-clause-installed : goal.returns-in-Ok-clause-installed
returns-in-Ok-clause-installed g c =
    let parts = c.args.parts in
    force_of parts.once parts.plan c.finish.result.history c.finish.result.fault
    (began_with parts.plan parts.once c.now.result c.in-Ok.hub.engine.log c.finish.result.history c.in-Ok.ensures.first c.finish.ensures.same c.finish.ensures.on)

pub returns-in-Ok-clause-none_missing : goal.returns-in-Ok-clause-none_missing
returns-in-Ok-clause-none_missing g c =
    let parts = c.args.parts in
    each_of parts.plan c.finish.result.history c.finish.result.ports c.finish.result.fault
    (c.finish.ensures.count ∙ size_stays parts.plan parts.once c.now.result c.in-Ok.hub.engine.log c.finish.result.history c.in-Ok.ensures.first c.finish.ensures.same c.in-Ok.ensures.hub.stands.legal)
