use Rattle.std.proofs.Common.{ap}
use Rattle.vx_record.proofs.Adding.{adds_none}
use Rattle.vx_hub.specs.declared.hub.Hub.{Hub}
use Rattle.vx_run.specs.Moments.{IsTimely}
use Rattle.vx_run.proofs.Pacing.{latest_of, latest_kept, leased_on, timely_on, timely_both}
use Rattle.vx_run.proofs.driver.lease.Goals as goal

pub returns-in-Some-clause-on : goal.returns-in-Some-clause-on
returns-in-Some-clause-on g c =
    let gave = g.C.Clock.gave c.args.clock.now in
    let old = c.args.hub.now.engine in
    let mid = c.lease.new.self.engine.log in
    timely_both gave old.log mid c.land.new.hub.engine.log
    (leased_on gave c.in-Some.work.instance _ old.log mid (latest_of gave c.args.now old.run.latest c.requires.given c.requires.moment) c.in-Some.ensures.hub.stands.legal c.in-Some.ensures.noted)
    (timely_on gave mid c.land.new.hub.engine.log c.land.ensures.on)

pub returns-in-Some-clause-moment : goal.returns-in-Some-clause-moment
returns-in-Some-clause-moment g c =
    latest_kept (g.C.Clock.gave c.args.clock.now) c.args.now c.args.hub.now.engine.run.latest c.lease.new.self.engine.run.latest c.land.new.hub.engine.run.latest
    c.in-Some.ensures.latest c.land.ensures.latest c.requires.given c.requires.moment

pub returns-in-None-clause-on : goal.returns-in-None-clause-on
returns-in-None-clause-on g c =
    adds_none (IsTimely (g.C.Clock.gave c.args.clock.now)) c.args.hub.now.engine.log c.lease.new.self.engine.log (ap (λ (hub : Hub g.row.P.Denot). hub.engine.log) c.in-None.ensures.unchanged)
