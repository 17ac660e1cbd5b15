use Rattle.std.proofs.Common.{true}
use Rattle.vx_run.specs.Moments.{IsTimeless}
use Rattle.vx_record.proofs.Adding.{adds_both}
use Rattle.vx_run.proofs.Pacing.{landed_on}
use Rattle.vx_run.proofs.driver.land.Goals as goal

pub returns-in-Err-clause-on : goal.returns-in-Err-clause-on
returns-in-Err-clause-on g c =
    let old = c.args.hub.now.engine.log in
    let mid = c.land.new.self.engine.log in
    adds_both IsTimeless old mid c.give_up.new.hub.engine.log (landed_on true c.work-landing.result old mid c.in-Err.ensures.hub.stands.legal c.in-Err.ensures.noted) c.give_up.ensures.on

pub returns-in_default-clause-on : goal.returns-in_default-clause-on
returns-in_default-clause-on g c = landed_on _ c.work-landing.result c.args.hub.now.engine.log c.land.new.self.engine.log c.in_default.ensures.hub.stands.legal c.in_default.ensures.noted
