use Rattle.vx_run.specs.Moments.{IsTimeless}
use Rattle.vx_record.proofs.Adding.{adds_both}
use Rattle.vx_run.proofs.Pacing.{moved_on}
use Rattle.vx_run.proofs.driver.push.Goals as goal

pub returns-in-Err-clause-on : goal.returns-in-Err-clause-on
returns-in-Err-clause-on g c =
    let old = c.args.hub.now.engine.log in
    let mid = c.push_pending.new.self.engine.log in
    adds_both IsTimeless old mid c.give_up.new.hub.engine.log (moved_on c.args.instance old mid c.in-Err.ensures.only) c.give_up.ensures.on

pub returns-in_default-clause-on : goal.returns-in_default-clause-on
returns-in_default-clause-on g c = moved_on c.args.instance c.args.hub.now.engine.log c.push_pending.new.self.engine.log c.in_default.ensures.only
