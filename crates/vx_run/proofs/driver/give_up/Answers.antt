use Rattle.vx_run.proofs.Pacing.{given_on}
use Rattle.vx_run.proofs.driver.give_up.Goals as goal

pub returns-then-is_none-clause-on : goal.returns-then-is_none-clause-on
returns-then-is_none-clause-on g c = given_on c.args.fatal c.abandon_cause.result c.args.hub.now.engine.log c.abandon.new.self.engine.log c.abandon_cause.ensures c.abandon.ensures.only
