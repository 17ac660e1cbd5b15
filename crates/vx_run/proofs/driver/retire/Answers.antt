use Rattle.std.proofs.Common.{ap}
use Rattle.vx_hub.specs.declared.hub.Hub.{Hub}
use Rattle.vx_run.proofs.Pacing.{retired_on}
use Rattle.vx_run.proofs.driver.retire.Goals as goal

pub returns-clause-on : goal.returns-clause-on
returns-clause-on g c =
    retired_on c.retire.result c.args.hub.now.engine.log c.retire.new.self.engine.log c.retire.ensures.hub.stands.legal c.retire.ensures.noted
    c.retire.ensures.unchanged (ap (λ (hub : Hub g.row.P.Denot). hub.engine.log))
