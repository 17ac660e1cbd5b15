use Rattle.std.proofs.Common.{◌∙◌, sym}
use Rattle.vx_plan.proofs.Walks.{acknowledged_is}
use Rattle.vx_plan.proofs.plan.Plan.acknowledged.Goals as goal

pub returns-clause-walk : goal.returns-clause-walk
returns-clause-walk c = c.leads.ensures ∙ sym (acknowledged_is c.args.self.now c.args.source.now)
