use Rattle.std.proofs.Common.{◌∙◌}
use Rattle.vx_plan.proofs.Search.{alone, names_none}
use Rattle.vx_plan.proofs.walk.leads.Goals as goal

pub returns : goal.returns
returns c = c.leads_on.ensures ∙ alone c.args.plan.now c.args.name _ names_none
