use Rattle.vx_plan.proofs.FirstPlan.{first_stands}
use Rattle.vx_plan.proofs.laws.first_plan_stands.Goals as goal

pub returns : goal.returns
returns c = first_stands
