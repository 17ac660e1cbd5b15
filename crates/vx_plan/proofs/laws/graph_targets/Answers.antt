use Rattle.vx_plan.proofs.GraphTargets.{targets_of_graph}
use Rattle.vx_plan.proofs.laws.graph_targets.Goals as goal

pub returns : goal.returns
returns c = targets_of_graph
