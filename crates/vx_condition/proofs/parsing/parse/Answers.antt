use Rattle.vx_condition.specs.Trees.{disjunction_of}
use Rattle.vx_condition.proofs.Faulted.{kept_condition}
use Rattle.vx_condition.proofs.parsing.parse.Goals as goal

pub condition_of-requires : goal.condition_of-requires
condition_of-requires c = kept_condition c.args.text.now (disjunction_of c.in-Ok.tree) c.in-Ok.ensures.ok
