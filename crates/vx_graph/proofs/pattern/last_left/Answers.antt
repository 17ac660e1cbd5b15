use Rattle.vx_graph.proofs.Comparing.{last_of_port, last_of_dot}
use Rattle.vx_graph.proofs.pattern.last_left.Goals as goal

pub returns-in-Some : goal.returns-in-Some
returns-in-Some c = last_of_port c.args.text c.in-Some.last c.in-Some.ensures.0 c.in-Some.ensures.1

pub returns-in-Some-last_of : goal.returns-in-Some-last_of
returns-in-Some-last_of c = last_of_dot c.args.text c.in-Some-last_of.last c.in-Some-last_of.ensures.0 c.in-None.ensures c.in-Some-last_of.ensures.1
