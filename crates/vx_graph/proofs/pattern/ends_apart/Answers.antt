use Rattle.vx_graph.specs.Turns.{left_text}
use Rattle.vx_graph.proofs.Ends.{apart}
use Rattle.vx_graph.proofs.pattern.ends_apart.Goals as goal

pub returns-then-wanted-ne42 : goal.returns-then-wanted-ne42
returns-then-wanted-ne42 c =
    λ unlike. apart c.args.form.now (left_text c.args.text) c.in-Some.wanted c.in-Some-last_left.last c.in-Some.ensures c.in-Some-last_left.ensures
    c.if-wanted-ne42.true unlike
