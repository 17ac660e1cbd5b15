use Rattle.vx_ready.proofs.Surveys.{NoneSends}
use Rattle.vx_ready.proofs.ending.is_named.Given as goal

abbrev pub invariant-loop-j : goal.invariant-loop-j
invariant-loop-j g l = NoneSends l.engine.log l.i l.j
