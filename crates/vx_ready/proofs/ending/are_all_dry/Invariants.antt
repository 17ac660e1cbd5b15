use Rattle.vx_ready.proofs.Surveys.{AreDry}
use Rattle.vx_ready.proofs.ending.are_all_dry.Given as goal

abbrev pub invariant-loop-j : goal.invariant-loop-j
invariant-loop-j g l = AreDry l.engine.log l.j
