use Rattle.std.proofs.Common.{◌≡◌, take, false}
use Rattle.vx_ends.specs.Script.{has_ended}
use Rattle.vx_ends.proofs.script.ends_within.Given as goal

abbrev pub invariant-loop-step : goal.invariant-loop-step
invariant-loop-step l = has_ended l.stream (take l.step-index l.steps) ≡ false
