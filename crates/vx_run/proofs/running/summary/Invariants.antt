use Rattle.std.proofs.Common.{◌≡◌}
use Rattle.vx_run.specs.Showing.{lines_of}
use Rattle.vx_run.proofs.running.summary.Given as goal

abbrev pub invariant-loop-number : goal.invariant-loop-number
invariant-loop-number g l = l.lines ≡ lines_of l.fn.hub.engine.log l.number
