use Rattle.std.proofs.Common.{◌≡◌, ◌<◌, ℕ, false}
use Rattle.vx_ready.specs.Asking.{goes_on}
use Rattle.vx_ready.proofs.ending.is_target.Given as goal

abbrev pub invariant-loop-port : goal.invariant-loop-port
invariant-loop-port l = (k : ℕ) → k < l.port → goes_on l.i k l.outlet ≡ false
