use Rattle.std.proofs.Common.{◌<◌, ℕ}
use Rattle.std.specs.Prelude.{IfSome, slice_get}
use Rattle.vx_hub.specs.Waiting.{SomeoneChecks, ComesBy}
use Rattle.vx_hub.proofs.checks.soonest_check.Given as goal

abbrev pub invariant-loop-k : goal.invariant-loop-k
invariant-loop-k g l = record {
  checks : IfSome l.soonest (SomeoneChecks l.engine);
  only : (j : ℕ) → j < l.k → IfSome (slice_get l.mergers j) (ComesBy l.engine l.soonest);
}
