use Rattle.std.proofs.Common.{◌≡◌, length, ◌-◌, ◌≤◌, take}
use Rattle.vx_ends.specs.Observation.{Grows, CountsBy, nothing}
use Rattle.vx_tasks.specs.Attempts.{OnlyGives}
use Rattle.vx_tasks.proofs.sending.give_all.Given as goal

abbrev pub invariant-loop-at : goal.invariant-loop-at
invariant-loop-at g l = record {
  within : l.at ≤ length l.bytes;
  given : Grows (g.P.Port.observed l.fn.port).given (g.P.Port.observed l.port).given (take l.at l.bytes);
  others : OnlyGives (g.P.Port.observed l.fn.port) (g.P.Port.observed l.port);
  counts : CountsBy nothing (g.P.Port.observed l.fn.port) (g.P.Port.observed l.port);
  started : (g.P.Port.observed l.port).started ≡ (g.P.Port.observed l.fn.port).started;
}

abbrev pub decreases-loop-at : goal.decreases-loop-at
decreases-loop-at g l = length l.bytes - l.at
