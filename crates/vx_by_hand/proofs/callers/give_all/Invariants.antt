use Rattle.std.proofs.Common.{◌≡◌, length, ◌-◌, ◌≤◌, take}
use Rattle.vx_ends.specs.Observation.{Grows, SameBytes}
use Rattle.vx_by_hand.proofs.callers.give_all.Given as goal

abbrev pub invariant-loop-at : goal.invariant-loop-at
invariant-loop-at g l = record {
  given : Grows (g.P.Port.observed l.fn.port).given (g.P.Port.observed l.port).given (take l.at l.bytes);
  rest : SameBytes (record (g.P.Port.observed l.fn.port) { given = (g.P.Port.observed l.port).given }) (g.P.Port.observed l.port);
  within : l.at ≤ length l.bytes;
  faults : (g.P.Port.observed l.fn.port).faults ≤ (g.P.Port.observed l.port).faults;
  refusals : (g.P.Port.observed l.fn.port).refusals ≤ (g.P.Port.observed l.port).refusals;
  started : (g.P.Port.observed l.port).started ≡ (g.P.Port.observed l.fn.port).started;
  idles : (g.P.Port.observed l.fn.port).idles ≤ (g.P.Port.observed l.port).idles;
}

abbrev pub decreases-loop-at : goal.decreases-loop-at
decreases-loop-at g l = length l.bytes - l.at
