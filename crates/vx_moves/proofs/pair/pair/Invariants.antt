use Rattle.std.proofs.Common.{◌≡◌, ◌≤◌, ◌+◌, ◌++◌, length, reverse, vec_capacity}
use Rattle.vx_moves.specs.Creating.{paired}
use Rattle.vx_moves.proofs.pair.pair.Given as goal

abbrev pub invariant-loop-event : goal.invariant-loop-event
invariant-loop-event l = record {
  pairs : paired l.events l.copies ++ reverse l.outputs.items ≡ paired l.fn.events l.fn.copies;
  each : length l.events ≡ length l.copies;
  room : length l.events + length l.outputs.items ≤ vec_capacity l.outputs;
}

abbrev pub decreases-loop-event : goal.decreases-loop-event
decreases-loop-event l = length l.events
