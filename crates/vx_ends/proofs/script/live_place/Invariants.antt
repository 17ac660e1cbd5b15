use Rattle.std.proofs.Common.{◌≡◌, ◌-◌, length}
use Rattle.vx_ends.specs.Script.{progress_of, SameObserved, upcoming}
use Rattle.vx_ends.proofs.script.live_place.Given as goal

abbrev pub invariant-loop-place : goal.invariant-loop-place
invariant-loop-place l = record {
  past : SameObserved (progress_of l.steps l.fn.from.step l.fn.from.offset).past (progress_of l.steps l.place.step l.place.offset).past;
  rest : upcoming (progress_of l.steps l.fn.from.step l.fn.from.offset).past (progress_of l.steps l.place.step l.place.offset).rest
      ≡ upcoming (progress_of l.steps l.fn.from.step l.fn.from.offset).past (progress_of l.steps l.fn.from.step l.fn.from.offset).rest;
}

abbrev pub decreases-loop-place : goal.decreases-loop-place
decreases-loop-place l = length l.steps - l.place.step
