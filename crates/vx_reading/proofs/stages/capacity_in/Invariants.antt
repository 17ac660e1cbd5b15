use Rattle.std.proofs.Common.{◌≡◌, ◌+◌, drop}
use Rattle.vx_reading.specs.Stages.{capacity_in}
use Rattle.vx_reading.proofs.stages.capacity_in.Given as goal

-- what is left to add makes the sum whole
abbrev pub invariant-loop-stage : goal.invariant-loop-stage
invariant-loop-stage l = l.room + capacity_in (drop l.stage-index l.stages) ≡ capacity_in l.stages
