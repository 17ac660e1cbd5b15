use Rattle.std.proofs.Common.{◌≡◌, ◌≤◌, length, take, vec_capacity}
use Rattle.vx_hub.specs.Beginning.{capacities_in}
use Rattle.vx_hub.proofs.beginning.each_capacity.Given as goal

abbrev pub invariant-loop-stage : goal.invariant-loop-stage
invariant-loop-stage l = record {
  made : l.capacities.items ≡ capacities_in (take l.stage-index l.stages);
  size : length l.capacities.items ≡ l.stage-index;
  room : length l.stages ≤ vec_capacity l.capacities;
}
