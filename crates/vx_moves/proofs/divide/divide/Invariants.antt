use Rattle.std.proofs.Common.{◌≡◌, ◌≤◌, ◌++◌, length, take, drop, vec_capacity}
use Rattle.vx_tasks.specs.Judging.{passed, stopped}
use Rattle.vx_moves.proofs.divide.divide.Given as goal

abbrev pub invariant-loop-on : goal.invariant-loop-on
invariant-loop-on l = record {
  line : l.held.items ≡ drop l.on-index l.fn.held.items ++ stopped (take l.on-index l.ports) (take l.on-index l.fn.held.items);
  outs : l.outputs.items ≡ passed (take l.on-index l.ports) (take l.on-index l.fn.held.items);
  same : l.held.room ≡ l.fn.held.room;
  few : length l.outputs.items ≤ l.on-index;
  room : length l.ports ≤ vec_capacity l.outputs;
}
