use Rattle.std.proofs.Common.{◌≡◌, ◌≤◌, length, vec_capacity}
use Rattle.vx_hub.specs.Beginning.{IsBegun, AreFor}
use Rattle.vx_hub.proofs.beginning.make_states.Given as goal

abbrev pub invariant-loop-component : goal.invariant-loop-component
invariant-loop-component g l = record {
  begun : AreFor (IsBegun l.plan) l.plan.components l.states.items;
  size : length l.states.items ≡ l.component-index;
  room : length l.plan.components ≤ vec_capacity l.states;
}
