use Rattle.std.proofs.Common.{◌≡◌, ◌≤◌, length, vec_capacity}
use Rattle.vx_hub.specs.Beginning.{IsRoleBut, AreFor}
use Rattle.vx_hub.proofs.beginning.make_roles.Given as goal

abbrev pub invariant-loop-component : goal.invariant-loop-component
invariant-loop-component l = record {
  begun : AreFor IsRoleBut l.plan.components l.roles.items;
  size : length l.roles.items ≡ l.component-index;
  room : length l.plan.components ≤ vec_capacity l.roles;
}
