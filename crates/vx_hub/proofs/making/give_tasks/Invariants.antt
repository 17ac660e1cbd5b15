use Rattle.std.proofs.Common.{◌≡◌, ◌≤◌, length}
use Rattle.vx_hub.specs.Beginning.{AreTaskedFrom}
use Rattle.vx_hub.proofs.Begun.{SameBelow}
use Rattle.vx_hub.proofs.making.give_tasks.Given as goal

abbrev pub invariant-loop-named : goal.invariant-loop-named
invariant-loop-named g l = record {
  roles_size : length l.roles.items ≡ length l.ports.items;
  size : length l.states.items ≡ length l.fn.states.items;
  within : length l.ports.items ≤ length l.fn.states.items;
  ports : SameBelow (length l.ports.items) l.ports.items l.fn.ports.items;
  roles : SameBelow (length l.roles.items) l.roles.items l.fn.roles.items;
  states : SameBelow (length l.ports.items) l.states.items l.fn.states.items;
  tasked : AreTaskedFrom (length l.ports.items) l.fn.states.items l.fn.roles.items l.fn.ports.items l.states.items;
}

abbrev pub decreases-loop-named : goal.decreases-loop-named
decreases-loop-named g l = length l.ports.items
