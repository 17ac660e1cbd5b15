use Rattle.std.proofs.Common.{◌≡◌, ◌≤◌, ℕ, length, slice_get, vec_capacity}
use Rattle.vx_hub.specs.Remains.{AreNumbered, ArePortsOf}
use Rattle.vx_hub.proofs.remains.ports_of.Given as goal

abbrev pub invariant-loop-i : goal.invariant-loop-i
invariant-loop-i g l = record {
  count : length l.port_slots.items ≡ l.i;
  numbers : AreNumbered 0 l.port_slots.items;
  ports : ArePortsOf g.P.Port.observed l.fn.states l.port_slots.items;
  size : length l.states ≡ length l.fn.states;
  rest : (j : ℕ) → l.i ≤ j → slice_get l.states j ≡ slice_get l.fn.states j;
  room : length l.fn.states ≤ vec_capacity l.port_slots;
}
