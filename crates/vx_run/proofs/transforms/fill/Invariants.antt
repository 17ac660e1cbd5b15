use Rattle.std.proofs.Common.{◌≡◌, ◌≤◌, length, take, drop, map, reverse}
use Rattle.std.specs.Prelude.{vec_capacity}
use Rattle.vx_reading.specs.Conditions.{conditions_by}
use Rattle.vx_hub.specs.Making.{ArePickers, AreSlots, AreBare}
use Rattle.vx_run.proofs.transforms.fill.Given as goal

abbrev pub invariant-loop-component : goal.invariant-loop-component
invariant-loop-component l = record {
  left : reverse l.conditions.items ≡ map conditions_by (drop l.component-index l.plan.components);
  picked : ArePickers (take l.component-index l.plan.components) l.pickers.items;
  kept : AreSlots (take l.component-index l.plan.components) l.keepers.items;
  bare : AreBare l.keepers.items;
  pickers : length l.pickers.items ≡ l.component-index;
  keepers : length l.keepers.items ≡ l.component-index;
  room : length l.plan.components ≤ vec_capacity l.pickers;
  slots : length l.plan.components ≤ vec_capacity l.keepers;
}
