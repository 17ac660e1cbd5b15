use Rattle.std.proofs.Common.{◌≡◌, [], length}
use Rattle.vx_places.specs.Holding.{Holds}
use Rattle.vx_hub.specs.Beginning.{HaveCapacities}
use Rattle.vx_hub.proofs.making.make_places.Given as goal

abbrev pub invariant-loop-component : goal.invariant-loop-component
invariant-loop-component l = record {
  holds : Holds l.places [];
  capacities : HaveCapacities l.plan.components l.places;
  size : length l.places ≡ l.component-index;
}
