use Rattle.std.proofs.Common.{◌≡◌, take, length}
use Rattle.vx_ends.specs.Silent.{observed_if}
use Rattle.vx_ends.specs.Observation.{Grows}
use Rattle.vx_plan.specs.Ports.{port_of}
use Rattle.vx_hub.specs.Making.{AreUntouched}
use Rattle.vx_run.specs.Calling.{port_calls}
use Rattle.vx_run.proofs.preparing.ports.Given as goal

abbrev pub invariant-loop-component : goal.invariant-loop-component
invariant-loop-component g l = record {
  count : length l.ports ≡ l.component-index;
  untouched : AreUntouched (observed_if g.W.Port.Port.observed) (port_of l.once l.plan.global.data_dir) l.plan.components l.ports;
  called : Grows (g.W.World.calls l.fn.world) (g.W.World.calls l.world) (port_calls (port_of l.once l.plan.global.data_dir) (take l.component-index l.plan.components));
  texts : g.W.World.texts l.world ≡ g.W.World.texts l.fn.world;
  faults : g.W.World.faults l.world ≡ g.W.World.faults l.fn.world;
}
