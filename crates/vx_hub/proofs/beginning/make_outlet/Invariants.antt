use Rattle.std.proofs.Common.{◌≡◌, length}
use Rattle.vx_plan.specs.Components.{port_names}
use Rattle.vx_plan.specs.Numbers.{reader_numbers}
use Rattle.vx_hub.proofs.Wiring.{wired_to}
use Rattle.vx_hub.proofs.beginning.make_outlet.Given as goal

abbrev pub invariant-loop-port : goal.invariant-loop-port
invariant-loop-port l = l.outlet ≡ wired_to (reader_numbers l.plan l.component.name) (length (port_names l.component)) l.port
