use Rattle.std.proofs.Common.{◌≡◌, take}
use Rattle.vx_plan.specs.Components.{port_names}
use Rattle.vx_reading.proofs.graphs.ports_of.Given as goal

-- the ports so far
abbrev pub invariant-loop-i : goal.invariant-loop-i
invariant-loop-i l = l.ports ≡ take l.i (port_names l.component)
