use Rattle.std.proofs.Common.{◌≡◌, take, map}
use Rattle.vx_plan.specs.Components.{port_names}
use Rattle.vx_plan.specs.Targets.{in_order, names_reading}
use Rattle.vx_plan.proofs.targets.readers_of.Given as goal

abbrev pub invariant-loop-i : goal.invariant-loop-i
invariant-loop-i l = l.lists ≡ map (λ port. in_order (names_reading l.owner.name port l.components)) (take l.i (port_names l.owner))
