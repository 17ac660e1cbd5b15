use Rattle.std.proofs.Common.{◌≡◌, drop}
use Rattle.std.specs.List.{list_any}
use Rattle.vx_plan.specs.Components.{port_names}
use Rattle.vx_plan.specs.Targets.{reads}
use Rattle.vx_plan.specs.Walks.{reads_some}
use Rattle.vx_plan.proofs.walk.reads_some.Given as goal

-- the ports that are left say what all say
abbrev pub invariant-loop-i : goal.invariant-loop-i
invariant-loop-i l = list_any (reads l.reader l.owner.name) (drop l.i (port_names l.owner)) ≡ reads_some l.owner l.reader
