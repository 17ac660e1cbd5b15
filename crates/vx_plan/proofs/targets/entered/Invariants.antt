use Rattle.std.proofs.Common.{◌≡◌, ◌++◌, drop, if◌then◌else◌}
use Rattle.vx_plan.specs.Targets.{enter}
use Rattle.vx_plan.proofs.targets.entered.Given as goal

-- what is left to write makes the list whole
abbrev pub invariant-loop-other : goal.invariant-loop-other
invariant-loop-other l =
    l.list ++ (if l.placed then drop l.other-index l.names else enter l.name (drop l.other-index l.names)) ≡ enter l.name l.names
