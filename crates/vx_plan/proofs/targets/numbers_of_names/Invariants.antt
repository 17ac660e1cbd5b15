use Rattle.std.proofs.Common.{◌≡◌, ◌++◌, drop}
use Rattle.vx_plan.specs.Numbers.{numbers_of_names}
use Rattle.vx_plan.proofs.targets.numbers_of_names.Given as goal

-- what is left to add makes the list whole
abbrev pub invariant-loop-name : goal.invariant-loop-name
invariant-loop-name l = l.numbers ++ numbers_of_names l.components (drop l.name-index l.names) ≡ numbers_of_names l.components l.names
