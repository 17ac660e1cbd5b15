use Rattle.std.proofs.Common.{◌≡◌, ◌++◌, drop}
use Rattle.vx_plan.specs.Numbers.{numbers_named}
use Rattle.vx_plan.proofs.targets.push_numbers.Given as goal

-- what is left to add makes the list whole
abbrev pub invariant-loop-i : goal.invariant-loop-i
invariant-loop-i l = l.numbers ++ numbers_named l.i (drop l.i l.components) l.name ≡ l.initial.numbers ++ numbers_named 0 l.components l.name
