use Rattle.std.proofs.Common.{◌≡◌, take}
use Rattle.vx_keeping.specs.Given.{firsts_of}
use Rattle.vx_keeping.proofs.hosting.first_numbers.Given as goal

abbrev pub invariant-loop-i : goal.invariant-loop-i
invariant-loop-i l = l.numbers.items ≡ firsts_of (take l.i l.taken.items)
