use Rattle.std.proofs.Common.{◌≡◌, ◌++◌}
use Rattle.vx_reduce.specs.Expiries.{old_numbers}
use Rattle.vx_reduce.proofs.expiry.old_numbers.Given as goal

-- the numbers so far, and those of the groups that are left, are all
abbrev pub invariant-loop-number : goal.invariant-loop-number
invariant-loop-number l = l.numbers.items ++ old_numbers l.expire_after l.now l.number-iterator ≡ old_numbers l.expire_after l.now l.entries.entries
