use Rattle.std.proofs.Common.{◌≡◌, drop}
use Rattle.vx_keeping.specs.Given.{is_among}
use Rattle.vx_keeping.proofs.hosting.is_among.Given as goal

-- the numbers that are left say what all say
abbrev pub invariant-loop-other : goal.invariant-loop-other
invariant-loop-other l = is_among (drop l.other-index l.numbers) l.number ≡ is_among l.numbers l.number
