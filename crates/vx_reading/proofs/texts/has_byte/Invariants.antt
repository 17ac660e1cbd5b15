use Rattle.std.proofs.Common.{◌≡◌, drop}
use Rattle.vx_reading.specs.Judging.{has_byte}
use Rattle.vx_reading.proofs.texts.has_byte.Given as goal

-- the bytes that are left say what all say
abbrev pub invariant-loop-other : goal.invariant-loop-other
invariant-loop-other l = has_byte l.byte (drop l.other-index l.other-items) ≡ has_byte l.byte l.other-items
