use Rattle.std.proofs.Common.{◌≡◌, drop}
use Rattle.vx_reading.specs.Made.{is_unbroken}
use Rattle.vx_reading.proofs.texts.is_unbroken.Given as goal

-- the bytes that are left say what all say
abbrev pub invariant-loop-byte : goal.invariant-loop-byte
invariant-loop-byte l = is_unbroken (drop l.byte-index l.byte-items) ≡ is_unbroken l.byte-items
