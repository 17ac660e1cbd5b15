use Rattle.std.proofs.Common.{◌≡◌, true, take}
use Rattle.vx_json.specs.Numbers.{are_digits}
use Rattle.vx_json.proofs.run.digits_len.Given as goal

abbrev pub invariant-loop-i : goal.invariant-loop-i
invariant-loop-i l = are_digits (take l.i l.bytes) ≡ true
