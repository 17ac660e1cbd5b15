use Rattle.std.proofs.Common.{◌≡◌, true, take}
use Rattle.vx_json.specs.Runs.{are_plain}
use Rattle.vx_json.proofs.plain.plain_len.Given as goal

abbrev pub invariant-loop-i : goal.invariant-loop-i
invariant-loop-i l = are_plain (take l.i l.bytes) ≡ true
