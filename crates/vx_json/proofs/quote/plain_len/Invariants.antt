use Rattle.std.proofs.Common.{◌≡◌, take}
use Rattle.vx_json.specs.Written.{escapes}
use Rattle.vx_json.proofs.quote.plain_len.Given as goal

abbrev pub invariant-loop-i : goal.invariant-loop-i
invariant-loop-i l = escapes (take l.i l.text) ≡ take l.i l.text
