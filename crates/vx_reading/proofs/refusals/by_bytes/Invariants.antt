use Rattle.std.proofs.Common.{◌≡◌, take}
use Rattle.vx_value.specs.Texts.{ByteString}
use Rattle.vx_reading.specs.Conditions.{is_one}
use Rattle.vx_reading.specs.Refused.{is_kept}
use Rattle.vx_reading.proofs.refusals.by_bytes.Given as goal

abbrev pub invariant-loop-text : goal.invariant-loop-text
invariant-loop-text l = (text : ByteString) → is_kept l.refused text ≡ is_one (take l.text-index l.text-items) text
