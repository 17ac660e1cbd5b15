use Rattle.std.proofs.Common.{arith, sym, refl, ◌∙◌, length, ◌<◌}
use Rattle.vx_ends.proofs.ScriptLemmas.{passes-bytes, is_nothing-drop}
use Rattle.vx_ends.proofs.script.is_passed_at.Goals as goal

pub returns-else-len-place : goal.returns-else-len-place
returns-else-len-place c =
    let whole = passes-bytes c.args.steps.now c.args.place.step c.args.place.offset c.in-Bytes.stream c.in-Bytes.bytes c.requires (rw c.in-Bytes.is at c.index-steps-place.is) in
    let more : c.args.place.offset < length c.in-Bytes.bytes = omega arith in
    let some = is_nothing-drop c.args.place.offset c.in-Bytes.bytes more in
    c.ends_within.ensures ∙ sym (whole ∙ rw some refl)
