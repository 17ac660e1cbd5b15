use Rattle.std.proofs.Common.{◌+◌, ◌++◌, List, [], ◌∷◌, take, ap, sym, ◌∙◌}
use Rattle.std.proofs.lemmas.List.{take_more}
use Rattle.vx_value.specs.Texts.{ByteString}
use Rattle.vx_reading.specs.Conditions.{is_one}
use Rattle.vx_reading.proofs.Refused.{kept_more}
use Rattle.vx_reading.proofs.refusals.by_bytes.Goals as goal

pub loop-text-preserved : goal.loop-text-preserved
loop-text-preserved c text =
    let items = c.as_slice-text-items.result.now in
    let i = c.loop-text.text-index in
    let item = c.text-item.result in
    kept_more c.loop-text.refused c.insert.new.self c.as_str.result (take i items) item c.as_str.ensures c.in-Ok.ensures.keys c.loop-text.invariant text
    ∙ ap (λ (texts : List ByteString). is_one texts text)
    (sym (take_more items i item c.loop-text-test.true ∙ ap (λ (t : ByteString). take i items ++ t ∷ []) (sym c.text-item.is)))
