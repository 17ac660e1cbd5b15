use Rattle.std.proofs.Common.{◌≡◌, ◌∙◌, ap, FitsSigned, w64}
use Rattle.std.specs.Fmt.{signed_decimal}
use Rattle.std.proofs.lemmas.Int.{to_z-of_z}
use Rattle.vx_value.specs.Texts.{same_text}
use Rattle.vx_value.proofs.Order.{answer_equal}
use Rattle.vx_json.proofs.number_move.is_written.Goals as goal

pub returns : goal.returns
returns c =
    let fits : FitsSigned w64 c.args.whole = c.ranges.whole in
    let text : c.format.result.now ≡ signed_decimal c.args.whole = simp to_z-of_z at c.format.ensures.text in
    c.eq.ensures ∙ answer_equal c.format.result.now c.args.text.now ∙ ap (λ x. same_text x c.args.text.now) text
