use Rattle.std.proofs.Common.{List, [], ◌∷◌, sym, ◌∙◌, subst}
use Rattle.vx_value.specs.Texts.{ByteString}
use Rattle.vx_condition.specs.Faults.{IsConditionFault}
use Rattle.vx_reading.specs.Trying.{Tries}
use Rattle.vx_reading.proofs.Trying.{tries_refused, on_ok}
use Rattle.vx_reading.proofs.tried.try_one.Goals as goal

pub returns-else-is_memory : goal.returns-else-is_memory
returns-else-is_memory c =
    let text = c.args.text.now in
    let is = subst (λ (t : ByteString). IsConditionFault t c.in-Err.fault) c.as_str.ensures c.in-Err.ensures.fault in
    on_ok c.refuse.result
    (λ grown. subst (λ (new : List ByteString). Tries (text ∷ []) (text ∷ []) c.args.refused.now new c.args.conditions.now c.args.conditions.now) (sym grown)
    (tries_refused text text c.args.refused.now c.args.conditions.now (c.in-Err.fault, (is, sym c.is_memory.ensures ∙ c.if-is_memory.false)))) c.refuse.ensures
