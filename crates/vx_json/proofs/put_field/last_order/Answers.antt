use Rattle.std.proofs.Common.{◌-◌, sym, ◌∙◌, ap, arith}
use Rattle.vx_value.specs.Orders.{text_cmp}
use Rattle.vx_value.specs.Values.{named_datum}
use Rattle.vx_json.proofs.Putting.{last_order-get}
use Rattle.vx_json.proofs.put_field.last_order.Goals as goal

pub returns-clause-order : goal.returns-clause-order
returns-clause-order c =
    c.cmp.ensures ∙ ap (λ x. text_cmp x c.args.name.now) c.as_str.ensures
    ∙ sym (last_order-get c.args.fields.now (named_datum c.in-Some.field.now) c.args.name.now (c.len-count.result - 1) (omega (arith, c.len-count.ensures.len)) (sym c.in-Some.ensures.field))
