use Rattle.std.proofs.Common.{◌≡◌, ◌++◌, ◌∷◌, [], true, arith, sym, ◌∙◌, ap, subst}
use Rattle.std.proofs.lemmas.Grind.{common_steps}
use Rattle.std.specs.Ordering.{is_lt}
use Rattle.vx_value.specs.Events.{with_field, last_below}
use Rattle.vx_value.specs.Values.{datum_of}
use Rattle.vx_json.specs.Puts.{last_order}
use Rattle.vx_json.proofs.Putting.{field, with-last, below}
use Rattle.vx_json.proofs.put_field.put_field.Goals as goal

pub push-requires : goal.push-requires
push-requires c =
    let first : is_lt (last_order c.args.fields.now c.as_str.result.now) ≡ true = ap is_lt (sym c.last_order.ensures.order) ∙ sym c.is_lt.ensures ∙ c.if-not-is_lt.false in
    subst (λ n. last_below c.args.fields.now n ≡ true) c.as_str.ensures (below c.args.fields.now c.as_str.result.now first)

pub returns : goal.returns
returns c =
    let first : is_lt (last_order c.args.fields.now c.as_str.result.now) ≡ true = ap is_lt (sym c.last_order.ensures.order) ∙ sym c.is_lt.ensures ∙ c.if-not-is_lt.false in
    let behind = subst (λ n. last_below c.args.fields.now n ≡ true) c.as_str.ensures (below c.args.fields.now c.as_str.result.now first) in
    let whole : with_field c.args.fields.now c.args.name (datum_of c.args.value) ≡ c.args.fields.now ++ field c.args.name (datum_of c.args.value) ∷ [] = with-last c.args.fields.now c.args.name (datum_of c.args.value) c.last_order.ensures.rising behind in
    grind (arith, common_steps, whole)
