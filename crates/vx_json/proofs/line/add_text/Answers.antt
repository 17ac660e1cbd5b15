use Rattle.std.proofs.Common.{◌≡◌, true, sym, ◌∙◌, ap}
use Rattle.std.specs.Ordering.{is_lt}
use Rattle.vx_json.specs.Puts.{last_order}
use Rattle.vx_json.proofs.Putting.{below}
use Rattle.vx_json.proofs.line.add_text.Goals as goal

pub append_text-requires-clause-behind : goal.append_text-requires-clause-behind
append_text-requires-clause-behind c =
    let first : is_lt (last_order c.args.event.now.fields c.args.name.now) ≡ true = ap is_lt (sym c.last_order.ensures.order) ∙ sym c.is_lt.ensures ∙ c.if-is_lt.true in
    below c.args.event.now.fields c.args.name.now first
