use Rattle.std.proofs.Common.{◌≡◌, ◌-◌, ◌<◌, length, get_or, sym, ◌∙◌, subst}
use Rattle.vx_json.specs.Walks.{EndsInnermost}
use Rattle.vx_json.proofs.Choices.{eq_of}
use Rattle.vx_json.proofs.Walks.{last-frame}
use Rattle.vx_json.proofs.walk.ends.Goals as goal

pub returns-in-Some : goal.returns-in-Some
returns-in-Some c h =
    let xs = c.args.stack.now.items in
    let f = c.in-Some.frame.now in
    let item = rw c.deref.ensures.value at c.in-Some.ensures.item in
    let some : 0 < length xs = item.3.0 in
    let at : f ≡ get_or xs (length xs - 1) f = item.1 in
    subst (λ st. EndsInnermost st c.args.b) (sym (last-frame xs f some at)) (sym (eq_of c.end_byte.result c.args.b h) ∙ c.end_byte.ensures)
